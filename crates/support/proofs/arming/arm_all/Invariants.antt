use Rattle.std.proofs.Common.{◌≡◌}
use Rattle.exchange.specs.Bus.{bus_model}
use Rattle.support.specs.ArmAll.{all_armed}
use Rattle.support.proofs.arming.arm_all.Given as goal

abbrev pub invariant-loop-master : goal.invariant-loop-master
invariant-loop-master g l =
    let hs = g.M.Masters.hosts in
    let ds = g.P.Ports.devices in
    bus_model l.bus ≡ all_armed hs ds l.master (bus_model l.initial.bus)
