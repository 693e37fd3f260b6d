use Rattle.exchange.specs.Bus.{bus_model}
use Rattle.bench.specs.Counting.{Works}
use Rattle.bench.proofs.counting.count_outcomes.Given as goal

abbrev pub invariant-loop-made : goal.invariant-loop-made
invariant-loop-made g l =
    let hs = g.M.Masters.hosts in
    let ds = g.P.Ports.devices in
    Works hs ds l.masters l._made (bus_model l.initial.bus)
    l.count (bus_model l.bus)
