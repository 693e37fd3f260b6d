use Rattle.std.proofs.Common.{ℕ, List}
use Rattle.std.specs.Fmt.{WritesInCalls}
use Rattle.exchange.specs.Bus.{bus_model}
use Rattle.support.specs.PrintedRun.{TicksLeadTo}
use Rattle.support.proofs.run.print_run.Given as goal

abbrev pub invariant-loop-made : goal.invariant-loop-made
invariant-loop-made g l =
    let hs = g.M.Masters.hosts in
    let ds = g.P.Ports.devices in
    (text : List ℕ) × TicksLeadTo hs ds l.masters l._made (bus_model l.fn.bus) text (record { bus = bus_model l.bus; listing = l.listing })
    × WritesInCalls g.O.Output.takes l.fn.out text l.out
