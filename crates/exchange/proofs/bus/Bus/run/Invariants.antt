use Rattle.std.proofs.Common.{◌-◌, ◌*◌, ◌≤◌}
use Rattle.exchange.specs.Bus.{bus_model}
use Rattle.law.specs.Limits.{most_masters}
use Rattle.exchange.proofs.Counting.{Reached}
use Rattle.exchange.proofs.bus.Bus.run.Given as goal

abbrev pub invariant-loop-ticks : goal.invariant-loop-ticks
invariant-loop-ticks g l =
    let hs = g.M.Masters.hosts in
    let ds = g.P.Ports.devices in
    (l.ticks ≤ l.n) × (l.outcomes ≤ most_masters * l.ticks) × (l.busy ≤ l.ticks) ×
    Reached hs ds g.P.Ports.asked (bus_model l.initial.self) l.initial.self.ports
    (record { bus = bus_model l.self; ticks = l.ticks; outcomes = l.outcomes; busy = l.busy }) l.self.ports

abbrev pub decreases-loop-ticks : goal.decreases-loop-ticks
decreases-loop-ticks g l = l.n - l.ticks
