use Rattle.std.proofs.Common.{◌≡◌, ℕ, ◌+◌}
use Rattle.exchange.specs.Bus.{bus_model}
use Rattle.examples.specs.Run.{stop_within}
use Rattle.examples.proofs.run.first_stop.Given as goal

abbrev pub invariant-loop-made : goal.invariant-loop-made
invariant-loop-made l = (k : ℕ) → l._made + k ≡ l._made-end →
    stop_within l._made-end (bus_model l.initial.bus) ≡ stop_within k (bus_model l.bus)
