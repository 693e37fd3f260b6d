use Rattle.std.proofs.Common.{◌≡◌, ℕ, List, ◌++◌}
use Rattle.std.specs.Io.KnownBytes.{Appends}
use Rattle.support.proofs.output.AnyOutput.put.Given as goal

abbrev pub invariant-loop : goal.invariant-loop
invariant-loop g l = (front : List ℕ) × (front ++ l.rest ≡ l.bytes) × Appends (g.W.Write.contents l.fn.self)
    (g.W.Write.contents l.self) front
