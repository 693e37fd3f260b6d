use Rattle.std.proofs.Common.{◌≡◌, ◌+◌, ◌*◌, ◌≤◌, ◌++◌, ◌∷◌, length}
use Rattle.text.specs.Digits.{digit_code}
use Rattle.listing.proofs.Masters.{so_far}
use Rattle.listing.proofs.marks.push_numbers.Given as goal

abbrev pub invariant-loop-number : goal.invariant-loop-number
invariant-loop-number g l =
    (l.text.bytes ≡ l.initial.text.bytes ++ so_far (λ n. l.before ++ (digit_code n ∷ l.after)) l.wanted l.number l.masters)
    × (length l.text.bytes ≤ length l.initial.text.bytes + l.number * (length l.before + 1 + length l.after))
