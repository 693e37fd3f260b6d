-- Letters and strings: what a transfer puts on the lines, and which string comes first.
use Rattle.std.specs.Prelude.{ℕ, Bool, true, false, if◌then◌else◌, List, [], ◌∷◌, ◌==◌, nat_lt}
use Rattle.std.specs.Cmp.Lexicographic.{pointwise}

-- a bit, a stop or a repeated start
pub data Letter : Type 0 where
  zero stop restart one : Letter

-- their order
abbrev pub rank : Letter → ℕ
rank zero = 0
rank stop = 1
rank restart = 2
rank one = 3

abbrev pub bit_letter : Bool → Letter
bit_letter true = one
bit_letter false = zero

abbrev pub same_letter : Letter → Letter → Bool
same_letter a b = rank a == rank b

abbrev pub same_string : List Letter → List Letter → Bool
same_string ts us = pointwise same_letter ts us

-- t comes first, or is the same: strings compare at the first difference
abbrev pub first_or_same : List Letter → List Letter → Bool
first_or_same [] us = true
first_or_same (t ∷ ts) [] = false
first_or_same (t ∷ ts) (u ∷ us) =
    if same_letter t u then first_or_same ts us else nat_lt (rank t) (rank u)
