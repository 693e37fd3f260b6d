-- Letters are told apart by their rank, and strings by their letters.
use Rattle.std.proofs.Common.{◌≡◌, true, ◌⊎◌, List, refl, ap, arith}
use lib.Pointwise.{pointwise_decides}
use Rattle.std.proofs.lemmas.Bool.{eqb-true, eq-eqb}
use Rattle.law.specs.Letter.{Letter, rank, same_letter, same_string}

pub same_rank : (t u : Letter) → rank t ≡ rank u → t ≡ u
same_rank t u h = grind arith

pub cases_letter : (t u : Letter) → (t ≡ u) ⊎ (t ≡ u → ⊥)
cases_letter t u = grind arith

pub same_is : (t u : Letter) → same_letter t u ≡ true → t ≡ u
same_is t u h = same_rank t u (eqb-true (rank t) (rank u) h)

letters_decide : (t u : Letter) → (same_letter t u ≡ true → t ≡ u) × (t ≡ u → same_letter t u ≡ true)
letters_decide t u = (same_is t u, λ e. eq-eqb (rank t) (rank u) (ap rank e))

-- strings that compare the same are the same
pub same_of : (ts us : List Letter) → same_string ts us ≡ true → ts ≡ us
same_of ts us h = (pointwise_decides letters_decide ts us).0 h

pub same_refl : (ts : List Letter) → same_string ts ts ≡ true
same_refl ts = (pointwise_decides letters_decide ts ts).1 refl
