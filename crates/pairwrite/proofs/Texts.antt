-- The text for what was read.
use Rattle.std.proofs.Common.{◌≡◌, ℕ, List, [], ◌∷◌, Some, None, refl, subst, slice_index}
use Rattle.host.specs.ListHost.{ListHostModel}
use Rattle.pairwrite.specs.Input.{first_two}
use Rattle.pairwrite.specs.Run.{Prints, run_lines}
use Rattle.pairwrite.specs.Setup.{Wants}

pub none : (xs : List ℕ) → None ≡ first_two xs → Prints xs []
none [] e = refl
none (x ∷ []) e = refl
none (x ∷ y ∷ xs) e = absurd (cc)

pub two : (xs bytes : List ℕ) (m n : ListHostModel) → Some bytes ≡ first_two xs → Wants (slice_index bytes 0) m →
    Wants (slice_index bytes 1) n → Prints xs (run_lines m n)
two [] bytes m n e first second = absurd (cc)
two (x ∷ []) bytes m n e first second = absurd (cc)
two (x ∷ y ∷ xs) bytes m n e first second =
    let same : bytes ≡ x ∷ y ∷ [] = cc in
    (m, n, subst (λ b. Wants (slice_index b 0) m) same first, subst (λ b. Wants (slice_index b 1) n) same second, refl)
