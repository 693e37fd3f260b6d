-- What a program reads.
use Rattle.std.specs.Prelude.{ℕ, ◌⊎◌, List, [], ◌∷◌, Option, Some, None}
use Rattle.std.specs.declared.io.Error.{Error}

module _ {R : Type 0} (gives : R → List ℕ → R → Type 0) where
  module _ (ended : R → Type 0) where
    -- these bytes are read, as far as the second, or all that there are before the input's end
    abbrev pub Reads : R → List ℕ → R → Type 0
    Reads s [] t = gives s [] t × ended t
    Reads s (x ∷ []) t = (u : R) × gives s (x ∷ []) u × gives u [] t × ended t
    Reads s (x ∷ y ∷ []) t = gives s (x ∷ y ∷ []) t ⊎ ((u : R) × gives s (x ∷ []) u × gives u (y ∷ []) t)
    Reads s (x ∷ y ∷ z ∷ xs) t = ⊥

  module _ (fails : R → Error → R → Type 0) where
    -- the first read fails with e, or the one after a single byte
    abbrev pub FailsToRead : R → R → Error → Type 0
    FailsToRead s t e = fails s e t ⊎ ((x : ℕ) × (u : R) × gives s (x ∷ []) u × fails u e t)

-- the first two bytes, if there are as many
abbrev pub first_two : List ℕ → Option (List ℕ)
first_two [] = None
first_two (x ∷ []) = None
first_two (x ∷ y ∷ xs) = Some (x ∷ y ∷ [])
