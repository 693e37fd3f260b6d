-- Parts of different types side by side: one part and the rest.
use Rattle.std.specs.Prelude.{ℕ, zero, suc, Bool, List, [], ◌∷◌}
use Rattle.std.specs.List.{list_any}

-- something of each behaviour of a list
abbrev pub Bank : {B : Type 1} → (B → Type 0) → List B → Type 0
Bank F [] = Unit {0}
Bank F (b ∷ bs) = F b × Bank F bs

-- the same step for each part
abbrev pub bank_map : {B : Type 1} {F G : B → Type 0} → ((b : B) → F b → G b) →
    (bs : List B) → Bank F bs → Bank G bs
bank_map f [] p = tt
bank_map f (b ∷ bs) p = (f b p.0, bank_map f bs p.1)

-- what each part answers, in their order
abbrev pub bank_list : {B : Type 1} {F : B → Type 0} {X : Type 0} → ((b : B) → F b → X) →
    (bs : List B) → Bank F bs → List X
bank_list f [] p = []
bank_list f (b ∷ bs) p = f b p.0 ∷ bank_list f bs p.1

-- something holds of each part
abbrev pub BankAll : {B : Type 1} {F : B → Type 0} → ((b : B) → F b → Type 0) →
    (bs : List B) → Bank F bs → Type 0
BankAll Q [] p = Unit {0}
BankAll Q (b ∷ bs) p = Q b p.0 × BankAll Q bs p.1

-- part n, counted from 0, answers and takes a step; where there is none the answer is r
abbrev pub bank_update : {B : Type 1} {F : B → Type 0} {R : Type 0} →
    R → ((b : B) → F b → R × F b) → (bs : List B) → Bank F bs → ℕ → R × Bank F bs
bank_update r f [] p n = (r, tt)
bank_update r f (b ∷ bs) p zero = let a = f b p.0 in (a.0, (a.1, p.1))
bank_update r f (b ∷ bs) p (suc n) = let a = bank_update r f bs p.1 n in (a.0, (p.0, a.1))

-- whether one of them answers with yes
abbrev pub any_true : List Bool → Bool
any_true vs = list_any (λ v. v) vs
