-- What is made, told by two accounts of one answer.
use Rattle.std.proofs.Common.{◌≡◌, ℕ, Ok, Result, sym, ap, ◌∙◌}
use Rattle.transfer.specs.declared.refusal.Refusal.{Refusal}
use Rattle.transfer.specs.Refusal.{answer}

pub ok_same : {X : Type 0} {x y : X} → ◌≡◌ {A = Result X ℕ} (Ok x) (Ok y) → x ≡ y
ok_same e = cc

-- what a call made that was not refused
pub unwrapped : {T X : Type 0} (model : T → X) (r : Result T Refusal) (v : T) (x : Result X ℕ) → answer model r ≡ x → r ≡ Ok v →
    Ok (model v) ≡ x
unwrapped model r v x e made = sym (ap (answer model) made) ∙ e

-- what is made at a known address
pub at : {X : Type 0} (make : ℕ → Result X ℕ) (x y : X) (address known : ℕ) → Ok x ≡ make address → address ≡ known →
    make known ≡ Ok y → x ≡ y
at make x y address known e is made_there = cc
