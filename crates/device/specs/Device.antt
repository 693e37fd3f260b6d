-- What a device means: a meaning, what each step answers and makes of it, and what hold may answer.
use Rattle.std.specs.Prelude.{ℕ, Bool}
use Rattle.transfer.specs.declared.leg.Direction.{Direction}

-- answer and next meaning of a step depend on the meaning and the input alone; hold changes no
-- meaning
pub record Behaviour : Type 1 where
  pub Meaning : Type 0
  pub select : Meaning → Direction → Bool × Meaning
  pub put : Meaning → ℕ → Bool × Meaning
  pub take : Meaning → ℕ × Meaning
  pub finish : Meaning → Meaning
  -- whether hold may answer this
  pub holds : Meaning → ℕ → Type 0

-- a step that a device was asked, with its input and then its answer
pub data Step : Type 0 where
  select : Direction → Bool → Step
  put : ℕ → Bool → Step
  take : ℕ → Step
  finish : Step
