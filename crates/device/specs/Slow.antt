-- The slow layer: hold answers the larger of its own number and the answer below.
use Rattle.std.specs.Prelude.{◌≡◌, ℕ, max}
use Rattle.device.specs.declared.slow.Slow.{Slow}
use Rattle.device.specs.Device.{Behaviour, Step}

module _ (b : Behaviour) where
  pub record SlowModel : Type 0 where
    pub number : ℕ
    pub below : b.Meaning

  abbrev pub slow_model : {D : Type 0} → (D → b.Meaning) → Slow D → SlowModel
  slow_model meaning s = record { number = s.number; below = meaning s.device }

  -- the answer below is the answer of the layer
  abbrev pub answer_over : {R : Type 0} → SlowModel → R × b.Meaning → R × SlowModel
  answer_over m a = (a.0, record m { below = a.1 })

  abbrev pub slow_over : Behaviour
  slow_over = record {
    Meaning = SlowModel;
    select = λ m d. answer_over m (b.select m.below d);
    put = λ m x. answer_over m (b.put m.below x);
    take = λ m. answer_over m (b.take m.below);
    finish = λ m. record m { below = b.finish m.below };
    holds = λ m h. (below : ℕ) × b.holds m.below below × (h ≡ max m.number below);
  }

-- a step reaches the device below, once
abbrev pub SlowStepsTo : {D : Type 0} → (D → Step → D → Type 0) → Slow D → Step → Slow D → Type 0
SlowStepsTo steps_to x s z = (z.number ≡ x.number) × steps_to x.device s z.device

-- and so does hold
abbrev pub SlowHoldsTo : {D : Type 0} → (D → ℕ → D → Type 0) → Slow D → ℕ → Slow D → Type 0
SlowHoldsTo holds_to x h z =
    (below : ℕ) × holds_to x.device below z.device × (h ≡ max x.number below) × (z.number ≡ x.number)
