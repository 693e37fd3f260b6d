-- The busy layer: after a selection in which a put got yes, the next selects answer no and do not
-- reach below.
use Rattle.std.specs.Prelude.{◌≡◌, ℕ, ◌<◌, ◌-◌, Bool, false, if◌then◌else◌, nat_lt}
use Rattle.device.specs.declared.busy.Busy.{Busy}
use Rattle.device.specs.declared.selection.Selection.{Selection}
use Rattle.device.specs.declared.selection.Selection.TheVariants.{Closed}
use Rattle.device.specs.Device.{Behaviour, Step, select, put, take, finish}
use Rattle.device.specs.Selection.{selection_after_select, selection_after_put, is_written}

module _ (b : Behaviour) where
  pub record BusyModel : Type 0 where
    -- how many selects are refused after such a selection, and how many of them are to come
    pub number : ℕ
    pub left : ℕ
    pub selection : Selection
    pub below : b.Meaning

  abbrev pub busy_model : {D : Type 0} → (D → b.Meaning) → Busy D → BusyModel
  busy_model meaning l =
      record { number = l.number; left = l.left; selection = l.selection; below = meaning l.device }

  abbrev pub new_busy : ℕ → b.Meaning → BusyModel
  new_busy n m = record { number = n; left = 0; selection = Closed; below = m }

  abbrev pub after_refusal : BusyModel → BusyModel
  after_refusal m = record m { left = m.left - 1 }

  -- the answer below is the answer of the layer
  abbrev pub answer_to_select : BusyModel → Bool × b.Meaning → Bool × BusyModel
  answer_to_select m a =
      (a.0, record m { selection = selection_after_select m.selection a.0; below = a.1 })

  abbrev pub answer_to_put : BusyModel → Bool × b.Meaning → Bool × BusyModel
  answer_to_put m a =
      (a.0, record m { selection = selection_after_put m.selection a.0; below = a.1 })

  abbrev pub answer_to_take : BusyModel → ℕ × b.Meaning → ℕ × BusyModel
  answer_to_take m a = (a.0, record m { below = a.1 })

  -- a finish closes the selection
  abbrev pub after_finish : BusyModel → BusyModel
  after_finish m = record m {
    left = if is_written m.selection then m.number else m.left;
    selection = Closed;
    below = b.finish m.below;
  }

  abbrev pub busy_over : Behaviour
  busy_over = record {
    Meaning = BusyModel;
    select = λ m d.
        if nat_lt 0 m.left
        then (false, after_refusal m)
        else answer_to_select m (b.select m.below d);
    put = λ m x. answer_to_put m (b.put m.below x);
    take = λ m. answer_to_take m (b.take m.below);
    finish = after_finish;
    holds = λ m h. b.holds m.below h;
  }

-- a step reaches the device below, once, unless it is a select that is refused
abbrev pub BusyStepsTo : {D : Type 0} → (D → Step → D → Type 0) → Busy D → Step → Busy D → Type 0
BusyStepsTo steps_to x (select d v) z =
    (0 < x.left → z.device ≡ x.device) × (x.left ≡ 0 → steps_to x.device (select d v) z.device)
BusyStepsTo steps_to x (put n v) z = steps_to x.device (put n v) z.device
BusyStepsTo steps_to x (take n) z = steps_to x.device (take n) z.device
BusyStepsTo steps_to x finish z = steps_to x.device finish z.device
