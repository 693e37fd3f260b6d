-- Whether a master is armed, and with what.
use Rattle.std.specs.Prelude.{ℕ, Bool, true, false, Some, None, Ok, Err, Option, Result}
use Rattle.transfer.specs.Refusal.{number}
use Rattle.transfer.specs.declared.refusal.Refusal.TheVariants.{ArmedAlready, NothingWanted}
use Rattle.master.specs.declared.arming.Arming.{Arming}
use Rattle.master.specs.declared.arming.Arming.TheVariants.{Unarmed, Armed}

abbrev pub is_armed : {T : Type 0} → Arming T → Bool
is_armed Unarmed = false
is_armed (Armed t) = true

abbrev pub arming_map : {T U : Type 0} → (T → U) → Arming T → Arming U
arming_map f Unarmed = Unarmed
arming_map f (Armed t) = Armed (f t)

-- what arming answers, and what it leaves: an armed master is refused, and one whose host wants nothing
abbrev pub answer_to_arm : {T : Type 0} → Arming T → Option T → Result (Unit {0}) ℕ × Arming T
answer_to_arm (Armed t) want = (Err (number ArmedAlready), Armed t)
answer_to_arm Unarmed None = (Err (number NothingWanted), Unarmed)
answer_to_arm Unarmed (Some t) = (Ok tt, Armed t)
