-- A list of up to 8 items by those that are left of it.
use Rattle.std.specs.Prelude.{ℕ, if◌then◌else◌, List, length, Ok, Err, Result, nat_le}
use Rattle.transfer.specs.declared.refusal.Refusal.TheVariants.{LengthOutOfRange}
use Rattle.transfer.specs.Limits.{most_items}
use Rattle.transfer.specs.Refusal.{number}

-- the answer to a fill, and what is then left: a new list in the place of the old
abbrev pub fifo_answer_to_fill : {T : Type 0} → List T → List T → Result (Unit {0}) ℕ × List T
fifo_answer_to_fill ts old =
    if nat_le (length ts) most_items then (Ok tt, ts) else (Err (number LengthOutOfRange), old)
