-- Which leg a cursor is in, and how many bytes it may have read by then.
use Rattle.std.specs.Prelude.{ℕ, ◌+◌, ◌-◌, ◌*◌, None, Option}
use Rattle.transfer.specs.Limits.{most_bytes, most_bytes_read}
use Rattle.transfer.specs.declared.leg.Leg.{Leg}
use Rattle.master.specs.declared.cursor.At.{At}
use Rattle.master.specs.declared.cursor.At.TheVariants.{InLeg, Restart, End}
use Rattle.master.specs.declared.cursor.Rest.{Rest}
use Rattle.master.specs.declared.cursor.Rest.TheVariants.{First, Second}

abbrev pub leg_number : Rest → ℕ
leg_number (First o) = 0
leg_number Second = 1

abbrev pub leg_to_come : Rest → Option Leg
leg_to_come (First o) = o
leg_to_come Second = None

-- how many bytes are read at most by then; byte y + 1 of a cursor is the leg's byte y
abbrev pub most_read_at : At → Rest → ℕ → ℕ
most_read_at InLeg s y = most_bytes * leg_number s + (y - 1)
most_read_at Restart s y = most_bytes
most_read_at End s y = most_bytes_read
