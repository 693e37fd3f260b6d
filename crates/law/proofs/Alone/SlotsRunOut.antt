-- A cursor runs out of slots: it always has one left, fewer after each, and at an opening no more than most_letters.
use Rattle.std.proofs.Common.{◌≡◌, ℕ, suc, ◌+◌, ◌-◌, ◌*◌, ◌<◌, ◌≤◌, Bool, false, Some, None, Option, arith}
use Rattle.transfer.specs.Transfer.{TransferModel}
use Rattle.transfer.specs.Leg.{LegModel}
use Rattle.master.specs.Cursor.{Play, at_end, at_restart, in_leg, CursorModel}
use Rattle.master.specs.Cursor.{leg_size, symbol_of, cursor_next, new_cursor}
use Rattle.law.proofs.FarSide.{ends}
use Rattle.transfer.specs.Legal.{IsLegal}
use Rattle.law.specs.Limits.{bits_of_byte, letters_of_byte, most_letters}

-- a repeated start, a leg and the stop
abbrev pub slots_again : LegModel → ℕ
slots_again g = 1 + letters_of_byte * suc (leg_size g) + 1

-- after a leg: what is to come, or the stop
abbrev pub slots_after : Option LegModel → ℕ
slots_after None = 1
slots_after (Some g) = slots_again g

-- the slots left at a place, at the most
abbrev pub play_slots : Play → ℕ
play_slots at_end = 1
play_slots (at_restart g) = slots_again g
play_slots (in_leg g o y b) = suc (bits_of_byte - b) + letters_of_byte * (leg_size g - y) + slots_after o

abbrev pub slots_left : CursorModel → ℕ
slots_left c = play_slots c.play

play_some : (p : Play) → 1 ≤ play_slots p
play_some p = grind arith

pub some_left : (c : CursorModel) → 1 ≤ slots_left c
some_left c = play_some c.play

pub fewer : (c : CursorModel) (heard : Bool) → ends (symbol_of c.play) ≡ false →
    slots_left (cursor_next c heard) < slots_left c
fewer c heard h = grind arith

pub at_most : (t : TransferModel) → IsLegal t → slots_left (new_cursor t) ≤ most_letters
at_most t h = grind arith
