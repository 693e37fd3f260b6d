-- A cursor is a place and notes, and each goes on by itself.
use Rattle.std.proofs.Common.{◌≡◌, ℕ, suc, Bool, true, false, cond, ◌&&◌, ltb}
use Rattle.std.proofs.Common.{[], ◌∷◌, ◌++◌, Some, None, Option, arith}
use Rattle.transfer.specs.Leg.{LegModel}
use Rattle.master.specs.Cursor.{Play, at_end, at_restart, in_leg, Notes, cursor_at, master_sends}
use Rattle.master.specs.Cursor.{leg_size, notes_with, notes_after_bit, failure_kind, play_next}

-- after the last byte of a leg
abbrev pub leaves : Option LegModel → Play
leaves None = at_end
leaves (Some g) = at_restart g

-- after byte y of a leg, counted from the one that calls for it
abbrev pub goes_on : LegModel → Option LegModel → ℕ → Play
goes_on g o y = cond (ltb y (leg_size g)) (in_leg g o (suc y) 0) (leaves o)

-- the place after a level was heard
abbrev pub moves : Play → Bool → Play
moves at_end heard = at_end
moves (at_restart g) heard = in_leg g None 0 0
moves (in_leg g o y b) heard =
    cond (ltb b 8) (in_leg g o y (suc b)) (cond (master_sends g y && heard) at_end (goes_on g o y))

-- after the ninth bit of a byte: what the master sent is not noted, what it read is
abbrev pub kept : Bool → Notes → Notes
kept true n = n
kept false n = notes_with n (n.bytes ++ (n.value ∷ [])) 0

-- the notes after a level was heard
abbrev pub notes_on : Play → Notes → Bool → Notes
notes_on at_end n heard = n
notes_on (at_restart g) n heard = record { leg = 1; bytes = n.bytes; value = n.value; kind = n.kind }
notes_on (in_leg g o y b) n heard = cond (ltb b 8)
    (notes_after_bit (master_sends g y) n heard)
    (cond (master_sends g y && heard)
    (record { leg = n.leg; bytes = n.bytes; value = n.value; kind = failure_kind n.leg y })
    (kept (master_sends g y) n))

-- a cursor goes on by both
pub next_is : (p : Play) (n : Notes) (heard : Bool) →
    play_next p n heard ≡ cursor_at (moves p heard) (notes_on p n heard)
next_is p n heard = grind arith
