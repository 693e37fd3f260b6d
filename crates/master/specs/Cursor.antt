-- Where a contender is in its transfer, what it shows there and what follows.
use Rattle.std.specs.Prelude.{ℕ, suc, ◌-◌, Bool, true, false, if◌then◌else◌, not, ◌&&◌, List, [], ◌∷◌, ◌++◌, Some, None}
use Rattle.std.specs.Prelude.{Option, nat_lt, slice_index}
use Rattle.std.specs.Option.{option_map}
use Rattle.transfer.specs.declared.outcome.OutcomeKind.{OutcomeKind}
use Rattle.transfer.specs.declared.outcome.OutcomeKind.TheVariants.{Done, NoAnswer, Refused}
use Rattle.transfer.specs.Transfer.{TransferModel}
use Rattle.transfer.specs.Leg.{BodyModel, writes, reads, LegModel, leg_model, address_byte, body_size}
use Rattle.transfer.specs.Bytes.{bytes_in}
use Rattle.transfer.specs.Outcome.{OutcomeModel, outcome_of_kind}
use Rattle.master.specs.declared.cursor.At.{At}
use Rattle.master.specs.declared.cursor.At.TheVariants.{InLeg, Restart, End}
use Rattle.master.specs.declared.cursor.Cursor.{Cursor}
use Rattle.master.specs.declared.symbol.Symbol.{Symbol}
use Rattle.master.specs.declared.symbol.Symbol.TheVariants.{Listen, RepeatedStart, Stop}
use Rattle.master.specs.CursorBounds.{leg_number, leg_to_come}
use Rattle.wire.specs.ByteProgress.{bit_at, shift_in}
use Rattle.master.specs.Symbol.{bit_symbol}

-- at the end; before a second leg; or in a leg, with the leg to come, at a byte and a bit: byte 0 is the address, bit 8 the
-- acknowledge
pub data Play : Type 0 where
  at_end : Play
  at_restart : LegModel → Play
  in_leg : LegModel → Option LegModel → ℕ → ℕ → Play

-- what a contender notes: the number of its leg, the bytes read, the bits of the byte that is being read, and what came of
-- it so far
pub record Notes : Type 0 where
  pub leg : ℕ
  pub bytes : List ℕ
  pub value : ℕ
  pub kind : OutcomeKind

pub record CursorModel : Type 0 where
  pub play : Play
  pub notes : Notes

abbrev pub cursor_at : Play → Notes → CursorModel
cursor_at p n = record { play = p; notes = n }

abbrev pub new_cursor : TransferModel → CursorModel
new_cursor t =
    cursor_at (in_leg t.first t.second 0 0) (record { leg = 0; bytes = []; value = 0; kind = Done })

-- what the leg's byte y is, where the master sends it
abbrev pub body_byte : BodyModel → ℕ → ℕ
body_byte (writes xs) y = slice_index xs y
body_byte (reads n) y = 0

abbrev pub byte_of_leg : LegModel → ℕ → ℕ
byte_of_leg g ℕ.zero = address_byte g.address g.body
byte_of_leg g (suc y) = body_byte g.body y

abbrev pub is_write : BodyModel → Bool
is_write (writes xs) = true
is_write (reads n) = false

-- whether the master sends byte y, and then listens for its acknowledge
abbrev pub master_sends : LegModel → ℕ → Bool
master_sends g ℕ.zero = true
master_sends g (suc y) = is_write g.body

abbrev pub leg_size : LegModel → ℕ
leg_size g = body_size g.body

-- a read byte is eight listens and the master's own acknowledge, 0 if more follow and 1 at the last
abbrev pub symbol_in_leg : LegModel → ℕ → ℕ → Symbol
symbol_in_leg g y b =
    if master_sends g y then
    (if nat_lt b 8 then bit_symbol (bit_at (byte_of_leg g y) (7 - b)) else Listen)
    else
    (if nat_lt b 8 then Listen else bit_symbol (not (nat_lt y (leg_size g))))

abbrev pub symbol_of : Play → Symbol
symbol_of at_end = Stop
symbol_of (at_restart g) = RepeatedStart
symbol_of (in_leg g o y b) = symbol_in_leg g y b

abbrev pub notes_with : Notes → List ℕ → ℕ → Notes
notes_with n xs v = record n { bytes = xs; value = v }

-- a bit of a byte: the bits of a byte that is read are gathered
abbrev pub notes_after_bit : Bool → Notes → Bool → Notes
notes_after_bit true n heard = n
notes_after_bit false n heard = notes_with n n.bytes (shift_in n.value heard)

-- byte 0 of a leg is its address
abbrev pub failure_kind : ℕ → ℕ → OutcomeKind
failure_kind k ℕ.zero = NoAnswer (record { leg = k })
failure_kind k (suc y) = Refused (record { leg = k; byte = y })

abbrev pub after_leg : Option LegModel → Notes → CursorModel
after_leg None n = cursor_at at_end n
after_leg (Some g) n = cursor_at (at_restart g) n

abbrev pub after_byte : LegModel → Option LegModel → ℕ → Notes → CursorModel
after_byte g o y n =
    if nat_lt y (leg_size g) then cursor_at (in_leg g o (suc y) 0) n else after_leg o n

-- after the acknowledge of a byte; one that was read is kept
abbrev pub after_acknowledge : Bool → LegModel → Option LegModel → ℕ → Notes → CursorModel
after_acknowledge true g o y n = after_byte g o y n
after_acknowledge false g o y n = after_byte g o y (notes_with n (n.bytes ++ (n.value ∷ [])) 0)

-- an N that was listened for ends the transfer
abbrev pub after_ninth_bit : Bool → LegModel → Option LegModel → ℕ → Notes → Bool → CursorModel
after_ninth_bit listened g o y n heard =
    if listened && heard then cursor_at at_end (record n { kind = failure_kind n.leg y })
    else after_acknowledge listened g o y n

abbrev pub play_next : Play → Notes → Bool → CursorModel
play_next at_end n heard = cursor_at at_end n
play_next (at_restart g) n heard = cursor_at (in_leg g None 0 0) (record n { leg = 1 })
play_next (in_leg g o y b) n heard =
    if nat_lt b 8 then cursor_at (in_leg g o y (suc b)) (notes_after_bit (master_sends g y) n heard)
    else after_ninth_bit (master_sends g y) g o y n heard

-- what follows once a level was heard under the symbol shown
abbrev pub cursor_next : CursorModel → Bool → CursorModel
cursor_next c heard = play_next c.play c.notes heard

abbrev pub outcome_of : CursorModel → OutcomeModel
outcome_of c = outcome_of_kind c.notes.kind c.notes.bytes

abbrev pub play_model : At → Cursor → Play
play_model InLeg c =
    in_leg (leg_model c.leg) (option_map leg_model (leg_to_come c.rest)) c.byte c.under_way.bits
play_model Restart c = at_restart (leg_model c.leg)
play_model End c = at_end

abbrev pub cursor_model : Cursor → CursorModel
cursor_model c = cursor_at (play_model c.at c) (record {
  leg = leg_number c.rest;
  bytes = bytes_in c.read;
  value = c.under_way.value;
  kind = c.kind;
})
