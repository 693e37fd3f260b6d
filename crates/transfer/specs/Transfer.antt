-- A transfer, and the calls of a draft, which is seen as the transfer that it would be sealed into.
use Rattle.std.specs.Prelude.{ℕ, Bool, if◌then◌else◌, ◌&&◌, List, length, Some, None, Ok, Err, Option, Result, is_some, nat_le}
use Rattle.std.specs.Option.{option_map}
use Rattle.transfer.specs.declared.draft.Transfer.{Transfer}
use Rattle.transfer.specs.declared.refusal.Refusal.TheVariants.{TwoLegsAlready, LengthOutOfRange}
use Rattle.transfer.specs.Leg.{BodyModel, writes, reads, LegModel, leg_model, write_leg, read_leg, empty_write}
use Rattle.transfer.specs.Limits.{most_bytes}
use Rattle.transfer.specs.Refusal.{number}

pub record TransferModel : Type 0 where
  pub first : LegModel
  pub second : Option LegModel

abbrev pub transfer_model : Transfer → TransferModel
transfer_model t = record { first = leg_model t.first; second = option_map leg_model t.second }

-- how many bytes a write, and a read, may have
abbrev pub is_write_length : ℕ → Bool
is_write_length n = nat_le n most_bytes

abbrev pub is_read_length : ℕ → Bool
is_read_length n = nat_le 1 n && nat_le n most_bytes

-- transfers of one leg, and of a write and a read at one address
abbrev pub write_to : ℕ → List ℕ → TransferModel
write_to a xs = record { first = write_leg a xs; second = None }

abbrev pub read_from : ℕ → ℕ → TransferModel
read_from a n = record { first = read_leg a n; second = None }

abbrev pub write_then_read : ℕ → List ℕ → ℕ → TransferModel
write_then_read a xs n = record { first = write_leg a xs; second = Some (read_leg a n) }

-- the same, put together in one call, with which lengths are refused
abbrev pub checked_write : ℕ → List ℕ → Result TransferModel ℕ
checked_write a xs =
    if is_write_length (length xs)
    then Ok (write_to a xs)
    else Err (number LengthOutOfRange)

abbrev pub checked_read : ℕ → ℕ → Result TransferModel ℕ
checked_read a n =
    if is_read_length n
    then Ok (read_from a n)
    else Err (number LengthOutOfRange)

abbrev pub checked_write_then_read : ℕ → List ℕ → ℕ → Result TransferModel ℕ
checked_write_then_read a xs n =
    if is_write_length (length xs) && is_read_length n
    then Ok (write_then_read a xs n)
    else Err (number LengthOutOfRange)

-- how every draft begins
abbrev pub new_draft : ℕ → TransferModel
new_draft a = record { first = empty_write a; second = None }

-- the last leg gets this body
abbrev pub with_last_body : BodyModel → LegModel → Option LegModel → TransferModel
with_last_body b g None = record { first = record g { body = b }; second = None }
with_last_body b g (Some h) = record { first = g; second = Some (record h { body = b }) }

-- the answer to each call of a draft, and the draft after it
abbrev pub answer_to_write : List ℕ → TransferModel → Result (Unit {0}) ℕ × TransferModel
answer_to_write xs d =
    if is_write_length (length xs)
    then (Ok tt, with_last_body (writes xs) d.first d.second)
    else (Err (number LengthOutOfRange), d)

abbrev pub answer_to_read : ℕ → TransferModel → Result (Unit {0}) ℕ × TransferModel
answer_to_read n d =
    if is_read_length n
    then (Ok tt, with_last_body (reads n) d.first d.second)
    else (Err (number LengthOutOfRange), d)

abbrev pub answer_to_second_leg : ℕ → TransferModel → Result (Unit {0}) ℕ × TransferModel
answer_to_second_leg a d =
    if is_some d.second
    then (Err (number TwoLegsAlready), d)
    else (Ok tt, record d { second = Some (empty_write a) })
