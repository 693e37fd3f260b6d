-- A transfer carried alone over the ports, byte by byte: its string, its outcome, the devices
-- after.
use Rattle.std.specs.Prelude.{ℕ, zero, suc, Bool, true, false, if◌then◌else◌, List, [], ◌∷◌, ◌++◌, map, Some, None, Option, ◌==◌, bit_and}
use Rattle.transfer.specs.declared.leg.Direction.{Direction}
use Rattle.transfer.specs.declared.outcome.OutcomeKind.{OutcomeKind}
use Rattle.transfer.specs.declared.outcome.OutcomeKind.TheVariants.{Done, NoAnswer, Refused}
use Rattle.transfer.specs.Transfer.{TransferModel}
use Rattle.transfer.specs.Leg.{BodyModel, writes, reads, LegModel, body_direction, address_byte}
use Rattle.transfer.specs.Outcome.{OutcomeModel, outcome_of_kind}
use Rattle.device.specs.Device.{Behaviour}
use Rattle.law.specs.Bank.{Bank, bank_map, bank_list, any_true}
use Rattle.wire.specs.ByteProgress.{bit_at}
use Rattle.transfer.specs.Address.{answers_to}
use Rattle.law.specs.Letter.{Letter, stop, restart, bit_letter}

-- a device at its address
pub record AddressedDevice (b : Behaviour) : Type 0 where
  pub address : ℕ
  pub meaning : b.Meaning

-- the same in a leg: whether it said yes to select, and whether it is still in
pub record DeviceInLeg (b : Behaviour) : Type 0 where
  pub address : ℕ
  pub meaning : b.Meaning
  pub yes : Bool
  pub inside : Bool

module _ (b : Behaviour) where
  abbrev pub device_after_select : AddressedDevice b → Bool × b.Meaning → DeviceInLeg b
  device_after_select d a = record { address = d.address; meaning = a.1; yes = a.0; inside = a.0 }

  -- a leg selects at every port that matches, and a device that says yes is in
  abbrev pub device_after_call : ℕ → Direction → AddressedDevice b → DeviceInLeg b
  device_after_call asked r d =
      if answers_to d.address asked
      then device_after_select d (b.select d.meaning r)
      else device_after_select d (false, d.meaning)

  abbrev pub device_with_answer : DeviceInLeg b → Bool × b.Meaning → DeviceInLeg b
  device_with_answer d a = record d { meaning = a.1; inside = a.0 }

  -- a written byte is put to all that are in, and a no puts out
  abbrev pub device_after_put : ℕ → DeviceInLeg b → DeviceInLeg b
  device_after_put x d = if d.inside then device_with_answer d (b.put d.meaning x) else d

  -- a byte is taken from all that are in
  abbrev pub device_after_take : DeviceInLeg b → DeviceInLeg b
  device_after_take d =
      if d.inside then record d { meaning = (b.take d.meaning).1; inside = true } else d

  -- the byte that a device gives; one that is not in gives all ones
  abbrev pub byte_given_by : DeviceInLeg b → ℕ
  byte_given_by d = if d.inside then (b.take d.meaning).0 else 255

  -- a device that said yes since the last start is finished
  abbrev pub device_after_leg : DeviceInLeg b → AddressedDevice b
  device_after_leg d = record {
    address = d.address;
    meaning = if d.yes then b.finish d.meaning else d.meaning;
  }

  abbrev pub is_in : DeviceInLeg b → Bool
  is_in d = d.inside

-- the 1 bits of a byte that is read are those that all gave
abbrev pub joint_byte : List ℕ → ℕ
joint_byte [] = 255
joint_byte (x ∷ xs) = bit_and x (joint_byte xs)

-- the levels of a byte, and its acknowledge: true is N
abbrev pub byte_levels : ℕ → Bool → List Bool
byte_levels x nack =
    bit_at x 7 ∷ bit_at x 6 ∷ bit_at x 5 ∷ bit_at x 4 ∷
    bit_at x 3 ∷ bit_at x 2 ∷ bit_at x 1 ∷ bit_at x 0 ∷
    nack ∷ []

module _ (ds : List Behaviour) where
  pub record LegResult : Type 0 where
    -- the levels that it carried, and the bytes read
    pub levels : List Bool
    pub bytes : List ℕ
    pub kind : OutcomeKind
    pub devices : Bank DeviceInLeg ds

  abbrev pub leg_end : OutcomeKind → Bank DeviceInLeg ds → LegResult
  leg_end k d = record { levels = []; bytes = []; kind = k; devices = d }

  -- after one byte more in front
  abbrev pub with_byte : List Bool → List ℕ → LegResult → LegResult
  with_byte ls xs r = record r { levels = ls ++ r.levels; bytes = xs ++ r.bytes }

  abbrev pub any_in : Bank DeviceInLeg ds → Bool
  any_in d = any_true (bank_list is_in ds d)

  -- byte n of leg k and those after it; an acknowledge is N with none in, and ends the transfer
  abbrev pub write_result : ℕ → List ℕ → ℕ → Bank DeviceInLeg ds → LegResult
  write_result k [] n d = leg_end Done d
  write_result k (x ∷ xs) n d = let e = bank_map (λ b. device_after_put b x) ds d in
      if any_in e
      then with_byte (byte_levels x false) [] (write_result k xs (suc n) e)
      else with_byte (byte_levels x true) [] (leg_end (Refused (record { leg = k; byte = n })) e)

  -- so many bytes; the master acknowledges with 0 if more follow and 1 at the last
  abbrev pub read_result : ℕ → Bank DeviceInLeg ds → LegResult
  read_result zero d = leg_end Done d
  read_result (suc n) d = let x = joint_byte (bank_list byte_given_by ds d) in
      with_byte (byte_levels x (n == 0)) (x ∷ []) (read_result n (bank_map device_after_take ds d))

  abbrev pub body_result : ℕ → BodyModel → Bank DeviceInLeg ds → LegResult
  body_result k (writes xs) d = write_result k xs 0 d
  body_result k (reads n) d = read_result n d

  -- leg number k
  abbrev pub leg_result : ℕ → LegModel → Bank AddressedDevice ds → LegResult
  leg_result k g d =
      let e = bank_map (λ b. device_after_call b g.address (body_direction g.body)) ds d in
      let x = address_byte g.address g.body in
      if any_in e
      then with_byte (byte_levels x false) [] (body_result k g.body e)
      else with_byte (byte_levels x true) [] (leg_end (NoAnswer (record { leg = k })) e)

  pub record TransferResult : Type 0 where
    pub letters : List Letter
    pub outcome : OutcomeModel
    pub devices : Bank AddressedDevice ds

  -- the stop, after the bytes xs of an earlier leg
  abbrev pub result_at_stop : List ℕ → LegResult → TransferResult
  result_at_stop xs r = record {
    letters = map bit_letter r.levels ++ (stop ∷ []);
    outcome = outcome_of_kind r.kind (xs ++ r.bytes);
    devices = bank_map device_after_leg ds r.devices;
  }

  -- a repeated start and the second leg, where there is one and the first was done
  abbrev pub result_after_leg : LegResult → OutcomeKind → Option LegModel → TransferResult
  result_after_leg r Done (Some g) =
      let q = result_at_stop r.bytes (leg_result 1 g (bank_map device_after_leg ds r.devices)) in
      record q { letters = map bit_letter r.levels ++ (restart ∷ q.letters) }
  result_after_leg r Done None = result_at_stop [] r
  result_after_leg r (NoAnswer p) o = result_at_stop [] r
  result_after_leg r (Refused p) o = result_at_stop [] r

  abbrev pub transfer_result : TransferModel → Bank AddressedDevice ds → TransferResult
  transfer_result t d = let r = leg_result 0 t.first d in result_after_leg r r.kind t.second
