-- What holds of the strings and of the bytes of transfers carried alone.
use Rattle.std.specs.Prelude.{◌≡◌, ℕ, zero, suc, ◌+◌, ◌*◌, ◌<◌, ◌≤◌, true, false, ◌⊎◌, ◌↔◌, List, [], ◌∷◌, ◌++◌, length}
use Rattle.std.specs.Prelude.{take, Some, None, Option, ◌≢◌, nat_lt, slice_index, slice_index_or}
use Rattle.std.specs.List.{fold}
use Rattle.transfer.specs.declared.leg.Direction.TheVariants.{Write, Read}
use Rattle.transfer.specs.declared.outcome.OutcomeKind.TheVariants.{Done}
use Rattle.transfer.specs.Transfer.{TransferModel}
use Rattle.transfer.specs.Leg.{write_leg, read_leg}
use Rattle.device.specs.Device.{Behaviour}
use Rattle.law.specs.Bank.{Bank, bank_map, bank_list, BankAll}
use Rattle.law.specs.TransferResult.{AddressedDevice, DeviceInLeg, device_after_call, device_after_put}
use Rattle.law.specs.TransferResult.{device_after_take, byte_given_by, joint_byte, any_in, leg_result, transfer_result}
use Rattle.transfer.specs.Legal.{IsLegal}
use Rattle.law.specs.Limits.{bits_of_byte, letters_of_byte, most_letters}
use Rattle.wire.specs.ByteProgress.{bit_at}
use Rattle.transfer.specs.Address.{answers_to}
use Rattle.law.specs.Letter.{Letter, stop, restart, one, rank, first_or_same}

-- no stop in these
abbrev pub WithoutStop : List Letter → Type 0
WithoutStop [] = Unit {0}
WithoutStop (t ∷ ts) = (t ≢ stop) × WithoutStop ts

-- one stop, at the end
pub record OneStop (ts : List Letter) : Type 0 where
  pub front : List Letter
  pub front_stop : ts ≡ front ++ (stop ∷ [])
  pub no_other : WithoutStop front

-- the first letters at which two strings differ
pub record IsParting (ts us : List Letter) : Type 0 where
  pub front : List Letter
  pub one_letter : Letter
  pub other_letter : Letter
  pub one_rest : List Letter
  pub other_rest : List Letter
  pub one_is : ts ≡ front ++ (one_letter ∷ one_rest)
  pub other_is : us ≡ front ++ (other_letter ∷ other_rest)
  pub differ : one_letter ≡ other_letter → ⊥

pub record IsBit (t : Letter) : Type 0 where
  pub no_stop : t ≡ stop → ⊥
  pub no_restart : t ≡ restart → ⊥

-- of two bits that differ one is 0 and the other 1
abbrev pub ZeroAgainstOne : Letter → Letter → Type 0
ZeroAgainstOne t u = ((t ≡ Letter.zero) × (u ≡ one)) ⊎ ((t ≡ one) × (u ≡ Letter.zero))

-- what a letter is beside a bit: nothing, a stop or a repeated start
abbrev pub condition : Letter → Option Letter
condition Letter.zero = None
condition stop = Some stop
condition restart = Some restart
condition one = None

-- two strings stop and restart at the same places
abbrev pub SameConditions : List Letter → List Letter → Type 0
SameConditions ts us = (k : ℕ) →
    condition (slice_index_or ts k stop) ≡ condition (slice_index_or us k stop)

-- the strings of transfers carried alone, over two banks of devices, which may be one
pub record StringLaws (ds es : List Behaviour) : Type 0 where
  pub one_stop : (t : TransferModel) (d : Bank AddressedDevice ds) →
      OneStop (transfer_result ds t d).letters
  pub at_most : (t : TransferModel) (d : Bank AddressedDevice ds) → IsLegal t →
      length (transfer_result ds t d).letters ≤ most_letters
  -- no string begins another
  pub none_begins :
      (t u : TransferModel) (d : Bank AddressedDevice ds) (e : Bank AddressedDevice es)
      (ts : List Letter) →
      (transfer_result ds t d).letters ++ ts ≡ (transfer_result es u e).letters → ts ≡ []
  -- the string alone says the outcome
  pub same_outcome :
      (t u : TransferModel) (d : Bank AddressedDevice ds) (e : Bank AddressedDevice es) →
      IsLegal t → IsLegal u → (transfer_result ds t d).letters ≡ (transfer_result es u e).letters →
      (transfer_result ds t d).outcome ≡ (transfer_result es u e).outcome
  -- two strings are the same, or part at a letter
  pub parting : (t u : TransferModel) (d : Bank AddressedDevice ds) (e : Bank AddressedDevice es) →
      ((transfer_result ds t d).letters ≡ (transfer_result es u e).letters) ⊎
      IsParting (transfer_result ds t d).letters (transfer_result es u e).letters
  -- where they part, and neither stops nor restarts there, one shows 0 and the other 1
  pub zero_against_one :
      (t u : TransferModel) (d : Bank AddressedDevice ds) (e : Bank AddressedDevice es)
      (p : IsParting (transfer_result ds t d).letters (transfer_result es u e).letters) →
      IsBit p.one_letter → IsBit p.other_letter → ZeroAgainstOne p.one_letter p.other_letter
  -- so do two that stop and restart at the same places
  pub bits_decide :
      (t u : TransferModel) (d : Bank AddressedDevice ds) (e : Bank AddressedDevice es) →
      SameConditions (transfer_result ds t d).letters (transfer_result es u e).letters →
      (p : IsParting (transfer_result ds t d).letters (transfer_result es u e).letters) →
      ZeroAgainstOne p.one_letter p.other_letter
  -- the letter where they part says which comes first
  pub first_by_letter :
      (t u : TransferModel) (d : Bank AddressedDevice ds) (e : Bank AddressedDevice es)
      (p : IsParting (transfer_result ds t d).letters (transfer_result es u e).letters) →
      first_or_same (transfer_result ds t d).letters (transfer_result es u e).letters ≡
      nat_lt (rank p.one_letter) (rank p.other_letter)

-- something holds of some part
abbrev pub Exists : {F : Behaviour → Type 0} → ((b : Behaviour) → F b → Type 0) →
    (ds : List Behaviour) → Bank F ds → Type 0
Exists Q [] d = ⊥
Exists Q (b ∷ ds) d = Q b d.0 ⊎ Exists Q ds d.1

module _ (ds : List Behaviour) where
  -- the devices in a leg after these bytes were put, or after this many were taken
  abbrev pub devices_after_puts : List ℕ → Bank DeviceInLeg ds → Bank DeviceInLeg ds
  devices_after_puts xs e = fold (λ p x. bank_map (λ b. device_after_put b x) ds p) e xs

  abbrev pub devices_after_takes : ℕ → Bank DeviceInLeg ds → Bank DeviceInLeg ds
  devices_after_takes zero e = e
  devices_after_takes (suc n) e = devices_after_takes n (bank_map device_after_take ds e)

  -- the byte that those in the leg give together
  abbrev pub byte_of_devices : Bank DeviceInLeg ds → ℕ
  byte_of_devices e = joint_byte (bank_list byte_given_by ds e)

-- a device whose port matches, which said yes to select, is in, and says yes to this byte
pub record Accepts (a x : ℕ) (b : Behaviour) (p : DeviceInLeg b) : Type 0 where
  pub matches : answers_to p.address a ≡ true
  pub said_yes : p.yes ≡ true
  pub still_in : p.inside ≡ true
  pub accepts_byte : (b.put p.meaning x).0 ≡ true

-- exactly one device is in, and gives this byte
abbrev pub Only : (ds : List Behaviour) → Bank DeviceInLeg ds → ℕ → Type 0
Only [] d x = ⊥
Only (b ∷ ds) d x =
    ((d.0.inside ≡ true) × ((b.take d.0.meaning).0 ≡ x) × (any_in ds d.1 ≡ false)) ⊎
    ((d.0.inside ≡ false) × Only ds d.1 x)

-- what an acknowledged byte and a read byte have to do with the devices, in leg number k
pub record ByteLaws (ds : List Behaviour) : Type 0 where
  -- byte y of a write, heard low at its ninth bit, was put to such a device
  pub put_so : (k a : ℕ) (xs : List ℕ) (d : Bank AddressedDevice ds) (y : ℕ) → y < length xs →
      slice_index_or (leg_result ds k (write_leg a xs) d).levels
      (letters_of_byte * suc y + bits_of_byte) true ≡ false →
      Exists (Accepts a (slice_index xs y)) ds
      (devices_after_puts ds (take y xs) (bank_map (λ b. device_after_call b a Write) ds d))
  -- byte y of an answered read is what those in give then
  pub read_so : (k a n : ℕ) (d : Bank AddressedDevice ds) (y : ℕ) → y < n →
      (leg_result ds k (read_leg a n) d).kind ≡ Done →
      slice_index (leg_result ds k (read_leg a n) d).bytes y ≡
      byte_of_devices ds
      (devices_after_takes ds y (bank_map (λ b. device_after_call b a Read) ds d))
  -- its 1 bits are those that all gave
  pub all_gave : (e : Bank DeviceInLeg ds) (k : ℕ) → k < bits_of_byte →
      (bit_at (byte_of_devices ds e) k ≡ true) ↔
      BankAll (λ b p. p.inside ≡ true → bit_at (b.take p.meaning).0 k ≡ true) ds e
  -- what the only one in gave is read as it is
  pub only_gave : (e : Bank DeviceInLeg ds) (x : ℕ) → x < 256 →
      Only ds e x → byte_of_devices ds e ≡ x
