-- The laws of bytes hold: who took an acknowledged byte, and who gave a byte that was read.
use Rattle.std.proofs.Common.{◌≡◌, ℕ, zero, suc, ◌+◌, ◌-◌, ◌*◌, ◌<◌, Bool, true, false, cond, ◌&&◌, ◌↔◌}
use Rattle.std.proofs.Common.{List, [], ◌∷◌, length, take, sym, refl, ◌∙◌, inl, inr, mod-eq_of_lt, arith}
use Rattle.std.specs.Prelude.{slice_index_or}
use lib.Bits.{bit_and, and_mask, and_comm}
use Rattle.std.proofs.lemmas.Bool.{lt-ltb, and_parts, and_from, or_cases, or_parts}
use Rattle.transfer.specs.declared.leg.Direction.{Direction}
use Rattle.transfer.specs.declared.leg.Direction.TheVariants.{Write, Read}
use Rattle.transfer.specs.declared.outcome.OutcomeKind.TheVariants.{Done, NoAnswer, Refused}
use Rattle.device.specs.Device.{Behaviour}
use Rattle.law.specs.Bank.{Bank, bank_map, BankAll}
use Rattle.law.specs.TransferResult.{AddressedDevice, DeviceInLeg, device_after_call, device_after_put}
use Rattle.law.specs.TransferResult.{device_after_take, byte_given_by, byte_levels, LegResult, leg_end}
use Rattle.law.specs.TransferResult.{with_byte, any_in, write_result, read_result, leg_result}
use Rattle.wire.specs.ByteProgress.{bit_at}
use Rattle.transfer.specs.Address.{answers_to}
use Rattle.law.specs.Facts.{Exists, devices_after_puts, devices_after_takes}
use Rattle.law.specs.Facts.{byte_of_devices, Accepts, Only, ByteLaws}
use Rattle.transfer.specs.Leg.{write_leg, read_leg}
use Rattle.law.proofs.Alone.StepsOfBanks.{Each, Asks, any}
use Rattle.law.proofs.Alone.BitsOfByte.{ones, digit_and}
use Rattle.law.proofs.Alone.PortsWithinByte.{called_for, put_to_all}

-- where one of a bank answers true after a step, one of the bank is what that says
some_each : {F G : Behaviour → Type 0} (g : Each F G) (q : Asks G) (A R : (b : Behaviour) → F b → Type 0) →
    ((b : Behaviour) (x : F b) → A b x → q b (g b x) ≡ true → R b x) →
    (ds : List Behaviour) (d : Bank F ds) → BankAll A ds d → any q ds (bank_map g ds d) ≡ true → Exists R ds d
some_each g q A R f [] d h e = cc
some_each g q A R f (b ∷ ds) d h e = elim (or_cases (q b (g b d.0)) (any q ds (bank_map g ds d.1)) e) [
  | inl i ↦ inl (f b d.0 h.0 i)
  | inr i ↦ inr (some_each g q A R f ds d.1 h.1 i)
]

-- what holds of each of a bank gives what holds of each after a step
every_each : {F G : Behaviour → Type 0} (g : Each F G)
    (A : (b : Behaviour) → F b → Type 0) (R : (b : Behaviour) → G b → Type 0) →
    ((b : Behaviour) (x : F b) → A b x → R b (g b x)) →
    (ds : List Behaviour) (d : Bank F ds) → BankAll A ds d → BankAll R ds (bank_map g ds d)
every_each g A R f [] d h = tt
every_each g A R f (b ∷ ds) d h = (f b d.0 h.0, every_each g A R f ds d.1 h.1)

-- who is in was called for, and said yes
abbrev Called : ℕ → (b : Behaviour) → DeviceInLeg b → Type 0
Called a b p = p.inside ≡ true → (answers_to p.address a ≡ true) × (p.yes ≡ true)

called_select : (a : ℕ) (r : Direction) (b : Behaviour) (d : AddressedDevice b) (t : Bool) →
    answers_to d.address a ≡ t → Called a b (device_after_call b a r d)
called_select a r b d t h = grind arith

called_put : (a x : ℕ) (b : Behaviour) (p : DeviceInLeg b) → Called a b p → Called a b (device_after_put b x p)
called_put a x b p h = grind arith

all_called : (a : ℕ) (r : Direction) (ds : List Behaviour) (d : Bank AddressedDevice ds) →
    BankAll (Called a) ds (called_for ds a r d)
all_called a r [] d = tt
all_called a r (b ∷ ds) d = (called_select a r b d.0 (answers_to d.0.address a) refl, all_called a r ds d.1)

having_called : (a : ℕ) (ds : List Behaviour) (xs : List ℕ) (e : Bank DeviceInLeg ds) →
    BankAll (Called a) ds e → BankAll (Called a) ds (devices_after_puts ds xs e)
having_called a ds [] e h = h
having_called a ds (x ∷ xs) e h = having_called a ds xs (put_to_all ds x e)
    (every_each (λ b. device_after_put b x) (Called a) (Called a) (λ b p. called_put a x b p) ds e h)

-- a device that is in after it was given a byte accepted it
accepts : (a x : ℕ) (b : Behaviour) (p : DeviceInLeg b) → Called a b p →
    (device_after_put b x p).inside ≡ true → Accepts a x b p
accepts a x b p h k = grind arith

-- nine levels on
pub nine : (y : ℕ) → 9 * suc y + 8 ≡ suc (suc (suc (suc (suc (suc (suc (suc (suc (9 * y + 8)))))))))
nine y = omega arith

module _ (ds : List Behaviour) where
  -- the next byte of a write, by whether somebody took it
  abbrev pub took : ℕ → LegResult ds → LegResult ds → Bool → LegResult ds
  took x r s t = cond t (with_byte ds (byte_levels x false) [] r) (with_byte ds (byte_levels x true) [] s)

  -- A in the ninth level says that somebody did
  pub ninth : (x : ℕ) (r s : LegResult ds) (t : Bool) → slice_index_or (took x r s t).levels 8 true ≡ false → t ≡ true
  ninth x r s t h = grind arith

  -- and a later A is one of the rest
  pub later : (x : ℕ) (r s : LegResult ds) (t : Bool) (k : ℕ) → s.levels ≡ [] →
      slice_index_or (took x r s t).levels (suc (suc (suc (suc (suc (suc (suc (suc (suc k))))))))) true ≡ false →
      slice_index_or r.levels k true ≡ false
  later x r s t k h e = grind arith

  -- after A for byte y of a write, one of those that it was given to is in
  heard_so : (l : ℕ) (xs : List ℕ) (n : ℕ) (e : Bank DeviceInLeg ds) (y : ℕ) → y < length xs →
      slice_index_or (write_result ds l xs n e).levels (9 * y + 8) true ≡ false →
      any_in ds (put_to_all ds (slice_index_or xs y 0) (devices_after_puts ds (take y xs) e)) ≡ true
  heard_so l [] n e y h q = cc
  heard_so l (x ∷ xs) n e zero h q =
      let w = put_to_all ds x e in
      ninth x (write_result ds l xs (suc n) w) (leg_end ds (Refused (record { leg = l; byte = n })) w) (any_in ds w) q
  heard_so l (x ∷ xs) n e (suc y) h q =
      let w = put_to_all ds x e in
      let refused = leg_end ds (Refused (record { leg = l; byte = n })) w in
      heard_so l xs (suc n) w y (omega arith)
      (later x (write_result ds l xs (suc n) w) refused (any_in ds w) (9 * y + 8) refl (rw (nine y) at q))

  -- and it accepted that byte
  put_so : (l a : ℕ) (xs : List ℕ) (d : Bank AddressedDevice ds) (y : ℕ) → y < length xs →
      slice_index_or (leg_result ds l (write_leg a xs) d).levels (9 * suc y + 8) true ≡ false →
      Exists (Accepts a (slice_index_or xs y 0)) ds (devices_after_puts ds (take y xs) (called_for ds a Write d))
  put_so l a xs d y h q =
      let x = slice_index_or xs y 0 in
      let e = called_for ds a Write d in
      let unanswered = leg_end ds (NoAnswer (record { leg = l })) e in
      let rest =
      later (a * 2) (write_result ds l xs 0 e) unanswered (any_in ds e) (9 * y + 8) refl (rw (nine y) at q) in
      some_each (λ b. device_after_put b x) (λ b p. p.inside) (Called a) (Accepts a x) (accepts a x)
      ds (devices_after_puts ds (take y xs) e)
      (having_called a ds (take y xs) e (all_called a Write ds d))
      (heard_so l xs 0 e y h rest)

  -- byte y of a read is what the devices give after y bytes taken
  reads_so : (n : ℕ) (e : Bank DeviceInLeg ds) (y : ℕ) → y < n →
      slice_index_or (read_result ds n e).bytes y 0 ≡ byte_of_devices ds (devices_after_takes ds y e)
  reads_so zero e y h = absurd (omega arith)
  reads_so (suc n) e zero h = refl
  reads_so (suc n) e (suc y) h = reads_so n (bank_map device_after_take ds e) y (omega arith)

  -- and so in a leg that is done
  read_so : (l a n : ℕ) (d : Bank AddressedDevice ds) (y : ℕ) → y < n → (leg_result ds l (read_leg a n) d).kind ≡ Done →
      slice_index_or (leg_result ds l (read_leg a n) d).bytes y 0 ≡
      byte_of_devices ds (devices_after_takes ds y (called_for ds a Read d))
  read_so l a n d y h q = go (any_in ds e) q
    where
      e : Bank DeviceInLeg ds
      e = called_for ds a Read d

      r : Bool → LegResult ds
      r t = took (a * 2 + 1) (read_result ds n e) (leg_end ds (NoAnswer (record { leg = l })) e) t

      go : (t : Bool) → (r t).kind ≡ Done →
          slice_index_or (r t).bytes y 0 ≡ byte_of_devices ds (devices_after_takes ds y e)
      go true k = reads_so n e y h
      go false k = cc

-- if this device is in, the byte that it gives has 1 at bit k
abbrev Gives : ℕ → (b : Behaviour) → DeviceInLeg b → Type 0
Gives k b p = p.inside ≡ true → bit_at (b.take p.meaning).0 k ≡ true

gave_one : (b : Behaviour) (p : DeviceInLeg b) (k : ℕ) → bit_at 255 k ≡ true →
    (bit_at (byte_given_by b p) k ≡ true) ↔ Gives k b p
gave_one b p k h = grind arith

-- the joint byte has 1 at bit k exactly if all give it
all_gave : (ds : List Behaviour) (e : Bank DeviceInLeg ds) (k : ℕ) → bit_at 255 k ≡ true →
    (bit_at (byte_of_devices ds e) k ≡ true) ↔ BankAll (Gives k) ds e
all_gave [] e k h = ((λ _. tt), λ _. h)
all_gave (b ∷ ds) e k h =
    let x = byte_given_by b e.0 in
    let y = byte_of_devices ds e.1 in
    let first = gave_one b e.0 k h in
    let rest = all_gave ds e.1 k h in
    let both : bit_at (bit_and x y) k ≡ (bit_at x k && bit_at y k) = digit_and x y k in (
      (λ q. let w = and_parts (bit_at x k) (bit_at y k) (sym both ∙ q) in (first.0 w.0, rest.0 w.1)),
      λ w. both ∙ and_from (bit_at x k) (bit_at y k) (first.1 w.0) (rest.1 w.1),
    )

-- a byte of ones has 1 at each bit
low_ones : (k : ℕ) → k < 8 → bit_at 255 k ≡ true
low_ones k h = let e : 7 - (7 - k) ≡ k = omega arith in rw e at (ones (7 - k) (lt-ltb (7 - k) 8 (omega arith)))

pub mask : (x : ℕ) → x < 256 → bit_and x 255 ≡ x
mask x h = and_mask x 8 ∙ mod-eq_of_lt h

-- a byte that nobody gives is all ones
none_gave : (ds : List Behaviour) (e : Bank DeviceInLeg ds) → any_in ds e ≡ false → byte_of_devices ds e ≡ 255
none_gave [] e h = refl
none_gave (b ∷ ds) e h = let w = or_parts e.0.inside (any_in ds e.1) h in rw (w.0, none_gave ds e.1 w.1)

-- and one that only one device gives is that device's
only_gave : (ds : List Behaviour) (e : Bank DeviceInLeg ds) (x : ℕ) → x < 256 → Only ds e x → byte_of_devices ds e ≡ x
only_gave [] e x h k = elim k [ ]
only_gave (b ∷ ds) e x h (inl k) = rw (k.0, k.1, none_gave ds e.1 k.2) (mask x h)
only_gave (b ∷ ds) e x h (inr k) = rw (k.0, only_gave ds e.1 x h k.1) (and_comm 255 x ∙ mask x h)

pub byte_laws : (ds : List Behaviour) → ByteLaws ds
byte_laws ds = record {
  put_so = put_so ds;
  read_so = read_so ds;
  all_gave = λ e k h. all_gave ds e k (low_ones k h);
  only_gave = only_gave ds;
}
