-- The ports at each place of a byte, as functions of the devices carried, and each bit as an equation between them.
use Rattle.std.proofs.Common.{◌≡◌, ℕ, suc, ◌-◌, ◌/◌, ◌%◌, ◌<◌, Bool, true, false, cond}
use Rattle.std.proofs.Common.{not, ◌&&◌, ◌||◌, eqb, ltb, List, [], ◌∷◌, refl, arith}
use lib.Bits.{and_le_r}
use Rattle.transfer.specs.declared.leg.Direction.{Direction}
use Rattle.transfer.specs.declared.leg.Direction.TheVariants.{Write, Read}
use Rattle.device.specs.Device.{Behaviour}
use Rattle.port.specs.declared.port.Mode.TheVariants.{Out, Addressing, Writing, Acknowledging, Reading}
use Rattle.law.specs.Bank.{Bank, bank_map, bank_list}
use Rattle.law.specs.TransferResult.{AddressedDevice, DeviceInLeg, device_after_call, device_after_put}
use Rattle.law.specs.TransferResult.{device_after_take, byte_given_by, device_after_leg, joint_byte, any_in}
use Rattle.wire.specs.ByteProgress.{bit_at, shift_in, progress}
use Rattle.transfer.specs.Leg.{BodyModel, writes, reads, body_direction, direction_of}
use Rattle.transfer.specs.Address.{answers_to}
use Rattle.port.specs.Port.{PortModel, mode_pulls, port_after_address}
use Rattle.law.proofs.FarSide.{Side}
use Rattle.law.proofs.Alone.StepsOfBanks.{any, each_each, each_pair, any_each, none_each}
use Rattle.law.proofs.Alone.BitsOfByte.{ones, digit_and}
use Rattle.law.proofs.Alone.PortsAsSide.{counting, starting, stopping, pulling, ports_side, idle_port, idle_ports}

-- a port in the address byte, with n bits counted and the value v
abbrev pub addressing_at : ℕ → ℕ → (b : Behaviour) → AddressedDevice b → PortModel b
addressing_at n v b d = record {
  address = d.address;
  meaning = d.meaning;
  owed = false;
  mode = Addressing (progress n v);
  hold = 0;
}

-- one in a byte that it is given, with n bits counted and the value v
abbrev pub writing_at : ℕ → ℕ → (b : Behaviour) → DeviceInLeg b → PortModel b
writing_at n v b d = record {
  address = d.address;
  meaning = d.meaning;
  owed = d.yes;
  mode = cond d.inside (Writing (progress n v)) Out;
  hold = 0;
}

-- one in the ninth bit of a byte that it was called by or given
abbrev pub acknowledging_at : Direction → (b : Behaviour) → DeviceInLeg b → PortModel b
acknowledging_at r b d = record {
  address = d.address;
  meaning = d.meaning;
  owed = d.yes;
  mode = cond d.inside (Acknowledging r) Out;
  hold = 0;
}

-- one in a byte that it gives, with n bits counted: the byte is taken already
abbrev pub reading_at : ℕ → (b : Behaviour) → DeviceInLeg b → PortModel b
reading_at n b d = record {
  address = d.address;
  meaning = (device_after_take b d).meaning;
  owed = d.yes;
  mode = cond d.inside (Reading (progress n (byte_given_by b d))) Out;
  hold = 0;
}

-- one after the last byte of a leg
abbrev pub out_at : (b : Behaviour) → DeviceInLeg b → PortModel b
out_at b d = record { address = d.address; meaning = d.meaning; owed = d.yes; mode = Out; hold = 0 }

-- what a bit makes of one port at each place
module _ (b : Behaviour) where
  abbrev pub device_in_leg : ℕ → b.Meaning → Bool → Bool → DeviceInLeg b
  device_in_leg a m y t = record { address = a; meaning = m; yes = y; inside = t }

  address_one : (d : AddressedDevice b) (k v : ℕ) (x : Bool) → ltb k 7 ≡ true →
      counting x b (addressing_at k v b d) ≡ addressing_at (suc k) (shift_in v x) b d
  address_one d k v x e = rw e

  called_one : (d : AddressedDevice b) (v asked : ℕ) (r : Direction) (t : Bool) → answers_to d.address asked ≡ t →
      port_after_address b (addressing_at 7 v b d) asked r ≡ acknowledging_at r b (device_after_call b asked r d)
  called_one d v asked r t h = grind arith

  write_one : (p : DeviceInLeg b) (k v : ℕ) (x : Bool) → ltb k 7 ≡ true →
      counting x b (writing_at k v b p) ≡ writing_at (suc k) (shift_in v x) b p
  write_one p k v x h = grind arith

  put_one : (p : DeviceInLeg b) (v : ℕ) (x : Bool) →
      counting x b (writing_at 7 v b p) ≡ acknowledging_at Write b (device_after_put b (shift_in v x) p)
  put_one p v x = grind arith

  read_one : (p : DeviceInLeg b) (k : ℕ) (x : Bool) → ltb k 8 ≡ true →
      counting x b (reading_at k b p) ≡ reading_at (suc k) b p
  read_one p k x h = grind arith

  write_on_one : (p : DeviceInLeg b) (x : Bool) → counting x b (acknowledging_at Write b p) ≡ writing_at 0 0 b p
  write_on_one p x = grind arith

  read_on_one : (p : DeviceInLeg b) → counting false b (acknowledging_at Read b p) ≡ reading_at 0 b p
  read_on_one p = grind arith

  read_none_one : (p : DeviceInLeg b) → counting true b (acknowledging_at Read b p) ≡ out_at b p
  read_none_one p = grind arith

  more_one : (p : DeviceInLeg b) → counting false b (reading_at 8 b p) ≡ reading_at 0 b (device_after_take b p)
  more_one p = grind arith

  last_one : (p : DeviceInLeg b) → counting true b (reading_at 8 b p) ≡ out_at b (device_after_take b p)
  last_one p = grind arith

  show_one : (p : DeviceInLeg b) (k : ℕ) → ltb k 8 ≡ true →
      pulling b (reading_at k b p) ≡ not (bit_at (byte_given_by b p) (7 - k))
  show_one p k e = grind (arith, ones)

writing_still : (n v : ℕ) (t : Bool) → mode_pulls (cond t (Writing (progress n v)) Out) ≡ false
writing_still n v t = grind arith

eighth_still : (v : ℕ) (t : Bool) → mode_pulls (cond t (Reading (progress 8 v)) Out) ≡ false
eighth_still v t = grind arith

acknowledge_one : (r : Direction) (t : Bool) → mode_pulls (cond t (Acknowledging r) Out) ≡ t
acknowledge_one r t = grind arith

not_and : (x y : Bool) → (not x || not y) ≡ not (x && y)
not_and true y = refl
not_and false y = refl

-- the byte that all devices give together is a byte
pub joined_byte : (xs : List ℕ) → joint_byte xs < 256
joined_byte [] = omega arith
joined_byte (x ∷ xs) = omega (arith, and_le_r x (joint_byte xs), joined_byte xs)

-- SDA is pulled in bit k of a byte that is read if one of the devices gives 0 there
pub reading_pulls : (ds : List Behaviour) (d : Bank DeviceInLeg ds) (k : ℕ) → ltb k 8 ≡ true →
    any pulling ds (bank_map (reading_at k) ds d) ≡ not (bit_at (joint_byte (bank_list byte_given_by ds d)) (7 - k))
reading_pulls [] d k e = rw (ones k e)
reading_pulls (b ∷ ds) d k e =
    let x = byte_given_by b d.0 in
    let y = joint_byte (bank_list byte_given_by ds d.1) in
    rw (show_one b d.0 k e, reading_pulls ds d.1 k e, digit_and x y (7 - k))
    (not_and (bit_at x (7 - k)) (bit_at y (7 - k)))

-- what a bit makes of all ports at each place, and whether they pull SDA there
module _ (ds : List Behaviour) where
  abbrev D : Side
  D = ports_side ds

  abbrev pub called_for : ℕ → Direction → Bank AddressedDevice ds → Bank DeviceInLeg ds
  called_for a r d = bank_map (λ b. device_after_call b a r) ds d

  abbrev pub put_to_all : ℕ → Bank DeviceInLeg ds → Bank DeviceInLeg ds
  put_to_all x d = bank_map (λ b. device_after_put b x) ds d

  pub address_more : (d : Bank AddressedDevice ds) (k v : ℕ) (x : Bool) → ltb k 7 ≡ true →
      D.bit (bank_map (addressing_at k v) ds d) x ≡ bank_map (addressing_at (suc k) (shift_in v x)) ds d
  address_more d k v x e =
      each_each (addressing_at k v) (counting x) (addressing_at (suc k) (shift_in v x))
      (λ b p. address_one b p k v x e) ds d

  -- the last bit of the address byte asks the devices that it calls
  pub address_full : (d : Bank AddressedDevice ds) (v : ℕ) (x : Bool) →
      let w = shift_in v x in
      let r = direction_of (eqb (w % 2) 1) in
      D.bit (bank_map (addressing_at 7 v) ds d) x ≡ bank_map (acknowledging_at r) ds (called_for (w / 2) r d)
  address_full d v x =
      let w = shift_in v x in
      let r = direction_of (eqb (w % 2) 1) in
      each_pair (addressing_at 7 v) (counting x) (λ b. device_after_call b (w / 2) r) (acknowledging_at r)
      (λ b p. called_one b p v (w / 2) r (answers_to p.address (w / 2)) refl) ds d

  pub write_more : (d : Bank DeviceInLeg ds) (k v : ℕ) (x : Bool) → ltb k 7 ≡ true →
      D.bit (bank_map (writing_at k v) ds d) x ≡ bank_map (writing_at (suc k) (shift_in v x)) ds d
  write_more d k v x e =
      each_each (writing_at k v) (counting x) (writing_at (suc k) (shift_in v x)) (λ b p. write_one b p k v x e) ds d

  -- the last bit of a byte that is given gives it to the devices
  pub write_full : (d : Bank DeviceInLeg ds) (v : ℕ) (x : Bool) →
      D.bit (bank_map (writing_at 7 v) ds d) x ≡ bank_map (acknowledging_at Write) ds (put_to_all (shift_in v x) d)
  write_full d v x =
      each_pair (writing_at 7 v) (counting x) (λ b. device_after_put b (shift_in v x)) (acknowledging_at Write)
      (λ b p. put_one b p v x) ds d

  pub read_more : (d : Bank DeviceInLeg ds) (k : ℕ) (x : Bool) → ltb k 8 ≡ true →
      D.bit (bank_map (reading_at k) ds d) x ≡ bank_map (reading_at (suc k)) ds d
  read_more d k x e = each_each (reading_at k) (counting x) (reading_at (suc k)) (λ b p. read_one b p k x e) ds d

  -- after the acknowledge of a call or of a byte, A or N, those still in wait for a byte
  pub write_on : (d : Bank DeviceInLeg ds) (x : Bool) →
      D.bit (bank_map (acknowledging_at Write) ds d) x ≡ bank_map (writing_at 0 0) ds d
  write_on d x = each_each (acknowledging_at Write) (counting x) (writing_at 0 0) (λ b p. write_on_one b p x) ds d

  -- after the A of a call to read those in give their first byte
  read_on : (d : Bank DeviceInLeg ds) →
      D.bit (bank_map (acknowledging_at Read) ds d) false ≡ bank_map (reading_at 0) ds d
  read_on d = each_each (acknowledging_at Read) (counting false) (reading_at 0) read_on_one ds d

  -- and after its N nobody gives any
  pub read_none : (d : Bank DeviceInLeg ds) → D.bit (bank_map (acknowledging_at Read) ds d) true ≡ bank_map out_at ds d
  read_none d = each_each (acknowledging_at Read) (counting true) out_at read_none_one ds d

  -- after the acknowledge of a leg's call, A
  abbrev pub ready : BodyModel → Bank DeviceInLeg ds → Bank PortModel ds
  ready (writes xs) d = bank_map (writing_at 0 0) ds d
  ready (reads n) d = bank_map (reading_at 0) ds d

  pub gets_ready : (b : BodyModel) (d : Bank DeviceInLeg ds) →
      D.bit (bank_map (acknowledging_at (body_direction b)) ds d) false ≡ ready b d
  gets_ready (writes xs) d = write_on d false
  gets_ready (reads n) d = read_on d

  -- the master's A takes another byte
  pub one_more : (d : Bank DeviceInLeg ds) →
      D.bit (bank_map (reading_at 8) ds d) false ≡ bank_map (reading_at 0) ds (bank_map device_after_take ds d)
  one_more d = each_pair (reading_at 8) (counting false) device_after_take (reading_at 0) more_one ds d

  -- and its N ends the leg
  pub no_more : (d : Bank DeviceInLeg ds) →
      D.bit (bank_map (reading_at 8) ds d) true ≡ bank_map out_at ds (bank_map device_after_take ds d)
  no_more d = each_pair (reading_at 8) (counting true) device_after_take out_at last_one ds d

  pub address_quiet : (d : Bank AddressedDevice ds) (k v : ℕ) → D.pulls (bank_map (addressing_at k v) ds d) ≡ false
  address_quiet d k v = none_each (addressing_at k v) pulling (λ b p. refl) ds d

  pub write_quiet : (d : Bank DeviceInLeg ds) (k v : ℕ) → D.pulls (bank_map (writing_at k v) ds d) ≡ false
  write_quiet d k v = none_each (writing_at k v) pulling (λ b p. writing_still k v p.inside) ds d

  pub acknowledge_pulls : (d : Bank DeviceInLeg ds) (r : Direction) →
      D.pulls (bank_map (acknowledging_at r) ds d) ≡ any_in ds d
  acknowledge_pulls d r =
      any_each (acknowledging_at r) pulling (λ b p. p.inside) (λ b p. acknowledge_one r p.inside) ds d

  pub eighth_quiet : (d : Bank DeviceInLeg ds) → D.pulls (bank_map (reading_at 8) ds d) ≡ false
  eighth_quiet d = none_each (reading_at 8) pulling (λ b p. eighth_still (byte_given_by b p) p.inside) ds d

  pub opened_is : (d : Bank AddressedDevice ds) → D.begin (idle_ports ds d) ≡ bank_map (addressing_at 0 0) ds d
  opened_is d = each_each idle_port starting (addressing_at 0 0) (λ b p. refl) ds d

  -- between a leg's last bit and the start or stop that follows
  pub record Rests (u : Bank PortModel ds) (e : Bank DeviceInLeg ds) : Type 0 where
    pub quiet : D.pulls u ≡ false
    pub stop : D.finish u ≡ idle_ports ds (bank_map device_after_leg ds e)
    pub start : D.begin u ≡ bank_map (addressing_at 0 0) ds (bank_map device_after_leg ds e)

  pub rests_writing : (e : Bank DeviceInLeg ds) → Rests (bank_map (writing_at 0 0) ds e) e
  rests_writing e = record {
    quiet = write_quiet e 0 0;
    stop = each_pair (writing_at 0 0) stopping device_after_leg idle_port (λ b p. refl) ds e;
    start = each_pair (writing_at 0 0) starting device_after_leg (addressing_at 0 0) (λ b p. refl) ds e;
  }

  pub rests_out : (e : Bank DeviceInLeg ds) → Rests (bank_map out_at ds e) e
  rests_out e = record {
    quiet = none_each out_at pulling (λ b p. refl) ds e;
    stop = each_pair out_at stopping device_after_leg idle_port (λ b p. refl) ds e;
    start = each_pair out_at starting device_after_leg (addressing_at 0 0) (λ b p. refl) ds e;
  }
