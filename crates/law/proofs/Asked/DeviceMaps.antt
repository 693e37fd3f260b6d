-- Maps of meanings that commute with the steps of devices carry along ports, and a transfer played or carried alone.
use Rattle.std.proofs.Common.{◌≡◌, ℕ, zero, suc, Bool, cond, ◌||◌, List, [], ◌∷◌, Option, sym, refl, ap, ◌∙◌, le_refl}
use Rattle.std.proofs.Common.{arith}
use Rattle.transfer.specs.declared.leg.Direction.{Direction}
use Rattle.transfer.specs.Transfer.{TransferModel}
use Rattle.device.specs.Device.{Behaviour}
use Rattle.port.specs.declared.port.Mode.{Mode}
use Rattle.port.specs.declared.port.Mode.TheVariants.{Out, Addressing}
use Rattle.wire.specs.declared.event.Event.{Event}
use Rattle.wire.specs.ByteProgress.{progress}
use Rattle.wire.specs.Pulls.{pulls_or}
use Rattle.port.specs.Port.{PortModel, port_pulls, port_after_bit, port_after_finish, port_after_event}
use Rattle.master.specs.declared.symbol.Symbol.{Symbol}
use Rattle.master.specs.Cursor.{new_cursor, outcome_of}
use Rattle.master.specs.Script.{Script, transfers}
use Rattle.law.specs.Bank.{Bank, bank_map, bank_list}
use Rattle.law.specs.BusModel.{all_pulls}
use Rattle.law.specs.TransferResult.{AddressedDevice, transfer_result}
use Rattle.transfer.specs.Legal.{IsLegal}
use Rattle.law.specs.Use.{addressed_device}
use Rattle.law.proofs.FarSide.{Side, ends, letter, heard, after, string, last, final}
use Rattle.law.proofs.Alone.StepsOfBanks.{any}
use Rattle.law.proofs.Alone.PlayedIsCarried.{carried_alone}
use Rattle.law.proofs.Alone.PortsAsSide.{counting, pulling, unheld, ports_side, idle_ports}
use Rattle.law.proofs.Alone.SlotsRunOut.{slots_left}
use Rattle.law.proofs.Alone.PlayedIsCarried.{opened_ports, Agrees}

-- a map of the meanings of one behaviour to those of another that commutes with all four steps
pub record Morphism (b c : Behaviour) : Type 0 where
  pub to : b.Meaning → c.Meaning
  pub selects : (m : b.Meaning) (r : Direction) → c.select (to m) r ≡ ((b.select m r).0, to (b.select m r).1)
  pub puts : (m : b.Meaning) (x : ℕ) → c.put (to m) x ≡ ((b.put m x).0, to (b.put m x).1)
  pub takes : (m : b.Meaning) → c.take (to m) ≡ ((b.take m).0, to (b.take m).1)
  pub finishes : (m : b.Meaning) → c.finish (to m) ≡ to (b.finish m)

-- one for each device of two banks
pub data Morphisms : List Behaviour → List Behaviour → Type 1 where
  empty : Morphisms [] []
  also : (b c : Behaviour) (bs cs : List Behaviour) → Morphism b c → Morphisms bs cs → Morphisms (b ∷ bs) (c ∷ cs)

module _ (b c : Behaviour) (h : Morphism b c) where
  abbrev placed_to : AddressedDevice b → AddressedDevice c
  placed_to d = record { address = d.address; meaning = h.to d.meaning }

  abbrev pub port_to : PortModel b → PortModel c
  port_to p = record { address = p.address; meaning = h.to p.meaning; owed = p.owed; mode = p.mode; hold = p.hold }

  counts_to : (p : PortModel b) (m : Mode) (x : Bool) (n : ℕ) →
      port_after_bit c (port_to p) m x n ≡ port_to (port_after_bit b p m x n)
  counts_to p m x n = grind (arith, h.selects, h.puts, h.takes)

  settles_to : (p : PortModel b) (m : Mode) → port_after_finish c (port_to p) m ≡ port_to (port_after_finish b p m)
  settles_to p m = grind (arith, h.finishes p.meaning)

  pub sees_to : (p : PortModel b) (e : Event) (o : Option Bool) (n : ℕ) →
      port_after_event c (port_to p) e o n ≡ port_to (port_after_event b p e o n)
  sees_to p e o n = grind (arith, counts_to p p.mode, settles_to p)

abbrev pub devices_to : {bs cs : List Behaviour} → Morphisms bs cs → Bank AddressedDevice bs → Bank AddressedDevice cs
devices_to empty d = tt
devices_to (also b c bs cs f h) d = (placed_to b c f d.0, devices_to h d.1)

abbrev pub ports_to : {bs cs : List Behaviour} → Morphisms bs cs → Bank PortModel bs → Bank PortModel cs
ports_to empty s = tt
ports_to (also b c bs cs f h) s = (port_to b c f s.0, ports_to h s.1)

pub pulls_to : {bs cs : List Behaviour} (h : Morphisms bs cs) (s : Bank PortModel bs) →
    all_pulls (bank_list port_pulls cs (ports_to h s)) ≡ all_pulls (bank_list port_pulls bs s)
pulls_to empty s = refl
pulls_to (also b c bs cs f h) s = ap (pulls_or (port_pulls b s.0)) (pulls_to h s.1)

-- the devices at the ports
abbrev pub devices_at : (ds : List Behaviour) → Bank PortModel ds → Bank AddressedDevice ds
devices_at ds s = bank_map addressed_device ds s

pub devices_at_to : {bs cs : List Behaviour} (h : Morphisms bs cs) (s : Bank PortModel bs) →
    devices_at cs (ports_to h s) ≡ devices_to h (devices_at bs s)
devices_at_to empty s = refl
devices_at_to (also b c bs cs f h) s = ap (λ r. (placed_to b c f (addressed_device b s.0), r)) (devices_at_to h s.1)

pub devices_at_unheld : (ds : List Behaviour) (s : Bank PortModel ds) →
    devices_at ds (bank_map unheld ds s) ≡ devices_at ds s
devices_at_unheld [] s = refl
devices_at_unheld (b ∷ ds) s = ap (λ r. (addressed_device b s.0, r)) (devices_at_unheld ds s.1)

abbrev pub device_addresses : (ds : List Behaviour) → Bank AddressedDevice ds → List ℕ
device_addresses ds d = bank_list (λ b p. p.address) ds d

abbrev pub port_addresses : (ds : List Behaviour) → Bank PortModel ds → List ℕ
port_addresses ds s = bank_list (λ b p. p.address) ds s

pub same_addresses : (ds : List Behaviour) (s : Bank PortModel ds) →
    port_addresses ds s ≡ device_addresses ds (devices_at ds s)
same_addresses [] s = refl
same_addresses (b ∷ ds) s = ap (λ l. s.0.address ∷ l) (same_addresses ds s.1)

pub addresses_to : {bs cs : List Behaviour} (h : Morphisms bs cs) (s : Bank PortModel bs) →
    port_addresses cs (ports_to h s) ≡ port_addresses bs s
addresses_to empty s = refl
addresses_to (also b c bs cs f h) s = ap (λ l. s.0.address ∷ l) (addresses_to h s.1)

-- so the side of the mapped ports goes as the side of the ports
side_bit : {bs cs : List Behaviour} (h : Morphisms bs cs) (s : Bank PortModel bs) (x : Bool) →
    bank_map (counting x) cs (ports_to h s) ≡ ports_to h (bank_map (counting x) bs s)
side_bit empty s x = refl
side_bit (also b c bs cs f h) s x = λ i. (counts_to b c f s.0 s.0.mode x 0 i, side_bit h s.1 x i)

side_settles : {bs cs : List Behaviour} (h : Morphisms bs cs) (s : Bank PortModel bs) (m : Mode) →
    bank_map (λ b p. port_after_finish b p m) cs (ports_to h s) ≡
    ports_to h (bank_map (λ b p. port_after_finish b p m) bs s)
side_settles empty s m = refl
side_settles (also b c bs cs f h) s m = λ i. (settles_to b c f s.0 m i, side_settles h s.1 m i)

side_pulling : {bs cs : List Behaviour} (h : Morphisms bs cs) (s : Bank PortModel bs) →
    any pulling cs (ports_to h s) ≡ any pulling bs s
side_pulling empty s = refl
side_pulling (also b c bs cs f h) s = ap (λ v. pulling b s.0 || v) (side_pulling h s.1)

-- a map of the states of one side to those of another that commutes with what they do
pub record SideMorphism (D E : Side) : Type 0 where
  pub to : D.S → E.S
  pub pulls : (s : D.S) → E.pulls (to s) ≡ D.pulls s
  pub bit : (s : D.S) (x : Bool) → E.bit (to s) x ≡ to (D.bit s x)
  pub begin : (s : D.S) → E.begin (to s) ≡ to (D.begin s)
  pub finish : (s : D.S) → E.finish (to s) ≡ to (D.finish s)

abbrev side_to : (bs cs : List Behaviour) → Morphisms bs cs → SideMorphism (ports_side bs) (ports_side cs)
side_to bs cs h = record {
  to = ports_to h;
  pulls = side_pulling h;
  bit = side_bit h;
  begin = λ s. side_settles h s (Addressing (progress 0 0));
  finish = λ s. side_settles h s Out;
}

module _ (W : Script) (D E : Side) (h : SideMorphism D E) where
  -- slot by slot
  letter_to : (x : Symbol) (s : D.S) → letter E x (h.to s) ≡ letter D x s
  letter_to x s = grind (arith, h.pulls s)

  heard_to : (x : Symbol) (s : D.S) → heard E x (h.to s) ≡ heard D x s
  heard_to x s = grind (arith, h.pulls s)

  after_to : (x : Symbol) (s : D.S) → after E x (h.to s) ≡ h.to (after D x s)
  after_to x s = grind (arith, h.pulls s, h.bit s, h.begin s, h.finish s)

  -- a script that plays against both spells the same, and leaves the one as the other
  string_to : (n : ℕ) (c : W.Cursor) (s : D.S) → string W E n c (h.to s) ≡ string W D n c s
  string_to zero c s = refl
  string_to (suc n) c s =
      let x = W.symbol c in
      let q = W.next c (heard D x s) in
      (λ i. letter_to x s i ∷ cond (ends x) [] (string W E n (W.next c (heard_to x s i)) (after_to x s i)))
      ∙ ap (λ l. letter D x s ∷ cond (ends x) [] l) (string_to n q (after D x s))

  -- at the end, and before it
  last_if : (v : Bool) (s t : D.S) (u : E.S) → u ≡ h.to t → cond v (h.to s) u ≡ h.to (cond v s t)
  last_if v s t u e = grind (arith, e)

  last_to : (n : ℕ) (c : W.Cursor) (s : D.S) → last W E n c (h.to s) ≡ h.to (last W D n c s)
  last_to zero c s = refl
  last_to (suc n) c s =
      let x = W.symbol c in
      let u = after D x s in
      let q = W.next c (heard D x s) in
      (λ i. cond (ends x) (after_to x s i) (last W E n (W.next c (heard_to x s i)) (after_to x s i)))
      ∙ last_if (ends x) u (last W D n q u) (last W E n q (h.to u)) (last_to n q u)

  final_to : (n : ℕ) (c : W.Cursor) (s : D.S) → final W E n c (h.to s) ≡ final W D n c s
  final_to zero c s = refl
  final_to (suc n) c s =
      let x = W.symbol c in
      let q = W.next c (heard D x s) in
      (λ i. cond (ends x) c (final W E n (W.next c (heard_to x s i)) (after_to x s i)))
      ∙ ap (λ f. cond (ends x) c f) (final_to n q (after D x s))

-- idle ports by their devices
pub devices_of_idle : (ds : List Behaviour) (d : Bank AddressedDevice ds) → devices_at ds (idle_ports ds d) ≡ d
devices_of_idle [] d = refl
devices_of_idle (b ∷ ds) d = ap (λ r. (d.0, r)) (devices_of_idle ds d.1)

pub idle_same : (ds : List Behaviour) (d e : Bank AddressedDevice ds) → idle_ports ds d ≡ idle_ports ds e → d ≡ e
idle_same ds d e q = sym (devices_of_idle ds d) ∙ (ap (devices_at ds) q ∙ devices_of_idle ds e)

idle_to : {bs cs : List Behaviour} (h : Morphisms bs cs) (d : Bank AddressedDevice bs) →
    idle_ports cs (devices_to h d) ≡ ports_to h (idle_ports bs d)
idle_to empty d = refl
idle_to (also b c bs cs f h) d = λ i. (port_to b c f (idle_ports (b ∷ bs) d).0, idle_to h d.1 i)

module _ (bs cs : List Behaviour) (h : Morphisms bs cs) where
  abbrev P : Side
  P = ports_side bs

  abbrev Q : Side
  Q = ports_side cs

  abbrev goes : SideMorphism P Q
  goes = side_to bs cs h

  opened_to : (d : Bank AddressedDevice bs) → opened_ports cs (devices_to h d) ≡ ports_to h (opened_ports bs d)
  opened_to d = ap Q.begin (idle_to h d) ∙ goes.begin (idle_ports bs d)

  -- after some slots of a transfer alone
  module _ (n : ℕ) (t : TransferModel) (d : Bank AddressedDevice bs) where
    pub played_to : last transfers Q n (new_cursor t) (opened_ports cs (devices_to h d)) ≡
        ports_to h (last transfers P n (new_cursor t) (opened_ports bs d))
    played_to = ap (last transfers Q n (new_cursor t)) (opened_to d)
        ∙ last_to transfers P Q goes n (new_cursor t) (opened_ports bs d)

    pub spelled_to : string transfers Q n (new_cursor t) (opened_ports cs (devices_to h d)) ≡
        string transfers P n (new_cursor t) (opened_ports bs d)
    spelled_to = ap (string transfers Q n (new_cursor t)) (opened_to d)
        ∙ string_to transfers P Q goes n (new_cursor t) (opened_ports bs d)

    ended_to : final transfers Q n (new_cursor t) (opened_ports cs (devices_to h d)) ≡
        final transfers P n (new_cursor t) (opened_ports bs d)
    ended_to = ap (final transfers Q n (new_cursor t)) (opened_to d)
        ∙ final_to transfers P Q goes n (new_cursor t) (opened_ports bs d)

  module _ (t : TransferModel) (d : Bank AddressedDevice bs) (k : IsLegal t) where
    abbrev n : ℕ
    n = slots_left (new_cursor t)

    abbrev here : Agrees bs t d n
    here = carried_alone bs t d n k (le_refl n)

    abbrev there : Agrees cs t (devices_to h d) n
    there = carried_alone cs t (devices_to h d) n k (le_refl n)

    pub carried_devices : (transfer_result cs t (devices_to h d)).devices ≡
        devices_to h (transfer_result bs t d).devices
    carried_devices = let e = (transfer_result bs t d).devices in
        idle_same cs (transfer_result cs t (devices_to h d)).devices (devices_to h e)
        (sym there.same_devices ∙ (played_to n t d ∙ (ap (ports_to h) here.same_devices ∙ sym (idle_to h e))))

    pub carried_outcome : (transfer_result cs t (devices_to h d)).outcome ≡ (transfer_result bs t d).outcome
    carried_outcome = sym there.same_outcome ∙ (ap outcome_of (ended_to n t d) ∙ here.same_outcome)
