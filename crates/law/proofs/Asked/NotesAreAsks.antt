-- Devices that note their steps go as the devices do, whatever is noted already, and note in a tick what the ports ask.
use Rattle.std.proofs.Common.{◌≡◌, ℕ, suc, ◌≤◌, Bool, true, false, cond, List, [], ◌∷◌, ◌++◌, length, append_assoc}
use Rattle.std.proofs.Common.{append-nil, Option, sym, refl, ap, ap₂, ◌∙◌, arith}
use Rattle.std.proofs.lemmas.List.{append_cancel_left}
use Rattle.device.specs.Device.{Behaviour, Step, select, put, take, finish}
use Rattle.port.specs.declared.port.Mode.{Mode}
use Rattle.port.specs.Port.{PortModel, port_after_bit, port_after_event, reset_port, steps_at_bit, steps_at_event}
use Rattle.port.specs.Port.{steps_asked}
use Rattle.wire.specs.declared.event.Event.{Event}
use Rattle.wire.specs.declared.wire.Signal.{Signal}
use Rattle.law.specs.AskedLaw.{StepsNoted, with_step, noting_steps, all_noting_steps, all_nothing_noted, all_steps}
use Rattle.law.specs.Bank.{Bank, bank_map, bank_list}
use Rattle.law.specs.BusModel.{HoldAnswers, ports_step}
use Rattle.law.specs.TransferResult.{AddressedDevice, DeviceInLeg}
use Rattle.law.specs.Use.{lists_appended}
use Rattle.law.proofs.Alone.PortsAsSide.{unheld}
use Rattle.law.proofs.Asked.DeviceMaps.{Morphism, Morphisms, empty, also, port_to, sees_to, devices_to, ports_to}
use Rattle.law.proofs.Asked.DeviceMaps.{devices_at, devices_at_to, devices_at_unheld}

-- lists of lists, each with new steps behind it
pub lists_appended_assoc : (xs ys zs : List (List Step)) → length xs ≤ length ys →
    lists_appended (lists_appended xs ys) zs ≡ lists_appended xs (lists_appended ys zs)
lists_appended_assoc [] ys zs h = refl
lists_appended_assoc (x ∷ xs) [] zs h = absurd (omega arith)
lists_appended_assoc (x ∷ xs) (y ∷ ys) [] h = refl
lists_appended_assoc (x ∷ xs) (y ∷ ys) (z ∷ zs) h =
    ap₂ ◌∷◌ (append_assoc x y z) (lists_appended_assoc xs ys zs (omega arith))

pub length_lists_appended : (xs ys : List (List Step)) → length (lists_appended xs ys) ≡ length xs
length_lists_appended [] ys = refl
length_lists_appended (x ∷ xs) [] = refl
length_lists_appended (x ∷ xs) (y ∷ ys) = ap suc (length_lists_appended xs ys)

-- a common front cancels
pub lists_appended_cancel : (xs ys zs : List (List Step)) → length ys ≡ length xs → length zs ≡ length xs →
    lists_appended xs ys ≡ lists_appended xs zs → ys ≡ zs
lists_appended_cancel [] [] [] h k e = refl
lists_appended_cancel [] [] (z ∷ zs) h k e = absurd (omega arith)
lists_appended_cancel [] (y ∷ ys) zs h k e = absurd (omega arith)
lists_appended_cancel (x ∷ xs) [] zs h k e = absurd (omega arith)
lists_appended_cancel (x ∷ xs) (y ∷ ys) [] h k e = absurd (omega arith)
lists_appended_cancel (x ∷ xs) (y ∷ ys) (z ∷ zs) h k e =
    let head : x ++ y ≡ x ++ z = cc in
    let tail : lists_appended xs ys ≡ lists_appended xs zs = cc in
    ap₂ ◌∷◌ (append_cancel_left x y z head) (lists_appended_cancel xs ys zs (omega arith) (omega arith) tail)

module _ (b : Behaviour) where
  -- without what is noted
  abbrev forget : Morphism (noting_steps b) b
  forget = record {
    to = λ m. m.meaning;
    selects = λ m r. refl;
    puts = λ m x. refl;
    takes = λ m. refl;
    finishes = λ m. refl;
  }

  -- with these steps noted before
  abbrev noted_before : List Step → StepsNoted b → StepsNoted b
  noted_before ss m = record { meaning = m.meaning; steps = ss ++ m.steps }

  pub noting_before : (ss : List Step) (m : StepsNoted b) (s : Step) (n : b.Meaning) →
      with_step b (noted_before ss m) s n ≡ noted_before ss (with_step b m s n)
  noting_before ss m s n = ap (λ l. record { meaning = n; steps = l }) (append_assoc ss m.steps (s ∷ []))

  abbrev put_before : List Step → Morphism (noting_steps b) (noting_steps b)
  put_before ss = record {
    to = noted_before ss;
    selects = λ m r. let a = b.select m.meaning r in ap (λ n. (a.0, n)) (noting_before ss m (select r a.0) a.1);
    puts = λ m x. let a = b.put m.meaning x in ap (λ n. (a.0, n)) (noting_before ss m (put x a.0) a.1);
    takes = λ m. let a = b.take m.meaning in ap (λ n. (a.0, n)) (noting_before ss m (take a.0) a.1);
    finishes = λ m. noting_before ss m finish (b.finish m.meaning);
  }

-- devices that note their steps, the same in a leg, and ports with such devices
abbrev pub NotingDevices : List Behaviour → Type 0
NotingDevices ds = Bank AddressedDevice (all_noting_steps ds)

abbrev pub NotingInLeg : List Behaviour → Type 0
NotingInLeg ds = Bank DeviceInLeg (all_noting_steps ds)

abbrev pub NotingPorts : List Behaviour → Type 0
NotingPorts ds = Bank PortModel (all_noting_steps ds)

abbrev pub forgetting : (ds : List Behaviour) → Morphisms (all_noting_steps ds) ds
forgetting [] = empty
forgetting (b ∷ ds) = also (noting_steps b) b (all_noting_steps ds) ds (forget b) (forgetting ds)

-- with what these devices have noted before
abbrev pub after_these : (ds : List Behaviour) → NotingDevices ds →
    Morphisms (all_noting_steps ds) (all_noting_steps ds)
after_these [] d = empty
after_these (b ∷ ds) d = let es = all_noting_steps ds in
    also (noting_steps b) (noting_steps b) es es (put_before b d.0.meaning.steps) (after_these ds d.1)

abbrev pub bare_devices : (ds : List Behaviour) → NotingDevices ds → Bank AddressedDevice ds
bare_devices ds d = devices_to (forgetting ds) d

abbrev pub bare_ports : (ds : List Behaviour) → NotingPorts ds → Bank PortModel ds
bare_ports ds p = ports_to (forgetting ds) p

-- the steps noted so far by the device of each port
abbrev pub noted_by : (ds : List Behaviour) → NotingPorts ds → List (List Step)
noted_by ds p = all_steps ds (devices_at (all_noting_steps ds) p)

pub length_noted : (ds : List Behaviour) (d : NotingDevices ds) → length (all_steps ds d) ≡ length ds
length_noted [] d = refl
length_noted (b ∷ ds) d = ap suc (length_noted ds d.1)

pub bare_unnoted : (ds : List Behaviour) (d : Bank AddressedDevice ds) → bare_devices ds (all_nothing_noted ds d) ≡ d
bare_unnoted [] d = refl
bare_unnoted (b ∷ ds) d = ap (λ r. (d.0, r)) (bare_unnoted ds d.1)

-- any devices are those with nothing noted, with their notes before
pub noted_again : (ds : List Behaviour) (d : NotingDevices ds) →
    devices_to (after_these ds d) (all_nothing_noted ds (bare_devices ds d)) ≡ d
noted_again [] d = refl
noted_again (b ∷ ds) d = let m = d.0.meaning in λ i. (
  record { address = d.0.address; meaning = record { meaning = m.meaning; steps = append-nil m.steps i } },
  noted_again ds d.1 i,
)

pub noted_after : (ds : List Behaviour) (d e : NotingDevices ds) →
    all_steps ds (devices_to (after_these ds d) e) ≡ lists_appended (all_steps ds d) (all_steps ds e)
noted_after [] d e = refl
noted_after (b ∷ ds) d e = ap (λ l. (d.0.meaning.steps ++ e.0.meaning.steps) ∷ l) (noted_after ds d.1 e.1)

pub noted_by_after : (ds : List Behaviour) (d : NotingDevices ds) (p : NotingPorts ds) →
    noted_by ds (ports_to (after_these ds d) p) ≡ lists_appended (all_steps ds d) (noted_by ds p)
noted_by_after ds d p = ap (all_steps ds) (devices_at_to (after_these ds d) p)
    ∙ noted_after ds d (devices_at (all_noting_steps ds) p)

pub noted_unheld : (ds : List Behaviour) (p : NotingPorts ds) →
    noted_by ds (bank_map unheld (all_noting_steps ds) p) ≡ noted_by ds p
noted_unheld ds p = ap (all_steps ds) (devices_at_unheld (all_noting_steps ds) p)

-- one port
module _ (b : Behaviour) where
  abbrev bare_port : PortModel (noting_steps b) → PortModel b
  bare_port p = port_to (noting_steps b) b (forget b) p

  -- from p to q a device noted these steps
  abbrev Notes : PortModel (noting_steps b) → PortModel (noting_steps b) → List Step → Type 0
  Notes p q ss = q.meaning.steps ≡ p.meaning.steps ++ ss

  nothing_noted : (p : PortModel (noting_steps b)) → Notes p p []
  nothing_noted p = sym (append-nil p.meaning.steps)

  either_notes : (v : Bool) (p q r : PortModel (noting_steps b)) (ss ts : List Step) →
      Notes p q ss → Notes p r ts → Notes p (cond v q r) (cond v ss ts)
  either_notes true p q r ss ts g h = g
  either_notes false p q r ss ts g h = h

  finish_noted : (v : Bool) (m : StepsNoted b) →
      (cond v ((noting_steps b).finish m) m).steps ≡ m.steps ++ cond v (finish ∷ []) []
  finish_noted v m = grind (arith, append-nil m.steps)

  bit_noted : (p : PortModel (noting_steps b)) (m : Mode) (x : Bool) (n : ℕ) →
      Notes p (port_after_bit (noting_steps b) p m x n) (steps_at_bit b (bare_port p) m x)
  bit_noted p m x n = grind (arith, append-nil p.meaning.steps)

  -- what a device notes is what its port asks
  step_noted : (p : PortModel (noting_steps b)) (e : Event) (o : Option Bool) (n : ℕ) →
      Notes p (port_after_event (noting_steps b) p e o n) (steps_at_event b (bare_port p) e o)
  step_noted p e o n = grind (arith, finish_noted p.owed p.meaning, nothing_noted p, bit_noted p p.mode)

abbrev pub same_holds : (ds : List Behaviour) → HoldAnswers ds → HoldAnswers (all_noting_steps ds)
same_holds [] a = tt
same_holds (b ∷ ds) a = (a.0, same_holds ds a.1)

module _ (s : Signal) where
  pub steps_noted : (ds : List Behaviour) (p : NotingPorts ds) (a : HoldAnswers ds) →
      noted_by ds (ports_step (all_noting_steps ds) p s (same_holds ds a)) ≡
      lists_appended (noted_by ds p) (bank_list (λ b q. steps_asked b q s) ds (bare_ports ds p))
  steps_noted [] p a = refl
  steps_noted (b ∷ ds) p a = ap₂ ◌∷◌ (step_noted b p.0 s.event s.bit a.0.0) (steps_noted ds p.1 a.1)

  -- and the ports go the same way
  pub steps_bare : (ds : List Behaviour) (p : NotingPorts ds) (a : HoldAnswers ds) →
      bare_ports ds (ports_step (all_noting_steps ds) p s (same_holds ds a)) ≡ ports_step ds (bare_ports ds p) s a
  steps_bare [] p a = refl
  steps_bare (b ∷ ds) p a = λ i. (
    sym (sees_to (noting_steps b) b (forget b) p.0 s.event s.bit a.0.0) i,
    steps_bare ds p.1 a.1 i,
  )

-- a port whose device has noted nothing
abbrev with_nothing_noted : (b : Behaviour) → PortModel b → PortModel (noting_steps b)
with_nothing_noted b p = record {
  address = p.address;
  meaning = record { meaning = p.meaning; steps = [] };
  owed = p.owed;
  mode = p.mode;
  hold = p.hold;
}

abbrev pub with_notes : (ds : List Behaviour) → Bank PortModel ds → NotingPorts ds
with_notes [] p = tt
with_notes (b ∷ ds) p = (with_nothing_noted b p.0, with_notes ds p.1)

pub new_bare : (ds : List Behaviour) (p : Bank PortModel ds) →
    bare_ports ds (bank_map reset_port (all_noting_steps ds) (with_notes ds p)) ≡ bank_map reset_port ds p
new_bare [] p = refl
new_bare (b ∷ ds) p = ap (λ r. (reset_port b p.0, r)) (new_bare ds p.1)
