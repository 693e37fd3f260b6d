-- Beside each use of a bus goes one of a bus of noting devices, which have noted what was asked since the turn opened.
use Rattle.std.proofs.Common.{◌≡◌, ℕ, suc, Bool, false, cond, ◌||◌, ◌⊎◌, List, [], ◌∷◌, ◌++◌, append-nil}
use Rattle.std.proofs.Common.{ap₂, length, Option, sym, refl, ap, ◌∙◌, subst, inl, inr, arith}
use Rattle.std.proofs.lemmas.Bool.{cond_both}
use Rattle.transfer.specs.Outcome.{OutcomeModel}
use Rattle.device.specs.Device.{Behaviour, Step}
use Rattle.host.specs.Host.{HostBehaviour}
use Rattle.master.specs.Master.{HostedMaster, hosted_step, hosted_pulls, hosted_mark, hosted_told}
use Rattle.port.specs.declared.port.Mode.{Mode}
use Rattle.port.specs.Port.{steps_asked, PortModel, port_after_bit, port_after_event as port_sees, reset_port}
use Rattle.wire.specs.declared.event.Event.{Event}
use Rattle.wire.specs.declared.event.Event.TheVariants.{Rise, Fall, Start, Stop, SteadyHigh, SteadyLow}
use Rattle.wire.specs.declared.levels.Levels.{Levels}
use Rattle.wire.specs.declared.wire.Signal.{Signal}
use Rattle.wire.specs.Pulls.{pulls_or, levels_of}
use Rattle.wire.specs.Event.{event_between}
use Rattle.wire.specs.Wire.{signal, wire_after, busy_after}
use Rattle.law.specs.AskedLaw.{all_noting_steps, all_steps, addresses}
use Rattle.law.specs.Bank.{Bank, bank_map, bank_list, any_true}
use Rattle.law.specs.Book.{Entry, entry_is_armed, entry_contending, entries_after_turn, arm_entry_at, Turn, closed}
use Rattle.law.specs.Book.{opened, is_open, Book, book_told, book_after}
use Rattle.law.specs.BusModel.{all_pulls, HoldAnswers, ports_step, BusModel, arm_at, levels_at, after_levels, tick_at}
use Rattle.law.specs.BusModel.{told_at, ClocksInRange}
use Rattle.law.specs.Monitor.{Monitor, new_monitor, monitor_after_event, monitor_after_marks}
use Rattle.law.specs.Use.{lists_appended, Call, arms, ticks, Use, event_at, marks_of, steps_at, no_steps}
use Rattle.law.specs.Use.{steps_then, use_after_tick, use_after_call, use_after, addressed_device}
use Rattle.law.specs.Use.{new_use}
use Rattle.law.specs.Law.{Law}
use Rattle.law.proofs.Asked.DeviceMaps.{pulls_to, devices_at, devices_at_to, port_addresses, device_addresses}
use Rattle.law.proofs.Asked.DeviceMaps.{same_addresses, devices_of_idle}
use Rattle.law.proofs.Asked.NotesAreAsks.{NotingDevices, lists_appended_assoc, length_lists_appended, forgetting}
use Rattle.law.proofs.Asked.NotesAreAsks.{bare_devices, bare_ports, noted_by, length_noted, noted_unheld, same_holds}
use Rattle.law.proofs.Asked.NotesAreAsks.{steps_noted, steps_bare, with_notes, new_bare}
use Rattle.law.proofs.Bus.CallsKeep.{calls_keep}
use Rattle.law.proofs.Asked.PointsOfUse.{AtRest, Standing, after_calls, then_one, law_holds, stands_holds, law_then}
use Rattle.law.proofs.Asked.PointsOfUse.{stands_then}

module _ (hs : List HostBehaviour) where
  -- the entries and the turn after a tick, by what they were and who is told
  abbrev entries_after : Bank Entry hs → Turn → Event → List (Option OutcomeModel) → Bank Entry hs
  entries_after es v SteadyHigh ts =
      cond (is_open v) es (cond (any_true (bank_list entry_is_armed hs es)) (bank_map entry_contending hs es) es)
  entries_after es v Stop ts = cond (is_open v) (entries_after_turn hs es ts) es
  entries_after es v (Rise x) ts = es
  entries_after es v Fall ts = es
  entries_after es v Start ts = es
  entries_after es v SteadyLow ts = es

  abbrev turn_after : Bank Entry hs → Turn → Event → Turn
  turn_after es v SteadyHigh = cond (is_open v || any_true (bank_list entry_is_armed hs es)) opened closed
  turn_after es v Stop = closed
  turn_after es v (Rise x) = v
  turn_after es v Fall = v
  turn_after es v Start = v
  turn_after es v SteadyLow = v

  -- the monitor after a tick in turn v that leaves turn u
  abbrev monitored : Monitor → Turn → Turn → Bank Entry hs → Event → Monitor
  monitored w v u es e = cond (is_open v) (monitor_after_event w e)
      (cond (is_open u) (new_monitor (bank_list (λ h x. false) hs es)) (monitor_after_event w e))

  -- no turn is open after a stop
  not_stop : (es : Bank Entry hs) (v : Turn) (e : Event) → turn_after es v e ≡ opened → e ≡ Stop → ⊥
  not_stop es v e h k = let z : opened ≡ closed = sym h ∙ ap (turn_after es v) k in cc

module _ (hs : List HostBehaviour) (ds : List Behaviour) where
  -- the book's entries and turn go by these
  entries_are : (b : Book hs ds) (e : Event) →
      (book_after hs ds b e).entries ≡ entries_after hs b.entries b.turn e (book_told hs ds b e)
  entries_are b e = grind arith

  turn_is : (b : Book hs ds) (e : Event) → (book_after hs ds b e).turn ≡ turn_after hs b.entries b.turn e
  turn_is b e = grind arith

  -- only a stop that closes a turn changes the devices
  devices_stay : (b : Book hs ds) (e : Event) → (e ≡ Stop → ⊥) → (book_after hs ds b e).devices ≡ b.devices
  devices_stay b e n = grind arith

is_stop : (e : Event) → (e ≡ Stop) ⊎ (e ≡ Stop → ⊥)
is_stop e = grind arith

-- nothing behind leaves a list as it is
lists_appended_nothing : (ds : List Behaviour) (d : NotingDevices ds) (p : Bank PortModel ds) →
    lists_appended (all_steps ds d) (bank_list (λ b q. []) ds p) ≡ all_steps ds d
lists_appended_nothing [] d p = refl
lists_appended_nothing (b ∷ ds) d p = ap₂ ◌∷◌ (append-nil d.0.meaning.steps) (lists_appended_nothing ds d.1 p.1)

length_listed : (X : Type 0) (f : (b : Behaviour) → PortModel b → X) (ds : List Behaviour) (p : Bank PortModel ds) →
    length (bank_list f ds p) ≡ length ds
length_listed X f [] p = refl
length_listed X f (b ∷ ds) p = ap suc (length_listed X f ds p.1)

-- ports stay at their addresses
module _ (b : Behaviour) where
  bit_stays : (p : PortModel b) (m : Mode) (x : Bool) (n : ℕ) → (port_after_bit b p m x n).address ≡ p.address
  bit_stays p m x n = grind arith

  port_stays : (p : PortModel b) (e : Event) (o : Option Bool) (n : ℕ) → (port_sees b p e o n).address ≡ p.address
  port_stays p e o n = grind (arith, bit_stays p p.mode)

pub ports_stay : (ds : List Behaviour) (p : Bank PortModel ds) (s : Signal) (a : HoldAnswers ds) →
    port_addresses ds (ports_step ds p s a) ≡ port_addresses ds p
ports_stay [] p s a = refl
ports_stay (b ∷ ds) p s a = λ i. port_stays b p.0 s.event s.bit a.0.0 i ∷ ports_stay ds p.1 s a.1 i

module _ (hs : List HostBehaviour) (ds : List Behaviour) where
  abbrev es : List Behaviour
  es = all_noting_steps ds

  -- the bus without the notes
  abbrev bare : BusModel hs es → BusModel hs ds
  bare u = record { wire = u.wire; masters = u.masters; ports = bare_ports ds u.ports }

  levels_bare : (u : BusModel hs es) → levels_at hs es u ≡ levels_at hs ds (bare u)
  levels_bare u = ap (λ q. levels_of (pulls_or (all_pulls (bank_list hosted_pulls hs u.masters)) q))
      (sym (pulls_to (forgetting ds) u.ports))

  tick_bare : (u : BusModel hs es) (a : HoldAnswers ds) →
      bare (tick_at hs es u (same_holds ds a)).1 ≡ (tick_at hs ds (bare u) a).1
  tick_bare u a =
      let v = levels_at hs es u in
      let masters = bank_map (λ h. hosted_step h (signal u.wire v)) hs u.masters in
      ap (λ p. record { wire = wire_after u.wire v; masters = masters; ports = p })
      (steps_bare (signal u.wire v) ds u.ports a)
      ∙ ap (λ w. after_levels hs ds (bare u) w a) (levels_bare u)

  event_bare : (u : BusModel hs es) → event_at hs es u ≡ event_at hs ds (bare u)
  event_bare u = ap (event_between u.wire.last) (levels_bare u)

  marks_bare : (u : BusModel hs es) → marks_of hs es u ≡ marks_of hs ds (bare u)
  marks_bare u = ap (λ v. bank_list (λ h. hosted_mark h (signal u.wire v)) hs u.masters) (levels_bare u)

  told_bare : (u : BusModel hs es) → told_at hs es u ≡ told_at hs ds (bare u)
  told_bare u = ap (λ v. bank_list (λ h. hosted_told h (signal u.wire v)) hs u.masters) (levels_bare u)

  -- what is noted in a tick
  noted_bare : (u : BusModel hs es) (a : HoldAnswers ds) →
      noted_by ds (tick_at hs es u (same_holds ds a)).1.ports ≡
      lists_appended (noted_by ds u.ports) (steps_at hs ds (bare u))
  noted_bare u a =
      let asked = λ (v : Levels). bank_list (λ b q. steps_asked b q (signal u.wire v)) ds (bare_ports ds u.ports) in
      steps_noted (signal u.wire (levels_at hs es u)) ds u.ports a
      ∙ ap (λ v. lists_appended (noted_by ds u.ports) (asked v)) (levels_bare u)

  abbrev asked_so_far : Use hs ds → List (List Step)
  asked_so_far x = cond (is_open x.book.turn) x.asked (no_steps hs ds x.bus)

  -- two uses that go the same way
  pub record Alongside (y : Use hs es) (x : Use hs ds) : Type 0 where
    pub bus : bare y.bus ≡ x.bus
    pub entries : y.book.entries ≡ x.book.entries
    pub turn : y.book.turn ≡ x.book.turn
    pub devices : bare_devices ds y.book.devices ≡ x.book.devices
    pub monitor : y.monitor ≡ x.monitor
    pub placed : addresses hs ds x ≡ device_addresses ds x.book.devices
    pub many : length x.asked ≡ length ds
    -- since the turn opened
    pub noted : noted_by ds y.bus.ports ≡ lists_appended (all_steps ds y.book.devices) (asked_so_far x)

  module _ (y : Use hs es) (x : Use hs ds) (s : Alongside y x) where
    pub same_event : event_at hs es y.bus ≡ event_at hs ds x.bus
    same_event = event_bare y.bus ∙ ap (event_at hs ds) s.bus

    pub same_marks : marks_of hs es y.bus ≡ marks_of hs ds x.bus
    same_marks = marks_bare y.bus ∙ ap (marks_of hs ds) s.bus

    pub same_told : told_at hs es y.bus ≡ told_at hs ds x.bus
    same_told = told_bare y.bus ∙ ap (told_at hs ds) s.bus

    long : length (asked_so_far x) ≡ length ds
    long = cond_both (is_open x.book.turn) x.asked (no_steps hs ds x.bus) (λ l. length l ≡ length ds)
        (λ i. s.many) (λ i. length_listed (List Step) (λ b p. []) ds x.bus.ports)

    pub asked_many : length (steps_then hs ds x) ≡ length ds
    asked_many = length_lists_appended (asked_so_far x) (steps_at hs ds x.bus) ∙ long

    -- in the next tick too
    pub asked_noted : (a : HoldAnswers ds) → noted_by ds (tick_at hs es y.bus (same_holds ds a)).1.ports ≡
        lists_appended (all_steps ds y.book.devices) (steps_then hs ds x)
    asked_noted a =
        let ss = all_steps ds y.book.devices in
        let now = steps_at hs ds x.bus in
        noted_bare y.bus a
        ∙ (ap (λ u. lists_appended (noted_by ds y.bus.ports) (steps_at hs ds u)) s.bus
        ∙ (ap (λ l. lists_appended l now) s.noted
        ∙ lists_appended_assoc ss (asked_so_far x) now
        (let z = long in let w = length_noted ds y.book.devices in omega arith)))

  -- at rest nothing is noted but what the book's devices have
  noted_at_rest : (y : Use hs es) (x : Use hs ds) → y.book.turn ≡ closed → x.book.turn ≡ closed → AtRest hs es y →
      noted_by ds y.bus.ports ≡ lists_appended (all_steps ds y.book.devices) (asked_so_far x)
  noted_at_rest y x e f rests =
      let ss = all_steps ds y.book.devices in
      let asked = λ (v : Turn). cond (is_open v) x.asked (no_steps hs ds x.bus) in
      sym (noted_unheld ds y.bus.ports)
      ∙ (ap (noted_by ds) (rests e)
      ∙ (ap (all_steps ds) (devices_of_idle es y.book.devices)
      ∙ (sym (lists_appended_nothing ds y.book.devices x.bus.ports) ∙ ap (λ v. lists_appended ss (asked v)) (sym f))))

  module _ (y : Use hs es) (x : Use hs ds) (n : ℕ) (s : Alongside y x) where
    armed_alongside : Alongside (use_after_call hs es y (arms n)) (use_after_call hs ds x (arms n))
    armed_alongside = record {
      bus = ap (λ u. (arm_at hs ds u n).1) s.bus;
      entries = ap (λ b. (arm_entry_at hs b n).1) s.entries;
      turn = s.turn;
      devices = s.devices;
      monitor = s.monitor;
      placed = s.placed;
      many = s.many;
      noted = s.noted;
    }

  -- a use, that of the noting bus beside it, and what holds of both here and after a tick
  pub record SideBySide (y : Use hs es) (x : Use hs ds) (a : HoldAnswers ds) : Type 0 where
    pub alongside : Alongside y x
    pub law_here : Law hs ds x
    pub law_next : Law hs ds (use_after_tick hs ds x a)
    pub at_rest : AtRest hs ds x
    pub noting_law_here : Law hs es y
    pub noting_law_next : Law hs es (use_after_tick hs es y (same_holds ds a))
    pub noting_stands : Standing hs es (use_after_tick hs es y (same_holds ds a))

  module _ (y : Use hs es) (x : Use hs ds) (a : HoldAnswers ds) (both : SideBySide y x a) where
    abbrev s : Alongside y x
    s = both.alongside

    abbrev then : Use hs es
    then = use_after_tick hs es y (same_holds ds a)

    abbrev now : Use hs ds
    now = use_after_tick hs ds x a

    abbrev e : Event
    e = event_at hs es y.bus

    abbrev f : Event
    f = event_at hs ds x.bus

    g : e ≡ f
    g = same_event y x s

    same_tells : book_told hs es y.book e ≡ book_told hs ds x.book f
    same_tells = sym both.noting_law_here.tick.tells ∙ (same_told y x s ∙ both.law_here.tick.tells)

    bus : bare then.bus ≡ now.bus
    bus = tick_bare y.bus a ∙ ap (λ u. (tick_at hs ds u a).1) s.bus

    entries : then.book.entries ≡ now.book.entries
    entries = entries_are hs es y.book e
        ∙ ((λ i. entries_after hs (s.entries i) (s.turn i) (g i) (same_tells i)) ∙ sym (entries_are hs ds x.book f))

    turn : then.book.turn ≡ now.book.turn
    turn = turn_is hs es y.book e ∙ ((λ i. turn_after hs (s.entries i) (s.turn i) (g i)) ∙ sym (turn_is hs ds x.book f))

    monitor : then.monitor ≡ now.monitor
    monitor = λ i. monitor_after_marks
        (monitored hs (s.monitor i) (s.turn i) (turn i) (s.entries i) (g i)) (same_marks y x s i)

    free : {F : List Behaviour} → (u : BusModel hs F) → event_at hs F u ≡ Stop →
        busy_after u.wire.busy (event_at hs F u) ≡ false
    free u k = ap (busy_after u.wire.busy) k

    devices : bare_devices ds then.book.devices ≡ now.book.devices
    devices = elim (is_stop e) [
      | inl k ↦ ap (bare_devices ds) (sym (both.noting_law_next.point.devices (free y.bus k)))
          ∙ (sym (devices_at_to (forgetting ds) then.bus.ports)
          ∙ (ap (λ u. devices_at ds u.ports) bus ∙ both.law_next.point.devices (free x.bus (sym g ∙ k))))
      | inr k ↦ ap (bare_devices ds) (devices_stay hs es y.book e k)
          ∙ (s.devices ∙ sym (devices_stay hs ds x.book f (λ j. k (g ∙ j))))
    ]

    placed : addresses hs ds now ≡ device_addresses ds now.book.devices
    placed = elim (is_stop f) [
      | inl k ↦ same_addresses ds now.bus.ports ∙ ap (device_addresses ds) (both.law_next.point.devices (free x.bus k))
      | inr k ↦ ports_stay ds x.bus.ports (signal x.bus.wire (levels_at hs ds x.bus)) a
          ∙ (s.placed ∙ ap (device_addresses ds) (sym (devices_stay hs ds x.book f k)))
    ]

    noted_if : (v : Turn) → now.book.turn ≡ v →
        noted_by ds then.bus.ports ≡ lists_appended (all_steps ds then.book.devices) (asked_so_far now)
    noted_if closed k = noted_at_rest then now (turn ∙ k) k both.noting_stands.at_rest
    noted_if opened k =
        let still_open = sym (turn_is hs es y.book e) ∙ (turn ∙ k) in
        let same = devices_stay hs es y.book e (not_stop hs y.book.entries y.book.turn e still_open) in
        let asked = λ (v : Turn). cond (is_open v) now.asked (no_steps hs ds now.bus) in
        asked_noted y x s a
        ∙ (ap (λ d. lists_appended (all_steps ds d) (steps_then hs ds x)) (sym same)
        ∙ ap (λ v. lists_appended (all_steps ds then.book.devices) (asked v)) (sym k))

    ticked_alongside : Alongside then now
    ticked_alongside = record {
      bus = bus;
      entries = entries;
      turn = turn;
      devices = devices;
      monitor = monitor;
      placed = placed;
      many = asked_many y x s;
      noted = noted_if now.book.turn refl;
    }

  module _ (ms : Bank HostedMaster hs) (ps : Bank PortModel ds) where
    abbrev first : Use hs ds
    first = new_use hs ds ms ps

    abbrev first_noting : Use hs es
    first_noting = new_use hs es ms (with_notes ds ps)

    -- a use, and the use of the noting bus beside it
    pub record Beside (x : Use hs ds) : Type 0 where
      pub calls_made : List (Call hs ds)
      pub is : x ≡ after_calls hs ds ms ps calls_made
      pub noting_calls : List (Call hs es)
      pub alongside : Alongside (after_calls hs es ms (with_notes ds ps) noting_calls) x

    abbrev pub noting_use : (x : Use hs ds) → Beside x → Use hs es
    noting_use x b = after_calls hs es ms (with_notes ds ps) b.noting_calls

    first_devices : (gs : List Behaviour) (qs : Bank PortModel gs) →
        bare_devices gs (devices_at (all_noting_steps gs) (with_notes gs qs)) ≡ devices_at gs qs
    first_devices [] qs = refl
    first_devices (b ∷ gs) qs = ap (λ r. (addressed_device b qs.0, r)) (first_devices gs qs.1)

    first_addresses : (gs : List Behaviour) (qs : Bank PortModel gs) →
        port_addresses gs (bank_map reset_port gs qs) ≡ device_addresses gs (devices_at gs qs)
    first_addresses [] qs = refl
    first_addresses (b ∷ gs) qs = ap (λ l. qs.0.address ∷ l) (first_addresses gs qs.1)

    first_noted : (gs : List Behaviour) (qs : Bank PortModel gs) →
        noted_by gs (bank_map reset_port (all_noting_steps gs) (with_notes gs qs)) ≡
        lists_appended (noted_by gs (with_notes gs qs)) (bank_list (λ b p. []) gs (bank_map reset_port gs qs))
    first_noted [] qs = refl
    first_noted (b ∷ gs) qs = ap (λ l. [] ∷ l) (first_noted gs qs.1)

    first_alongside : Alongside first_noting first
    first_alongside = record {
      bus = ap (λ p. record { wire = first.bus.wire; masters = first.bus.masters; ports = p }) (new_bare ds ps);
      entries = refl;
      turn = refl;
      devices = first_devices ds ps;
      monitor = refl;
      placed = first_addresses ds ps;
      many = length_listed (List Step) (λ b p. []) ds ps;
      noted = first_noted ds ps;
    }

    -- one call more on each side
    called_beside : (x : Use hs ds) (b : Beside x) (c : Call hs ds) (k : Call hs es) →
        Alongside (use_after_call hs es (noting_use x b) k) (use_after_call hs ds x c) →
        Beside (use_after_call hs ds x c)
    called_beside x b c k s = record {
      calls_made = b.calls_made ++ (c ∷ []);
      is = ap (λ z. use_after_call hs ds z c) b.is ∙ sym (then_one hs ds ms ps b.calls_made c);
      noting_calls = b.noting_calls ++ (k ∷ []);
      alongside = subst (λ y. Alongside y (use_after_call hs ds x c))
          (sym (then_one hs es ms (with_notes ds ps) b.noting_calls k)) s;
    }

    module _ (clocked : ClocksInRange hs ms) where
      pub side_by_side : (x : Use hs ds) (b : Beside x) (a : HoldAnswers ds) → SideBySide (noting_use x b) x a
      side_by_side x b a =
          let cs = b.calls_made in
          let ks = b.noting_calls in
          let qs = with_notes ds ps in
          let k = ticks (same_holds ds a) in
          record {
            alongside = b.alongside;
            law_here = subst (Law hs ds) (sym b.is) (law_holds hs ds ms ps clocked cs);
            law_next = subst (λ z. Law hs ds (use_after_tick hs ds z a)) (sym b.is)
                (law_then hs ds ms ps clocked cs (ticks a));
            at_rest = (subst (Standing hs ds) (sym b.is) (stands_holds hs ds ms ps clocked cs)).at_rest;
            noting_law_here = law_holds hs es ms qs clocked ks;
            noting_law_next = law_then hs es ms qs clocked ks k;
            noting_stands = stands_then hs es ms qs clocked ks k;
          }

      pub beside : (cs : List (Call hs ds)) → Beside (use_after hs ds first cs)
      beside cs = calls_keep hs ds (λ m x. Beside x)
          (λ m x n b. called_beside x b (arms n) (arms n) (armed_alongside (noting_use x b) x n b.alongside))
          (λ m x a b. called_beside x b (ticks a) (ticks (same_holds ds a))
          (ticked_alongside (noting_use x b) x a (side_by_side x b a)))
          0 first cs (record { calls_made = []; is = refl; noting_calls = []; alongside = first_alongside })
