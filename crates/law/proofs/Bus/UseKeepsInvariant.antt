-- The invariant of a use of the bus: every arm and every tick keeps it, and so many ticks tell an outcome.
use Rattle.std.proofs.Common.{◌≡◌, ℕ, zero, suc, ◌+◌, ◌<◌, ◌≤◌, cond, Bool, true, false, ◌||◌, ◌⊎◌, List, [], ◌∷◌}
use Rattle.std.proofs.Common.{is_ok, is_some, Option, Result, sym, refl, ap, ◌∙◌, subst, ap₂, inl, inr, le_refl, arith}
use Rattle.std.specs.Prelude.{slice_index_or}
use Rattle.device.specs.Device.{Behaviour}
use Rattle.host.specs.Host.{HostBehaviour}
use Rattle.transfer.specs.Limits.{most_count}
use Rattle.transfer.specs.Transfer.{TransferModel}
use Rattle.wire.specs.declared.event.Event.{Event}
use Rattle.wire.specs.declared.wire.Signal.{Signal}
use Rattle.master.specs.declared.arming.Arming.{Arming}
use Rattle.master.specs.Arming.{answer_to_arm}
use Rattle.master.specs.Master.{HostedMaster, hosted_step, hosted_told}
use Rattle.master.specs.Script.{transfers}
use Rattle.wire.specs.Event.{event_between}
use Rattle.wire.specs.Wire.{signal}
use Rattle.law.specs.Bank.{Bank, bank_map, bank_list}
use Rattle.law.specs.Book.{book_arm, book_told}
use Rattle.law.specs.BusModel.{arm_master_at, arm_at, HoldAnswers, BusModel, levels_at, told_at}
use Rattle.transfer.specs.Legal.{IsLegal}
use Rattle.law.specs.Limits.{ticks_of_turn}
use Rattle.law.specs.Monitor.{Monitor, monitor_after_marks}
use Rattle.law.specs.Use.{Call, arms, Use, event_at, marks_of, monitor_with_event, use_after_tick, use_after_call}
use Rattle.law.specs.Use.{use_after, ticks_of}
use Rattle.law.proofs.Alone.IdleBetweenTurns.{Idle}
use Rattle.law.proofs.Alone.PortsAsSide.{unheld, ports_side, idle_ports}
use Rattle.law.proofs.Machine.BusAsMachine.{Bus, verdicts, tick, tick_event, tick_verdicts}
use Rattle.law.proofs.Machine.BookOfMachine.{count, any, at_place_has, answer, answer_if, armed_if, arm_book, task_of}
use Rattle.law.proofs.Machine.BookOfMachine.{armeds, pulling, arm_masters, arm_bus, tellings, tick_tells, turned, noted}
use Rattle.law.proofs.Machine.BookOfMachine.{Book as MachineBook, feed, book_tells}
use Rattle.law.proofs.Machine.Invariant.{Point, point, arm_point, Stands, arm_stands}
use Rattle.law.proofs.Machine.InvariantKept.{Real, tick_stands}
use Rattle.law.proofs.Machine.InvariantSays.{stands_armed, stands_side, stands_out, stands_left}
use Rattle.law.proofs.Bus.BookAsMachine.{machine_book, booked, armed_booked, Sound, tasks, meanings, arm_tasks}
use Rattle.law.proofs.Bus.BookAsMachine.{arm_meanings, arm_answers, armed_sound, fed_booked, fed_sound, heard_after}
use Rattle.law.proofs.Bus.BookAsMachine.{tells_booked}
use Rattle.law.proofs.Bus.CallsKeep.{calls_keep}
use Rattle.law.proofs.Bus.HostsAsOne.{Meanings, want_of, wants_of, legal_wants, hears_all, plays}
use Rattle.law.proofs.Bus.TickAsMachine.{masters_of, seen, LetGo, levels_seen, answer_at, answer_small, tick_seen}
use Rattle.law.proofs.Bus.TickAsMachine.{still_let_go}
use Rattle.law.proofs.Bus.MonitorAsMachine.{watched_as, marked_as, told_as, how_many_is}
use Rattle.law.proofs.Bus.TransfersAsGame.{game}

abbrev pub meaning_served : (h : HostBehaviour) → HostedMaster h → h.Meaning
meaning_served h x = x.meaning

abbrev pub hosts_of : (hs : List HostBehaviour) → Bank HostedMaster hs → Meanings hs
hosts_of hs ms = bank_map meaning_served hs ms

-- an arm
arm_hosts : (hs : List HostBehaviour) (ms : Bank HostedMaster hs) (n : ℕ) →
    hosts_of hs (arm_master_at hs ms n).1 ≡ hosts_of hs ms
arm_hosts [] ms n = refl
arm_hosts (h ∷ hs) ms zero = refl
arm_hosts (h ∷ hs) ms (suc n) = ap (λ r. (ms.0.meaning, r)) (arm_hosts hs ms.1 n)

arm_masters_are : (hs : List HostBehaviour) (ms : Bank HostedMaster hs) (n : ℕ) →
    masters_of hs (arm_master_at hs ms n).1 ≡ arm_masters transfers (masters_of hs ms) (wants_of hs (hosts_of hs ms)) n
arm_masters_are [] ms n = refl
arm_masters_are (h ∷ hs) ms zero = refl
arm_masters_are (h ∷ hs) ms (suc n) = ap (λ l. ms.0.master ∷ l) (arm_masters_are hs ms.1 n)

answer_one : (a : Arming TransferModel) (w : Option TransferModel) →
    (answer_to_arm a w).0 ≡ answer_if (task_of transfers a) w
answer_one a w = grind arith

arm_answer_is : (hs : List HostBehaviour) (ms : Bank HostedMaster hs) (n : ℕ) →
    (arm_master_at hs ms n).0 ≡ answer (armeds transfers (masters_of hs ms)) (wants_of hs (hosts_of hs ms)) n
arm_answer_is [] ms n = refl
arm_answer_is (h ∷ hs) ms zero = answer_one ms.0.master.arming (want_of h ms.0.meaning)
arm_answer_is (h ∷ hs) ms (suc n) = arm_answer_is hs ms.1 n

abbrev accepted_one : Result (Unit {0}) ℕ → ℕ
accepted_one r = cond (is_ok r) 1 0

count_one : {A : Type 0} (o w : Option A) (os : List (Option A)) →
    count (armed_if o w ∷ os) ≡ count (o ∷ os) + accepted_one (answer_if o w)
count_one o w os = grind arith

count_arm : {A : Type 0} (os ws : List (Option A)) (i : ℕ) →
    count (arm_book os ws i) ≡ count os + accepted_one (answer os ws i)
count_arm [] ws i = omega arith
count_arm (o ∷ os) [] i = omega arith
count_arm (o ∷ os) (w ∷ ws) zero = count_one o w os
count_arm (o ∷ os) (w ∷ ws) (suc i) = grind (arith, count_arm os ws i)

any_one : {A : Type 0} (o w : Option A) (b : Bool) → (is_some o || b) ≡ true → (is_some (armed_if o w) || b) ≡ true
any_one o w b h = grind arith

any_arm : {A : Type 0} (os ws : List (Option A)) (i : ℕ) → any os ≡ true → any (arm_book os ws i) ≡ true
any_arm = at_place_has armed_if (λ a b. any a ≡ true → any b ≡ true) (λ l h. h) (λ o w l h. any_one o w (any l) h)
    (λ o l k h e. grind arith)

-- a tick
step_hosts : (hs : List HostBehaviour) (ms : Bank HostedMaster hs) (s : Signal) →
    hosts_of hs (bank_map (λ h. hosted_step h s) hs ms) ≡
    hears_all hs (hosts_of hs ms) (bank_list (λ h. hosted_told h s) hs ms)
step_hosts [] ms s = refl
step_hosts (h ∷ hs) ms s = grind (arith, step_hosts hs)

module _ (hs : List HostBehaviour) (ds : List Behaviour) where
  pub event_seen : (u : BusModel hs ds) → event_at hs ds u ≡ tick_event transfers (ports_side ds) (seen hs ds u)
  event_seen u = ap (event_between u.wire.last) (levels_seen hs ds u)

  pub told_seen : (u : BusModel hs ds) → told_at hs ds u ≡ tick_tells transfers (ports_side ds) (seen hs ds u)
  told_seen u = told_as hs u.masters (signal u.wire (levels_at hs ds u))
      ∙ ap (λ v. tellings transfers (verdicts transfers (masters_of hs u.masters) (signal u.wire v)))
      (levels_seen hs ds u)

  -- a use as a point of the machine
  abbrev pub seen_use : Use hs ds → Point transfers (ports_side ds)
  seen_use x = point transfers (ports_side ds) (seen hs ds x.bus) (booked hs ds x.book) x.monitor

  abbrev StandsThere : Point transfers (ports_side ds) → ℕ → Type 0
  StandsThere P n = Stands (game ds) IsLegal (Idle ds) P n

  -- n: how many ticks are left at the most until an outcome is told
  pub record Kept (x : Use hs ds) (n : ℕ) : Type 0 where
    pub let_go : LetGo hs ds x.bus
    pub sound : Sound hs ds x.book
    pub stands : StandsThere (seen_use x) n
    pub hosts : hosts_of hs x.bus.masters ≡ meanings hs x.book.entries
    pub counts : x.accepted ≡ x.told + count (tasks hs x.book.entries)

  module _ (x : Use hs ds) (n : ℕ) (k : Kept x n) where
    abbrev P : Point transfers (ports_side ds)
    P = seen_use x

    abbrev u : Bus transfers (ports_side ds)
    u = P.machine

    abbrev b : MachineBook transfers (ports_side ds)
    b = P.booked

    abbrev e : Event
    e = tick_event transfers (ports_side ds) u

    pub armed_as : armeds transfers (masters_of hs x.bus.masters) ≡ tasks hs x.book.entries
    armed_as = stands_armed (game ds) k.stands

    pub side_as : x.bus.wire.busy ≡ false → bank_map unheld ds x.bus.ports ≡ idle_ports ds x.book.devices
    side_as = stands_side (game ds) k.stands

    pub marked_pull_none : is_some b.turn ≡ true → (i : ℕ) → slice_index_or x.monitor.marked i false ≡ true →
        pulling transfers (masters_of hs x.bus.masters) i ≡ false
    marked_pull_none = stands_out (game ds) k.stands

    pub few_left : n ≤ ticks_of_turn
    few_left = stands_left (game ds) k.stands

    pub answers_as : (i : ℕ) → (arm_at hs ds x.bus i).0 ≡ (book_arm hs ds x.book i).0
    answers_as i = arm_answer_is hs x.bus.masters i
        ∙ (ap₂ (λ os m. answer os (wants_of hs m) i) armed_as k.hosts
        ∙ sym (arm_answers hs x.book.entries i k.sound.kept))

    arm_seen : (i : ℕ) → seen hs ds (arm_at hs ds x.bus i).1 ≡
        arm_bus transfers (ports_side ds) u (wants_of hs (hosts_of hs x.bus.masters)) i
    arm_seen i = ap (λ ms. record u { masters = ms }) (arm_masters_are hs x.bus.masters i)

    arm_booked : (i : ℕ) → booked hs ds (book_arm hs ds x.book i).1 ≡
        machine_book hs ds (arm_book b.armed (wants_of hs (hosts_of hs x.bus.masters)) i) b.side b.turn
    arm_booked i = armed_booked hs ds x.book i
        ∙ ap (λ m. machine_book hs ds (arm_book b.armed (wants_of hs m) i) b.side b.turn) (sym k.hosts)

    arm_point_as : (i : ℕ) → seen_use (use_after_call hs ds x (arms i)) ≡
        arm_point transfers (ports_side ds) P (wants_of hs (hosts_of hs x.bus.masters)) i
    arm_point_as i = λ j. record { machine = arm_seen i j; booked = arm_booked i j; monitor = x.monitor }

    armed_keeps : (i : ℕ) → Kept (use_after_call hs ds x (arms i)) n
    armed_keeps i =
        let m = hosts_of hs x.bus.masters in
        let es = x.book.entries in
        record {
          let_go = k.let_go;
          sound = armed_sound hs ds x.book i k.sound;
          stands = subst (λ z. StandsThere z n) (sym (arm_point_as i))
              (arm_stands (game ds) IsLegal (Idle ds) (wants_of hs m) (legal_wants hs m) i k.stands);
          hosts = arm_hosts hs x.bus.masters i ∙ (k.hosts ∙ sym (arm_meanings hs es i));
          counts =
              let a = ap accepted_one (answers_as i ∙ arm_answers hs es i k.sound.kept) in
              let c = count_arm b.armed (wants_of hs (meanings hs es)) i in
              let d = ap count (arm_tasks hs es i) in
              let f = k.counts in omega arith;
        }

    -- what the next tick does
    abbrev pub Next : ℕ → Type 0
    Next h = Real (game ds) IsLegal (Idle ds) (plays ds) P n h

    pub next : (h : ℕ) → h ≤ most_count → Next h
    next h l = tick_stands (game ds) IsLegal (Idle ds) (plays ds) h l k.stands

    pub tells_as : told_at hs ds x.bus ≡ book_told hs ds x.book (event_at hs ds x.bus)
    tells_as = told_seen x.bus ∙ ((next 0 (omega arith)).tells
        ∙ (ap (book_tells (game ds) b) (sym (event_seen x.bus))
        ∙ sym (tells_booked hs ds x.book (event_at hs ds x.bus))))

    abbrev pub later : Monitor
    later = turned transfers x.monitor b.armed b.turn e

    pub watches_as : monitor_with_event hs ds x.monitor x.book (event_at hs ds x.bus) ≡ later
    watches_as = watched_as hs ds x.monitor x.book (event_at hs ds x.bus) k.sound
        ∙ ap (turned transfers x.monitor b.armed b.turn) (event_seen x.bus)

    notes_as : monitor_after_marks (monitor_with_event hs ds x.monitor x.book (event_at hs ds x.bus))
        (marks_of hs ds x.bus) ≡ noted transfers later (tick_verdicts transfers (ports_side ds) u)
    notes_as =
        let w = monitor_with_event hs ds x.monitor x.book (event_at hs ds x.bus) in
        let ms = x.bus.masters in
        ap (λ (l : List Bool). record w { marked = l })
        (marked_as hs ms (signal x.bus.wire (levels_at hs ds x.bus)) w.marked)
        ∙ ap₂ (λ z v. noted transfers z (verdicts transfers (masters_of hs ms) (signal x.bus.wire v))) watches_as
        (levels_seen hs ds x.bus)

    module _ (a : HoldAnswers ds) where
      abbrev h : ℕ
      h = answer_at hs ds x.bus a

      abbrev f : Next h
      f = next h (answer_small hs ds x.bus a k.let_go)

      abbrev then : Use hs ds
      then = use_after_tick hs ds x a

      fed_as : booked hs ds then.book ≡ feed (game ds) b e
      fed_as = fed_booked hs ds x.book (event_at hs ds x.bus) k.sound ∙ ap (feed (game ds) b) (event_seen x.bus)

      told_many : then.told ≡ x.told + count (book_tells (game ds) b e)
      told_many = ap (λ m. x.told + m) (how_many_is (told_at hs ds x.bus) ∙ ap count (told_seen x.bus ∙ f.tells))

      tick_point_as : seen_use then ≡ point transfers (ports_side ds) (tick transfers (ports_side ds) u h)
          (feed (game ds) b e) (noted transfers later (tick_verdicts transfers (ports_side ds) u))
      tick_point_as = λ i. record {
        machine = tick_seen hs ds x.bus a k.let_go i;
        booked = fed_as i;
        monitor = notes_as i;
      }

      ticked_keeps : Kept then f.due
      ticked_keeps = record {
        let_go = still_let_go hs ds x.bus a k.let_go;
        sound = fed_sound hs ds x.book (event_at hs ds x.bus) k.sound;
        stands = subst (λ z. StandsThere z f.due) (sym tick_point_as) f.stands;
        hosts = step_hosts hs x.bus.masters (signal x.bus.wire (levels_at hs ds x.bus))
            ∙ (ap₂ (hears_all hs) k.hosts tells_as ∙ sym (heard_after hs ds x.book (event_at hs ds x.bus)));
        counts = omega (arith, f.counts, told_many, k.counts, ap (λ z. count z.armed) fed_as);
      }

  -- m ticks after x the use y still waits for an outcome, and that many fewer are left
  record Waits (x : Use hs ds) (n m : ℕ) (y : Use hs ds) : Type 0 where
    so_far : x.told ≤ y.told
    armed : any (tasks hs y.book.entries) ≡ true
    due : ℕ
    kept : Kept y due
    fewer : due + m ≤ n

  abbrev Nearer : Use hs ds → ℕ → ℕ → Use hs ds → Type 0
  Nearer x n m y = (x.told < y.told) ⊎ Waits x n m y

  armed_nearer : (x : Use hs ds) (n m : ℕ) (y : Use hs ds) (i : ℕ) → Nearer x n m y →
      Nearer x n m (use_after_call hs ds y (arms i))
  armed_nearer x n m y i (inl z) = inl z
  armed_nearer x n m y i (inr z) = inr (record {
    so_far = z.so_far;
    armed = ap any (arm_tasks hs y.book.entries i)
        ∙ any_arm (tasks hs y.book.entries) (wants_of hs (meanings hs y.book.entries)) i z.armed;
    due = z.due;
    kept = armed_keeps y z.due z.kept i;
    fewer = z.fewer;
  })

  ticked_nearer : (x : Use hs ds) (n m : ℕ) (y : Use hs ds) (a : HoldAnswers ds) → Nearer x n m y →
      Nearer x n (suc m) (use_after_tick hs ds y a)
  ticked_nearer x n m y a (inl z) = inl (omega arith)
  ticked_nearer x n m y a (inr z) =
      let more = told_many y z.due z.kept a in
      let so_far = z.so_far in
      let g = f y z.due z.kept a in
      elim g.falls [
        | inl t ↦ inl (omega arith)
        | inr t ↦ elim t [
          | inl w ↦ inr (record {
            so_far = omega arith;
            armed = ap (λ c. any c.armed) (fed_as y z.due z.kept a) ∙ (ap any w.1 ∙ z.armed);
            due = g.due;
            kept = ticked_keeps y z.due z.kept a;
            fewer = let c = w.0 in let d = z.fewer in omega arith;
          })
          | inr w ↦ let c = z.armed in cc
        ]
      ]

  pub tells_in : (x : Use hs ds) (n : ℕ) → Kept x n → any (tasks hs x.book.entries) ≡ true → (cs : List (Call hs ds)) →
      n < ticks_of hs ds x cs → x.told < (use_after hs ds x cs).told
  tells_in x n k some cs l =
      let start : Waits x n 0 x =
      record { so_far = le_refl x.told; armed = some; due = n; kept = k; fewer = omega arith } in
      elim (calls_keep hs ds (Nearer x n) (armed_nearer x n) (ticked_nearer x n) 0 x cs (inr start)) [
        | inl z ↦ z
        | inr z ↦ let c = z.fewer in absurd (omega arith)
      ]

  -- the invariant of the machine, of a use
  abbrev pub StandsAt : Use hs ds → Type 0
  StandsAt x = (n : ℕ) × StandsThere (seen_use x) n

  pub calls_stay : (x : Use hs ds) (cs : List (Call hs ds)) (n : ℕ) → Kept x n → (m : ℕ) × Kept (use_after hs ds x cs) m
  calls_stay x cs n k = calls_keep hs ds (λ m y. (n : ℕ) × Kept y n) (λ m y i p. (p.0, armed_keeps y p.0 p.1 i))
      (λ m y a p. ((f y p.0 p.1 a).due, ticked_keeps y p.0 p.1 a)) 0 x cs (n, k)
