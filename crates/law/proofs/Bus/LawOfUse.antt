-- The law at one point of a use, from the invariant there and what that says of the next tick.
use Rattle.std.proofs.Common.{◌≡◌, ℕ, zero, suc, ◌+◌, ◌<◌, ◌≤◌, Bool, true, false, ltb, List, [], ◌∷◌, map, is_some, Some, None, Ok, Err}
use Rattle.std.proofs.Common.{cond, refl, Option, Result, sym, ap, ◌∙◌, subst, ap₂, arith}
use Rattle.std.specs.Prelude.{slice_index_or}
use Rattle.std.proofs.lemmas.Bool.{le-ltb}
use Rattle.std.specs.Option.{option_map}
use Rattle.transfer.specs.Transfer.{TransferModel}
use Rattle.device.specs.Device.{Behaviour}
use Rattle.host.specs.Host.{HostBehaviour}
use Rattle.master.specs.declared.mark.Mark.TheVariants.{Quiet, Lost}
use Rattle.wire.specs.declared.event.Event.TheVariants.{Stop}
use Rattle.law.specs.Bank.{Bank, bank_list, any_true}
use Rattle.law.specs.Book.{entry_is_armed, Turn, opened, Book, book_arm, contender_results, least_result}
use Rattle.law.specs.BusModel.{BusModel, HoldAnswers, arm_at, levels_at, told_at}
use Rattle.law.specs.TransferResult.{TransferResult}
use Rattle.law.specs.Use.{Call, runs, Use, event_at, marks_of, monitor_with_event, use_after_call, use_after, use_after_ticks, ticks_of_run}
use Rattle.law.specs.Use.{ticks_of_call, ticks_of, armed_now}
use Rattle.law.specs.Law.{FirstDifference, true_count, Point, Loses, StopTells, TickLaw, Law}
use Rattle.master.specs.MasterState.{quiet, lost, VerdictModel, master_step}
use Rattle.master.specs.Master.{HostedMaster, mark_of, told_outcome, hosted_mark, hosted_told}
use Rattle.wire.specs.declared.wire.Signal.{Signal}
use Rattle.law.specs.RunModel.{RunModel, Running, run_after_ticks, run_start, run_report, run_at}
use Rattle.master.specs.Mark.{is_told}
use Rattle.master.specs.Script.{transfers}
use Rattle.law.specs.Letter.{first_or_same}
use Rattle.wire.specs.Wire.{signal}
use Rattle.transfer.specs.Legal.{IsLegal}
use Rattle.law.specs.Limits.{most_ticks, most_ticks_of_turn}
use Rattle.law.proofs.Alone.PortsAsSide.{ports_side}
use Rattle.law.proofs.Machine.BusAsMachine.{verdicts}
use Rattle.law.proofs.Machine.Arbitration.{at}
use Rattle.law.proofs.Machine.BookOfMachine.{any, count, tick_tells}
use Rattle.law.proofs.Bus.BookAsMachine.{tasks, contenders, contenders_legal, turn_if, contests_of}
use Rattle.law.proofs.Bus.LeastStringLeads.{LegalIf, AllLegal, carry, carried_from, carried_at, lead, lead_legal, least_is, lexb_is, text}
use Rattle.law.proofs.Bus.LeastStringLeads.{text_is}
use Rattle.law.proofs.Bus.CountsOfRun.{somes, count_somes, any_somes, masters_armed, entries_armed, pulls_none, lost_at, placed_back}
use Rattle.law.proofs.Bus.CountsOfRun.{run_counts}
use Rattle.law.proofs.Bus.RunIsItsTicks.{runs_are_ticks}
use Rattle.law.proofs.Bus.TickAsMachine.{masters_of, seen, levels_seen}
use Rattle.law.proofs.Bus.UseKeepsInvariant.{Kept, Next, next, armed_as, side_as, marked_pull_none, few_left, answers_as, tells_as, later}
use Rattle.law.proofs.Bus.UseKeepsInvariant.{watches_as, event_seen, told_seen, tells_in}

pub legal_at : (l : List (Option TransferModel)) (i : ℕ) (t : TransferModel) → AllLegal l → at l i ≡ Some t → IsLegal t
legal_at [] i t k e = cc
legal_at (o ∷ l) zero t k e = subst LegalIf e k.0
legal_at (o ∷ l) (suc i) t k e = legal_at l i t k.1 e

told_mark : (v : VerdictModel transfers) → is_told (mark_of v) ≡ is_some (told_outcome v)
told_mark v = grind arith

marks_told : (hs : List HostBehaviour) (ms : Bank HostedMaster hs) (s : Signal) →
    map is_told (bank_list (λ h. hosted_mark h s) hs ms) ≡ map is_some (bank_list (λ h. hosted_told h s) hs ms)
marks_told [] ms s = refl
marks_told (h ∷ hs) ms s = ap₂ ◌∷◌ (told_mark (master_step transfers ms.0.master s).1) (marks_told hs ms.1 s)

turn_open : (v : Turn) (l m : List (Option TransferModel)) → turn_if v l ≡ Some m → (v ≡ opened) × (l ≡ m)
turn_open v l m h = grind arith

turn_some : (v : Turn) (l : List (Option TransferModel)) → v ≡ opened → is_some (turn_if v l) ≡ true
turn_some v l h = grind arith

turn_is : (v : Turn) (l : List (Option TransferModel)) → v ≡ opened → turn_if v l ≡ Some l
turn_is v l h = grind arith

module _ (hs : List HostBehaviour) (ds : List Behaviour) where
  module _ (x : Use hs ds) (due : ℕ) (k : Kept hs ds x due) where
    abbrev goes : Next hs ds x due k 0
    goes = next hs ds x due k 0 (omega arith)

    abbrev b : Book hs ds
    b = x.book

    abbrev l : List (Option TransferModel)
    l = contenders hs b.entries

    legal : AllLegal l
    legal = contenders_legal hs b.entries

    armed_same : armed_now hs ds x ≡ bank_list entry_is_armed hs b.entries
    armed_same = sym (masters_armed hs x.bus.masters) ∙ (ap somes (armed_as hs ds x due k) ∙ entries_armed hs b.entries k.sound.kept)

    tasks_counted : count (tasks hs b.entries) ≡ true_count (armed_now hs ds x)
    tasks_counted = count_somes (tasks hs b.entries) ∙ ap true_count (entries_armed hs b.entries k.sound.kept ∙ sym armed_same)

    point : Point hs ds x
    point = record {
      hosts = k.hosts;
      devices = λ e. placed_back hs ds ds x.bus.ports b.devices (side_as hs ds x due k e);
      armed = armed_same;
      counts = k.counts ∙ ap (λ n. x.told + n) tasks_counted;
      silent = λ e i m. pulls_none hs x.bus.masters i (marked_pull_none hs ds x due k (turn_some b.turn l e) i m);
    }

    noted : monitor_with_event hs ds x.monitor b (event_at hs ds x.bus) ≡ later hs ds x due k
    noted = watches_as hs ds x due k

    -- of two contenders, by their letters
    compared : (p q : TransferModel) (i j : ℕ) → at l i ≡ Some p → at l j ≡ Some q →
        first_or_same (text ds b.devices p) (text ds b.devices q) ≡
        first_or_same (carry ds b.devices p).letters (carry ds b.devices q).letters
    compared p q i j e f = lexb_is ds b.devices p q (legal_at l i p legal e) (legal_at l j q legal f)

    leads : (q : TransferModel) → lead ds b.devices l ≡ Some q → least_result ds (contender_results hs ds b) ≡ Some (carry ds b.devices q)
    leads q e = ap (least_result ds) (contests_of hs ds b) ∙ (least_is ds b.devices l legal ∙ ap (option_map (carry ds b.devices)) e)

    lead_fits : (q : TransferModel) → lead ds b.devices l ≡ Some q → IsLegal q
    lead_fits q e = subst LegalIf e (lead_legal ds b.devices l legal)

    loses : (i : ℕ) → slice_index_or (marks_of hs ds x.bus) i Quiet ≡ Lost → Loses hs ds x i
    loses i e =
        let s = signal x.bus.wire (levels_at hs ds x.bus) in
        let v = subst (λ w. slice_index_or (verdicts transfers (masters_of hs x.bus.masters) (signal x.bus.wire w)) i quiet ≡ lost)
        (levels_seen hs ds x.bus) (lost_at hs x.bus.masters s i e) in
        let z = goes.loses i v in
        let o = turn_open b.turn l z.turn z.now in
        let here : at l i ≡ Some z.task = ap (λ m. at m i) o.1 ∙ z.contends in
        let best : lead ds b.devices l ≡ Some z.least = ap (lead ds b.devices) o.1 ∙ z.leads in
        record {
          turn = o.0;
          own = carry ds b.devices z.task;
          contends = ap (λ cs. slice_index_or cs i None) (contests_of hs ds b) ∙ carried_at ds b.devices l i z.task here;
          before = z.before;
          best = carry ds b.devices z.least;
          leads = leads z.least best;
          letter = z.letter;
          shown = ap (λ w. w.falls) noted ∙ z.falls;
          risen = ap (λ w. w.risen) noted ∙ z.risen;
          first = subst (λ u. FirstDifference u (carry ds b.devices z.task).letters z.letter)
              (text_is ds b.devices z.least (lead_fits z.least best))
              (subst (λ u. FirstDifference (text ds b.devices z.least) u z.letter)
              (text_is ds b.devices z.task (legal_at l i z.task legal here)) z.first);
        }

    told_same : told_at hs ds x.bus ≡ tick_tells transfers (ports_side ds) (seen hs ds x.bus)
    told_same = told_seen hs ds x.bus

    stops : event_at hs ds x.bus ≡ Stop → b.turn ≡ opened → (i : ℕ) (own : TransferResult ds) →
        slice_index_or (contender_results hs ds b) i None ≡ Some own → StopTells hs ds x i own
    stops e o i own c =
        let mine = carried_from ds b.devices l i own (ap (λ cs. slice_index_or cs i None) (sym (contests_of hs ds b)) ∙ c) in
        let p = mine.0 in
        let z = goes.stops (sym (event_seen hs ds x.bus) ∙ e) l (turn_is b.turn l o) i p mine.1 in
        record {
          unmarked = ap (λ ts. is_some (slice_index_or ts i None)) told_same ∙ z.unmarked;
          first = (
            (λ t j other d.
                let theirs = carried_from ds b.devices l j other (ap (λ cs. slice_index_or cs j None) (sym (contests_of hs ds b)) ∙ d) in
                let r = z.least (ap (λ ts. is_some (slice_index_or ts i None)) (sym told_same) ∙ t) j theirs.0 theirs.1 in
                ap₂ (λ u w. first_or_same u.letters w.letters) mine.2 theirs.2 ∙ (sym (compared p theirs.0 i j mine.1 theirs.1) ∙ r)),
            (λ t. ap (λ ts. is_some (slice_index_or ts i None)) told_same ∙ z.wins (λ j q f.
                compared p q i j mine.1 f ∙ (ap (λ u. first_or_same u.letters (carry ds b.devices q).letters) (sym mine.2)
                ∙ t j (carry ds b.devices q) (ap (λ cs. slice_index_or cs j None) (contests_of hs ds b)
                ∙ carried_at ds b.devices l j q f)))),
          );
        }

    spells : event_at hs ds x.bus ≡ Stop → b.turn ≡ opened → (best : TransferResult ds) →
        least_result ds (contender_results hs ds b) ≡ Some best →
        (monitor_with_event hs ds x.monitor b (event_at hs ds x.bus)).spelled ≡ best.letters
    spells e o best c =
        let z = goes.spelled (sym (event_seen hs ds x.bus) ∙ e) l (turn_is b.turn l o) in
        let same : carry ds b.devices z.least ≡ best = let f = leads z.least z.leads in cc in
        ap (λ w. w.spelled) noted ∙ (z.whole ∙ (text_is ds b.devices z.least (lead_fits z.least z.leads) ∙ ap (λ u. u.letters) same))

    tick : TickLaw hs ds x
    tick = record {
      tells = tells_as hs ds x due k;
      shows = λ a. refl;
      marks = marks_told hs x.bus.masters (signal x.bus.wire (levels_at hs ds x.bus));
      loses = loses;
      stops = stops;
      spells = spells;
    }

    arm : (n : ℕ) → (arm_at hs ds x.bus n).0 ≡ (book_arm hs ds b n).0
    arm n = answers_as hs ds x due k n

    run : (n : ℕ) (a : ℕ → HoldAnswers ds) → n ≤ most_ticks → (r : RunModel) → (run_at hs ds x.bus n a).0 ≡ Ok r →
        ((use_after_call hs ds x (runs n a)).told ≡ x.told + r.outcomes) × (ticks_of_call hs ds x (runs n a) ≡ r.ticks)
    run n a h r e =
        let few : ltb most_ticks n ≡ false = le-ltb most_ticks n h in
        let c = run_counts hs ds n 0 0 0 a x in
        let end = run_after_ticks hs ds n a (run_start hs ds x.bus) in
        let same : run_report hs ds end ≡ r = let f : (run_at hs ds x.bus n a).0 ≡ Ok (run_report hs ds end) = rw few in cc in
        let p = c.outcomes_are in
        let q = c.ticks_are in (
          rw few (let t : (use_after_ticks hs ds n 0 a x).told ≡ x.told + end.outcomes = omega arith in
              t ∙ ap (λ m. x.told + m.outcomes) same),
          rw few (let t : ticks_of_run hs ds n 0 a x ≡ end.ticks = omega arith in t ∙ ap (λ m. m.ticks) same),
        )

    abbrev run_end : ℕ → (ℕ → HoldAnswers ds) → Running hs ds
    run_end n a = run_after_ticks hs ds n a (run_start hs ds x.bus)

    leaves_either : (v : Bool) (y : Use hs ds) (r : Running hs ds) → y.bus ≡ r.bus →
        (cond {A = Result RunModel ℕ × BusModel hs ds} v (Err 8, x.bus) (Ok (run_report hs ds r), r.bus)).1 ≡ (cond v x y).bus
    leaves_either true y r e = refl
    leaves_either false y r e = sym e

    run_leaves : (n : ℕ) (a : ℕ → HoldAnswers ds) → (run_at hs ds x.bus n a).1 ≡ (use_after_call hs ds x (runs n a)).bus
    run_leaves n a = leaves_either (ltb most_ticks n) (use_after_ticks hs ds n 0 a x) (run_end n a) (run_counts hs ds n 0 0 0 a x).bus_is

    lively : any_true (armed_now hs ds x) ≡ true → (cs : List (Call hs ds)) → most_ticks_of_turn ≤ ticks_of hs ds x cs →
        x.told < (use_after hs ds x cs).told
    lively e cs h =
        let some : any (tasks hs b.entries) ≡ true =
        any_somes (tasks hs b.entries) ∙ (ap any_true (entries_armed hs b.entries k.sound.kept ∙ sym armed_same) ∙ e) in
        tells_in hs ds x due k some cs (let z = few_left hs ds x due k in omega arith)

    pub lawful : Law hs ds x
    lawful = record {
      point = point;
      tick = tick;
      arm = arm;
      run = run;
      run_leaves = run_leaves;
      runs_are_ticks = runs_are_ticks hs ds x;
      lively = lively;
    }
