-- A tick keeps the invariant, tells whom the book tells, marks whom it may, and brings an outcome nearer.
use Rattle.std.proofs.Common.{◌≡◌, ℕ, zero, suc, ◌+◌, ◌-◌, ◌*◌, ◌<◌, ◌≤◌, Bool, true, false, cond, not, ◌||◌, eqb, ◌⊎◌}
use Rattle.std.proofs.Common.{List, [], ◌∷◌, ◌++◌, is_some, Some, None, Option, unwrap_or, sym, refl, ap, ◌∙◌, subst}
use Rattle.std.proofs.Common.{ap₂, inl, inr, append-nil, arith}
use Rattle.std.specs.Prelude.{slice_index_or}
use Rattle.std.proofs.lemmas.Bool.Decides.{nat_tests as tells}
use Rattle.std.proofs.lemmas.Bool.{cases_lt}
use Rattle.master.specs.declared.symbol.Symbol.{Symbol}
use Rattle.master.specs.declared.symbol.Symbol.TheVariants as symbol
use Rattle.wire.specs.declared.event.Event.{Event}
use Rattle.wire.specs.declared.event.Event.TheVariants.{Rise, Fall, Start, Stop, SteadyHigh, SteadyLow}
use Rattle.master.specs.MasterState.{VerdictModel, quiet, lost, told}
use Rattle.master.specs.Script.{Script}
use Rattle.wire.specs.Event.{event_between}
use Rattle.wire.specs.Latch.{counted_bit}
use Rattle.transfer.specs.Limits.{most_count}
use Rattle.law.specs.Limits.{most_letters, ticks_of_low, ticks_of_letter, ticks_of_turn}
use Rattle.law.specs.Letter.{Letter, stop, restart, bit_letter}
use Rattle.law.specs.Monitor.{Monitor, letters_of_bit}
use Rattle.law.proofs.FarSide.{Side, heard, letter, taken}
use Rattle.law.proofs.Machine.BusAsMachine.{any_scl, verdicts, asked, Bus, tick, tick_event, said, tick_verdicts}
use Rattle.law.proofs.Machine.PhasesOfSlot.{lines, shown, rank, holds, early_lost, late_lost, Cell, looks, notes}
use Rattle.law.proofs.Machine.PhasesOfSlot.{no_verdict, early, late, cursors, opened, settled, some, Every, Timed}
use Rattle.law.proofs.Machine.PhasesOfSlot.{least, stay, advance, finished, claim_all, free_bus, claimed_bus, fresh_bus}
use Rattle.law.proofs.Machine.PhasesOfSlot.{settled_bus, carries, held, Shape}
use Rattle.law.proofs.Machine.Arbitration.{at, lead, slots, opened as opens_at, Quiet}
use Rattle.law.proofs.Machine.BookOfMachine.{Tasks, count, any, nobody, disarm, is_lost, telling, tellings, begins}
use Rattle.law.proofs.Machine.BookOfMachine.{task_string, leader, wins, outcomes, leader_side, Book, book, feed}
use Rattle.law.proofs.Machine.BookOfMachine.{book_tells, Spell, spell, monitor_at, falses, marks_too, turned, noted, Loses}
use Rattle.law.proofs.Machine.BookOfMachine.{Stopped, Spelled, Plays}
use Rattle.law.proofs.Machine.EventForAll.{rank_top, every, least_below, via_verdicts}
use Rattle.law.proofs.Machine.TickWhileLow.{low_stays, low_rises, low_ends}
use Rattle.law.proofs.Machine.TickWhileHigh.{opened_stays, opened_falls, opened_ends, settled_stays, settled_falls}
use Rattle.law.proofs.Machine.TickWhileHigh.{settled_ends}
use Rattle.law.proofs.Machine.TickOfStart.{free_claims, free_stays, claimed_starts}
use Rattle.law.proofs.Machine.TickAfterRise.{shaped, fresh_zero, fresh_end, fresh_restart, fresh_one, fresh_listen}
use Rattle.law.proofs.Machine.VerdictsElsewhere.{lowered_quiet, rising_verdicts, settled_quiet, settled_fall_quiet}
use Rattle.law.proofs.Machine.VerdictsElsewhere.{opened_quiet, opened_fall_quiet, claimed_quiet, idle_quiet}
use Rattle.law.proofs.Machine.SurvivorsOfSlot.{timed_stay, timed_advance, timed_finished, alive_advance, alive_stay}
use Rattle.law.proofs.Machine.SurvivorsOfSlot.{alive_least, holds_zero, holds_restart, holds_not}
use Rattle.law.proofs.Machine.LeadingSymbol.{rank_inj}
use Rattle.law.proofs.Machine.CellsOfTurn.{count_nobody, cell_armeds, Holding, Within, marked, never, armeds_stay}
use Rattle.law.proofs.Machine.CellsOfTurn.{armeds_advance, holding_stay, holding_advance, within_stay, within_advance}
use Rattle.law.proofs.Machine.CellsOfTurn.{holding_finished, armeds_claim, cursors_claim, timed_claim, holding_claim}
use Rattle.law.proofs.Machine.CellsOfTurn.{within_claim, alive_claim, marked_claim, marked_more, marked_stay}
use Rattle.law.proofs.Machine.CellsOfTurn.{marked_advance, note_at, unmarked, contender, tells_none}
use Rattle.law.proofs.Machine.SlotsOfTurn.{Run, spells, letter_bit, letter_again, letter_stop, leads, alive_at}
use Rattle.law.proofs.Machine.SlotsOfTurn.{some_left, run_shape, run_carries, run_bit, run_again}
use Rattle.law.proofs.Machine.SlotsTellLeast.{task_at, leader_in, loses_at, wins_least, least_wins, stop_side}
use Rattle.law.proofs.Machine.SlotsTellLeast.{stop_spells}
use Rattle.law.proofs.Machine.Invariant.{Ready, Point, point, Turn, Slots, text, marks, at_rest, at_claim, at_start}
use Rattle.law.proofs.Machine.Invariant.{at_low, at_rise, at_high, Stands, idle, claims, begun, low, rose, high}
use Rattle.law.proofs.Machine.TickOfStop.{ending, tells_end, armeds_finished, counts_end, somebody_told, disarmed}
use Rattle.law.proofs.Machine.TickOfStop.{tells_unmarked, outcome_at, told_at_stop}
use Rattle.law.proofs.Machine.Game.{Game}

asked_to : (k : Option Bool) (h : ℕ) → h ≤ most_count → asked k h ≤ most_count
asked_to None h b = omega arith
asked_to (Some c) h b = b

high_no : SteadyHigh ≡ Stop → ⊥
high_no h = cc

low_no : SteadyLow ≡ Stop → ⊥
low_no h = cc

start_no : Start ≡ Stop → ⊥
start_no h = cc

fall_no : Fall ≡ Stop → ⊥
fall_no h = cc

rise_no : (b : Bool) → Rise b ≡ Stop → ⊥
rise_no b h = cc

steady : (d : Bool) → event_between (lines true d) (lines true d) ≡ SteadyHigh
steady true = refl
steady false = refl

-- who is marked in a slot: all who do not show the least symbol
slot_low : (n : ℕ) → n ≤ 1 → (x : Symbol) → (n ≤ rank x) × (rank x ≤ 3) →
    (early_lost false x || late_lost n x) ≡ not (eqb (rank x) n)
slot_low n h x q = grind (arith, tells)

slot_high : (n : ℕ) → 2 ≤ n → n ≤ 3 → (x : Symbol) → (n ≤ rank x) × (rank x ≤ 3) →
    (early_lost true x || late_lost n x) ≡ not (eqb (rank x) n)
slot_high n h g x q = grind (arith, tells)

slot_listen : (b : Bool) (x : Symbol) → rank x ≡ 4 → (early_lost b x || late_lost 4 x) ≡ not (eqb (rank x) 4)
slot_listen b x q = grind (arith, tells)

-- who is lost after the rise does not show the least symbol, and was not lost at the rise
late_behind : (n : ℕ) (x : Symbol) → late_lost n x ≡ true → rank x ≡ n → ⊥
late_behind n x h e = grind (arith, tells)

late_new : (n : ℕ) (x : Symbol) (b : Bool) → (n ≡ 2 → b ≡ true) → late_lost n x ≡ true → early_lost b x ≡ false
late_new n x true g h = grind (arith, tells)
late_new n x false g h = elim (cases_lt n 2) [
  | inl z ↦ grind (arith, tells)
  | inr z ↦ elim (cases_lt 2 n) [
    | inl y ↦ grind (arith, tells)
    | inr y ↦ let e : n ≡ 2 = omega arith in let f = g e in cc
  ]
]

module _ (W : Script) where
  no_marks : (v : List Bool) (cs : List (Cell W)) → marks_too W v (notes W (no_verdict W) cs) ≡ v
  no_marks [] cs = refl
  no_marks (a ∷ v) [] = refl
  no_marks (a ∷ v) (c ∷ cs) = grind (arith, no_marks v cs)

  marks_none : (w : Monitor) (cs : List (Cell W)) → noted W w (notes W (no_verdict W) cs) ≡ w
  marks_none w cs = ap (λ (v : List Bool). record w { marked = v }) (no_marks w.marked cs)

  lost_if : (b : Bool) (k : VerdictModel W) → is_lost W k ≡ false → is_lost W (cond b lost k) ≡ b
  lost_if true k h = refl
  lost_if false k h = h

  told_lost : (b : Bool) (o : W.Outcome) → is_lost W (cond b (told o) quiet) ≡ false
  told_lost true o = refl
  told_lost false o = refl

  early_is : (b : Bool) (x : Symbol) (p : W.Cursor) → is_lost W (early W b x p) ≡ early_lost b x
  early_is b x p = lost_if (early_lost b x) quiet refl

  late_is : (n : ℕ) (x : Symbol) (p : W.Cursor) → is_lost W (late W n x p) ≡ late_lost n x
  late_is n symbol.Zero p = refl
  late_is n symbol.Listen p = refl
  late_is n symbol.RepeatedStart p = refl
  late_is n symbol.Stop p =
      lost_if (eqb n 0) (cond (eqb n 1) (told (W.outcome p)) quiet) (told_lost (eqb n 1) (W.outcome p))
  late_is n symbol.One p = lost_if (eqb n 2) quiet refl

  early_mute : (b : Bool) (x : Symbol) (p : W.Cursor) → telling W (early W b x p) ≡ None
  early_mute b x p = mute (early_lost b x)
    where
      mute : (v : Bool) → telling W (cond v lost quiet) ≡ None
      mute true = refl
      mute false = refl

  late_mute : (n : ℕ) → (n ≡ 1 → ⊥) → (x : Symbol) (p : W.Cursor) → telling W (late W n x p) ≡ None
  late_mute n h x p = grind (arith, tells)

module _ (D : Side) where
  -- who is lost at the rise does not show the least symbol
  early_behind : (x : Symbol) (s : D.S) (b : Bool) → early_lost b x ≡ true → heard D x s ≡ b → ⊥
  early_behind symbol.Zero s b h e = cc
  early_behind symbol.Listen s b h e = cc
  early_behind symbol.Stop s b h e = cc
  early_behind symbol.One s true h e = cc
  early_behind symbol.One s false h e = cc
  early_behind symbol.RepeatedStart s true h e = cc
  early_behind symbol.RepeatedStart s false h e = cc

module _ (G : Game) (Fits : G.script.Task → Type 0) (Rest : G.side.S → Type 0) (plays : Plays G Fits Rest) where
  abbrev W : Script
  W = G.script

  abbrev D : Side
  D = G.side

  abbrev OpenTurn : Type 0
  OpenTurn = Turn G Fits Rest

  abbrev StandsAs : Point W D → ℕ → Type 0
  StandsAs P n = Stands G Fits Rest P n

  -- once the event e is seen
  abbrev later : Point W D → Event → Monitor
  later P e = turned W P.monitor P.booked.armed P.booked.turn e

  abbrev tells_then : Point W D → Event → List (Option W.Outcome)
  tells_then P e = book_tells G P.booked e

  -- what a tick to the bus u with the event e and the verdicts ks does; due: how many ticks are then left at the most
  -- until an outcome is told
  pub record Fine (P : Point W D) (n : ℕ) (u : Bus W D) (e : Event) (ks : List (VerdictModel W)) : Type 0 where
    pub due : ℕ
    pub stands : StandsAs (point W D u (feed G P.booked e) (noted W (later P e) ks)) due
    pub tells : tellings W ks ≡ tells_then P e
    pub counts : count (feed G P.booked e).armed + count (tells_then P e) ≡ count P.booked.armed
    pub loses : (i : ℕ) → slice_index_or ks i quiet ≡ lost →
        Loses G P.booked.turn P.booked.side P.monitor.marked (later P e) i
    pub stops : e ≡ Stop → (l : Tasks W) → P.booked.turn ≡ Some l → (i : ℕ) (p : W.Task) → at l i ≡ Some p →
        Stopped G l P.booked.side P.monitor.marked (tellings W ks) i p
    pub spelled : e ≡ Stop → (l : Tasks W) → P.booked.turn ≡ Some l → Spelled G l P.booked.side (later P e).spelled
    pub falls : (1 ≤ count (tells_then P e)) ⊎
        (((due < n) × ((feed G P.booked e).armed ≡ P.booked.armed)) ⊎ (any P.booked.armed ≡ false))

  abbrev pub Real : Point W D → ℕ → ℕ → Type 0
  Real P n h = Fine P n (tick W D P.machine h) (tick_event W D P.machine) (tick_verdicts W D P.machine)

  -- by what the tick is known to be
  by_tick : {P : Point W D} {n : ℕ} (h : ℕ) {u : Bus W D} {ks : List (VerdictModel W)} →
      tick W D P.machine h ≡ u → tick_verdicts W D P.machine ≡ ks →
      Fine P n u (event_between P.machine.wire.last u.wire.last) ks → Real P n h
  by_tick {P} {n} h {u} {ks} a b f =
      subst (λ x. Fine P n (tick W D P.machine h) (tick_event W D P.machine) x) (sym b)
      (subst (λ x. Fine P n x (event_between P.machine.wire.last x.wire.last) ks) (sym a) f)

  -- only a stop is told
  quiet_book : (b : Book W D) (e : Event) → (e ≡ Stop → ⊥) →
      ((feed G b e).armed ≡ b.armed) × (book_tells G b e ≡ nobody b.armed)
  quiet_book b Stop n = absurd (n refl)
  quiet_book b SteadyHigh n = (refl, refl)
  quiet_book b (Rise x) n = (refl, refl)
  quiet_book b Fall n = (refl, refl)
  quiet_book b Start n = (refl, refl)
  quiet_book b SteadyLow n = (refl, refl)

  -- a tick from P to Q that tells nobody
  silent : {P Q : Point W D} {n n' : ℕ} (e : Event) (ks : List (VerdictModel W)) → StandsAs Q n' →
      feed G P.booked e ≡ Q.booked → (e ≡ Stop → ⊥) → noted W (later P e) ks ≡ Q.monitor →
      tellings W ks ≡ nobody P.booked.armed →
      ((i : ℕ) → slice_index_or ks i quiet ≡ lost →
      Loses G P.booked.turn P.booked.side P.monitor.marked (later P e) i) →
      (n' < n) ⊎ (any P.booked.armed ≡ false) → Fine P n Q.machine e ks
  silent {P} {Q} {n} {n'} e ks st fe ne se ts ls fs =
      let z = quiet_book P.booked e ne in
      record {
        due = n';
        stands = subst (λ b. StandsAs (point W D Q.machine b (noted W (later P e) ks)) n') (sym fe)
            (subst (λ w. StandsAs (point W D Q.machine Q.booked w) n') (sym se) st);
        tells = ts ∙ sym z.1;
        counts = let a = ap count z.0 in let b = ap count z.1 ∙ count_nobody W.Outcome P.booked.armed in omega arith;
        loses = ls;
        stops = λ s. absurd (ne s);
        spelled = λ s. absurd (ne s);
        falls = inr (elim fs [ inl s ↦ inl (s, z.0) | inr s ↦ inr s ]);
      }

  no_loses : {t : Option (Tasks W)} {s : D.S} {v : List Bool} {w : Monitor} (cs : List (Cell W)) (i : ℕ) →
      slice_index_or (notes W (no_verdict W) cs) i quiet ≡ lost → Loses G t s v w i
  no_loses cs i h =
      let a = note_at W (no_verdict W) cs i h in
      let b : ◌≡◌ {A = VerdictModel W} quiet lost = a.2 in
      cc

  -- a tick with no verdict
  plain : {P Q : Point W D} {n n' : ℕ} (cs : List (Cell W)) (h : ℕ) (e : Event) → StandsAs Q n' →
      P.booked.armed ≡ cell_armeds W cs → tick W D P.machine h ≡ Q.machine →
      event_between P.machine.wire.last Q.machine.wire.last ≡ e →
      said W D P.machine Q.machine.wire.last ≡ notes W (no_verdict W) cs →
      feed G P.booked e ≡ Q.booked → (e ≡ Stop → ⊥) → later P e ≡ Q.monitor →
      (n' < n) ⊎ (any P.booked.armed ≡ false) → Real P n h
  plain {P} {Q} {n} cs h e st a q ev sd fe ne se fs =
      let ks = notes W (no_verdict W) cs in
      by_tick h q (via_verdicts W D P.machine ks Q.machine.wire.last (ap (λ x. x.wire.last) q) sd)
      (subst (λ x. Fine P n Q.machine x ks) (sym ev)
      (silent e ks st fe ne (marks_none W (later P e) cs ∙ se)
      (tells_none W (no_verdict W) (λ x p. refl) cs ∙ ap nobody (sym a)) (no_loses cs) fs))

  -- who shows the rank j stays, where that is the least
  abbrev stay_turn : (T : OpenTurn) (j : ℕ) → least W T.cells ≡ j → j ≤ 4 → OpenTurn
  stay_turn T j e h = record T {
    cells = stay W j T.cells;
    armed_as = T.armed_as ∙ sym (armeds_stay W j T.cells);
    timed = timed_stay W j T.cells T.timed;
    living = alive_stay W j T.cells e h;
    holding = holding_stay W j T.cells T.holding;
    within = within_stay W j T.contenders T.cells T.within;
  }

  -- the bit b has counted
  abbrev advance_turn : OpenTurn → Bool → OpenTurn
  advance_turn T b = record T {
    cells = advance W b T.cells;
    armed_as = T.armed_as ∙ sym (armeds_advance W b T.cells);
    timed = timed_advance W b T.cells T.timed;
    living = alive_advance W b T.cells ∙ T.living;
    holding = holding_advance W b T.cells T.holding;
    within = within_advance W b T.contenders T.cells T.within;
  }

  first_run : (os : Tasks W) (s : D.S) → Rest s → Ready Fits os →
      Run G (begins W os) (D.begin s) 0 most_letters (begins W os) (D.begin s)
  first_run os s q y = record {
    runs = refl;
    fair = record { small = small; alike = alike };
    quiet = silent_side;
    paired = alike;
    sums = omega arith;
  }
    where
      small : (i : ℕ) (p : W.Cursor) → at (begins W os) i ≡ Some p → G.left p ≤ most_letters
      small i p e =
          let t = task_at W os i p e in
          subst (λ x. G.left x ≤ most_letters) t.2 (plays.short t.0 (y i t.0 t.1))

      alike : (i k : ℕ) (p r : W.Cursor) → at (begins W os) i ≡ Some p → at (begins W os) k ≡ Some r → G.Alike p r
      alike i k p r e d =
          let t = task_at W os i p e in
          let u = task_at W os k r d in
          subst (λ x. G.Alike x r) t.2
          (subst (λ x. G.Alike (W.begin t.0) x) u.2 (plays.alike t.0 u.0 (y i t.0 t.1) (y k u.0 u.1)))

      silent_side : (i : ℕ) (p : W.Cursor) → at (begins W os) i ≡ Some p → Quiet G p (D.begin s)
      silent_side i p e =
          let t = task_at W os i p e in
          subst (λ x. Quiet G x (D.begin s)) t.2 (plays.quiet t.0 s (y i t.0 t.1) q)

  tick_idle : (os : Tasks W) (s : D.S) (w : Monitor) (cs : List (Cell W)) (h : ℕ) → os ≡ cell_armeds W cs → Timed W cs →
      Holding W cs → Rest s → Ready Fits os → Real (at_rest G os s w cs) ticks_of_turn h
  tick_idle os s w cs h a t g q y = go (any os) refl
    where
      goes : tick W D (free_bus W D cs s) h ≡ claimed_bus W D (claim_all W cs) s
      goes = free_claims G cs s h (plays.calm s q)

      opens_with : any os ≡ true → OpenTurn
      opens_with v = record {
        armed = os;
        contenders = os;
        rest = s;
        cells = claim_all W cs;
        armed_as = a ∙ sym (armeds_claim W cs);
        timed = timed_claim W cs t;
        living = alive_claim W cs ∙ ap any (sym a) ∙ v;
        holding = holding_claim W cs;
        within = subst (λ l. Within W l (claim_all W cs)) (sym a) (within_claim W cs);
        armed_ready = y;
        ready = y;
        rested = q;
      }

      go : (v : Bool) → any os ≡ v → Real (at_rest G os s w cs) ticks_of_turn h
      go true v =
          plain cs h SteadyHigh
          (claims (opens_with v) (subst (λ ps. Run G (begins W os) (D.begin s) 0 most_letters ps (D.begin s))
          (ap (begins W) a ∙ sym (cursors_claim W cs)) (first_run os s q y)))
          a goes refl (idle_quiet W cs) (ap (λ z. book W D os s (cond z (Some os) None)) v) high_no
          (ap (λ z. cond z (monitor_at 0 false (falses os) (spell None [])) w) v ∙ ap (λ x. monitor_at 0 false x (spell None []))
          (ap falses a ∙ marked_claim W cs ∙ ap (λ z. marked W never z (claim_all W cs)) (sym a)))
          (inl (omega arith))
      go false v =
          plain cs h SteadyHigh
          (idle os s w (claim_all W cs) (a ∙ sym (armeds_claim W cs)) (timed_claim W cs t) (holding_claim W cs) q y)
          a (goes ∙ free_stays G (claim_all W cs) s (alive_claim W cs ∙ ap any (sym a) ∙ v)) refl (idle_quiet W cs)
          (ap (λ z. book W D os s (cond z (Some os) None)) v) high_no
          (ap (λ z. cond z (monitor_at 0 false (falses os) (spell None [])) w) v) (inr v)

  tick_claims : (T : OpenTurn) (h : ℕ) → Slots G T 0 most_letters T.cells (D.begin T.rest) →
      Real (at_claim G T) (ticks_of_turn - 1) h
  tick_claims T h run =
      plain T.cells h Start (begun T 0 (ticks_of_turn - 2) (omega arith) (omega arith) run) T.armed_as
      (claimed_starts G T.cells T.rest h T.timed T.living) refl (claimed_quiet W T.cells) refl start_no refl
      (inl (omega arith))

  tick_begun : (T : OpenTurn) (e n h : ℕ) → e ≤ most_count → n + 2 + e ≡ ticks_of_turn →
      Slots G T 0 most_letters T.cells (D.begin T.rest) → Real (at_start G T e) n h
  tick_begun T e n h b c run = go (any_scl W (looks W (opened W e) T.cells)) refl
    where
      go : (x : Bool) → any_scl W (looks W (opened W e) T.cells) ≡ x → Real (at_start G T e) n h
      go false x =
          let k : e < most_count = elim (cases_lt e most_count) [
            | inl z ↦ z
            | inr z ↦ let y = opened_ends G T.cells e T.timed T.living z in cc
          ] in
          plain T.cells h SteadyHigh (begun T (e + 1) (n - 1) (omega arith) (omega arith) run) T.armed_as
          (opened_stays G T.cells (D.begin T.rest) e h T.timed T.living x) refl (opened_quiet W e T.cells) refl high_no
          refl (inl (omega arith))
      go true x =
          let m = ticks_of_letter * most_letters in
          plain T.cells h Fall
          (low T 0 most_letters (D.begin T.rest) false 0 0 m (omega arith) (omega arith) (omega arith) run) T.armed_as
          (opened_falls G T.cells (D.begin T.rest) e h T.timed T.living x) refl (opened_fall_quiet W e T.cells) refl
          fall_no refl (inl (omega arith))

  -- a mark in the slot k; f: who is marked before, lo: whom the verdicts mark
  loses_here : (T : OpenTurn) {sp : Spell} (f lo : Symbol → Bool) (j : Symbol → W.Cursor → VerdictModel W)
      (each : (x : Symbol) (p : W.Cursor) → is_lost W (j x p) ≡ lo x) {k r : ℕ} {s : D.S} → Slots G T k r T.cells s →
      ((x : Symbol) → lo x ≡ true → f x ≡ false) → ((x : Symbol) → lo x ≡ true → x ≡ lead W (cursors W T.cells) → ⊥) →
      (i : ℕ) → slice_index_or (notes W j T.cells) i quiet ≡ lost →
      Loses G (Some T.contenders) T.rest (marks G f T) (monitor_at (suc k) true (marks G f T) sp) i
  loses_here T f lo j each {k} run new behind i e =
      let a = note_at W j T.cells i e in
      let o : lo (W.symbol a.0) ≡ true = sym (each (W.symbol a.0) a.0) ∙ ap (is_lost W) a.2 in
      let q = contender W T.contenders T.cells T.within i a.0 a.1 in
      let x = loses_at G T.contenders run i q.0 a.0 q.1 a.1
      (λ z. behind (W.symbol a.0) o (rank_inj (W.symbol a.0) (lead W (cursors W T.cells)) (sym z))) in
      record {
        turn = T.contenders;
        now = refl;
        task = q.0;
        contends = q.1;
        before = unmarked W f T.contenders T.cells i a.0 a.1 (new (W.symbol a.0) o);
        risen = refl;
        letter = k;
        falls = refl;
        least = x.0;
        leads = x.1;
        first = x.2;
      }

  tick_low : (T : OpenTurn) (k r : ℕ) (s : D.S) (d : Bool) (f e n h : ℕ) → f ≤ most_count → e ≤ most_count →
      n + e ≡ ticks_of_letter * r → Slots G T k r T.cells s → Real (at_low G T k s d f e) n h
  tick_low T k r s d f e n h b b' c run = go (held W D T.cells f e) refl
    where
      some_r : 1 ≤ r
      some_r = some_left G T.cells run T.living

      go : (x : Bool) → held W D T.cells f e ≡ x → Real (at_low G T k s d f e) n h
      go true x =
          let z = some_r in
          let k' : e < most_count = elim (cases_lt e most_count) [
            | inl z ↦ z
            | inr z ↦ let q = low_ends G T.cells e T.timed z in absurd (grind (arith, tells))
          ] in
          plain T.cells h SteadyLow
          (low T k r s (carries W D T.cells s) f (e + 1) (n - 1) b (omega arith) (omega arith) run) T.armed_as
          (low_stays G d T.cells s f e h x) refl (lowered_quiet W e T.cells) refl low_no refl (inl (omega arith))
      go false x =
          let z = some_r in
          let q = low_rises G d T.cells s f e h x in
          let o = carries W D T.cells s in
          let ks = notes W (early W o) T.cells in
          by_tick h q
          (via_verdicts W D (at_low G T k s d f e).machine ks (lines true o) (ap (λ x. x.wire.last) q)
          (rising_verdicts W e o T.cells))
          (silent (Rise o) ks (rose T k r s o (ticks_of_letter * r - ticks_of_low) refl (omega arith) run) refl
          (rise_no o)
          (ap (λ x. monitor_at (suc k) true x (spell (Some o) (text G T k)))
          (marked_more W never (early_lost o) (early W o) (early_is W o) T.contenders T.cells T.within))
          (tells_none W (early W o) (early_mute W o) T.cells ∙ ap nobody (sym T.armed_as))
          (loses_here T never (early_lost o) (early W o) (early_is W o) run (λ x e. refl)
          (λ x e z. early_behind D x s o e (ap (λ y. heard D y s) z ∙ run_carries G T.cells run)))
          (inl (omega arith)))

  tick_high : (T : OpenTurn) (k r g : ℕ) (s : D.S) (d : Bool) (c : Option Bool) (e n h : ℕ) → h ≤ most_count →
      not (some W holds T.cells || D.pulls s) ≡ d → e ≤ most_count →
      n + ticks_of_low + 1 + e ≡ ticks_of_letter * suc r →
      text G T g ++ letters_of_bit c ≡ text G T (suc k) → g ≤ suc k →
      (slots G g (opens_at G (begins W T.contenders) (D.begin T.rest))).side ≡ s →
      Slots G T (suc k) r (advance W (unwrap_or c true) T.cells) (taken D c s) → Real (at_high G T k g s d c e) n h
  tick_high T k r g s d c e n h hh j o z m m' v run = go (any_scl W (looks W (settled W e) T.cells)) refl
    where
      some_r : 1 ≤ r
      some_r = let b = unwrap_or c true in some_left G (advance W b T.cells) run (alive_advance W b T.cells ∙ T.living)

      go : (x : Bool) → any_scl W (looks W (settled W e) T.cells) ≡ x → Real (at_high G T k g s d c e) n h
      go false x =
          let k' : e < most_count = elim (cases_lt e most_count) [
            | inl z ↦ z
            | inr z ↦ let y = settled_ends G T.cells e T.timed T.living z in cc
          ] in
          let rr = some_r in
          plain T.cells h SteadyHigh
          (high T k r g s d c (e + 1) (n - 1) j (omega arith) (omega arith) m m' v run) T.armed_as
          (settled_stays G d c T.cells s e h T.timed j x) (steady d)
          (ap (λ ev. verdicts W (looks W (settled W e) T.cells) (shown ev (counted_bit c ev) false)) (steady d)
          ∙ settled_quiet W e T.cells) refl high_no refl (inl (omega arith))
      go true x =
          let b = unwrap_or c true in
          plain T.cells h Fall
          (low (advance_turn T b) (suc k) r (taken D c s) d (asked c h) 0 (ticks_of_letter * r) (asked_to c h hh)
          (omega arith) (omega arith) run) T.armed_as
          (settled_falls G d c T.cells s e h T.timed j x) refl (settled_fall_quiet W c e T.cells) refl fall_no
          (ap₂ (λ x y. monitor_at (suc (suc k)) false x (spell None y)) (sym (marked_advance W b T.contenders T.cells)) m)
          (inl (omega arith))

  none_at_stop : (x : Symbol) → late_lost 1 x ≡ false
  none_at_stop x = grind arith

  -- the tick after the rise in the slot k; r slots are left at the most behind it
  module _ (T : OpenTurn) (k r : ℕ) (s : D.S) (n h : ℕ) (fit : n + ticks_of_low ≡ ticks_of_letter * suc r)
      (run : Slots G T k (suc r) T.cells s) where
    -- where the slot carries b
    abbrev Rises : Bool → Type 0
    Rises b = Real (at_rise G T k s b) n h

    abbrev leading : Symbol
    leading = lead W (cursors W T.cells)

    led_by : (j : ℕ) → least W T.cells ≡ j → rank leading ≡ j
    led_by j e = leads W T.cells T.living ∙ e

    spelt : (c : Letter) → letter D leading s ≡ c → text G T k ++ (c ∷ []) ≡ text G T (suc k)
    spelt c e = spells G c run e

    loses_late : {sp : Spell} (b : Bool) (j : ℕ) → least W T.cells ≡ j → (j ≡ 2 → b ≡ true) → (i : ℕ) →
        slice_index_or (notes W (late W j) T.cells) i quiet ≡ lost →
        Loses G (Some T.contenders) T.rest (marks G (early_lost b) T)
        (monitor_at (suc k) true (marks G (early_lost b) T) sp) i
    loses_late b j e again =
        loses_here T (early_lost b) (late_lost j) (late W j) (late_is W j) run (λ x a. late_new j x b again a)
        (λ x a p. late_behind j x a (ap rank p ∙ led_by j e))

    marks_late : (b : Bool) (j : ℕ) → Every W (λ x. (early_lost b x || late_lost j x) ≡ not (eqb (rank x) j)) T.cells →
        marks_too W (marks G (early_lost b) T) (notes W (late W j) T.cells) ≡
        marked W never T.contenders (stay W j T.cells)
    marks_late b j ev =
        marked_more W (early_lost b) (late_lost j) (late W j) (late_is W j) T.contenders T.cells T.within
        ∙ marked_stay W (λ x. early_lost b x || late_lost j x) j T.contenders T.cells ev

    fresh_bit : (b : Bool) (j : ℕ) → carries W D T.cells s ≡ b → least W T.cells ≡ j → j ≤ 4 →
        (j ≡ 1 → ⊥) → (j ≡ 2 → ⊥) →
        tick W D (fresh_bus W D b T.cells s) h ≡ settled_bus W D b (Some b) (stay W j T.cells) s 1 →
        tick_verdicts W D (fresh_bus W D b T.cells s) ≡ notes W (late W j) T.cells →
        not (some W holds (stay W j T.cells) || D.pulls s) ≡ b →
        Every W (λ x. (early_lost b x || late_lost j x) ≡ not (eqb (rank x) j)) T.cells → Rises b
    fresh_bit b j c e j4 j1 j2 q f d ev =
        let U = stay_turn T j e j4 in
        let u = settled_bus W D b (Some b) U.cells s 1 in
        let ks = notes W (late W j) T.cells in
        by_tick h q f
        (subst (λ x. Fine (at_rise G T k s b) n u x ks) (sym (steady b))
        (silent SteadyHigh ks
        (high U k r k s b (Some b) 1 (n - 2) d (omega arith) (omega arith) spells_on (omega arith)
        (ap (λ x. x.side) run.runs)
        (subst (λ x. Slots G U (suc k) r (advance W x U.cells) (D.bit s x)) c
        (run_bit G T.cells run T.living j e j1 j2))) refl high_no
        (ap (λ x. monitor_at (suc k) true x (spell (Some b) (text G T k))) (marks_late b j ev))
        (tells_none W (late W j) (late_mute W j j1) T.cells ∙ ap nobody (sym T.armed_as))
        (loses_late b j e (λ p. absurd (j2 p))) (inl (omega arith))))
      where
        spells_on : text G T k ++ (bit_letter b ∷ []) ≡ text G T (suc k)
        spells_on = spelt (bit_letter b)
            (letter_bit D leading s (λ z. j1 (sym (led_by j e) ∙ z)) (λ z. j2 (sym (led_by j e) ∙ z))
            ∙ ap bit_letter (run_carries G T.cells run ∙ c))

    fresh_again : carries W D T.cells s ≡ true → least W T.cells ≡ 2 →
        tick W D (fresh_bus W D true T.cells s) h ≡ settled_bus W D false None (stay W 2 T.cells) (D.begin s) 0 →
        tick_verdicts W D (fresh_bus W D true T.cells s) ≡ notes W (late W 2) T.cells →
        Every W (λ x. (early_lost true x || late_lost 2 x) ≡ not (eqb (rank x) 2)) T.cells → Rises true
    fresh_again c e q f ev =
        let U = stay_turn T 2 e (omega arith) in
        by_tick h q f
        (silent Start (notes W (late W 2) T.cells)
        (high U k r (suc k) (D.begin s) false None 0 (n - 1)
        (ap (λ x. not (x || D.pulls (D.begin s))) (holds_restart W T.cells e)) (omega arith) (omega arith)
        (append-nil (text G T (suc k))) (omega arith) (ap (λ x. x.side) again.runs)
        (subst (λ x. Slots G U (suc k) r (advance W x U.cells) (D.begin s)) c again)) refl start_no
        (ap₂ (λ x y. monitor_at (suc k) true x (spell None y)) (marks_late true 2 ev) spells_on)
        (tells_none W (late W 2) (late_mute W 2 (omega arith)) T.cells ∙ ap nobody (sym T.armed_as))
        (loses_late true 2 e (λ p. refl)) (inl (omega arith)))
      where
        again : Run G (begins W T.contenders) (D.begin T.rest) (suc k) r
            (cursors W (advance W (carries W D T.cells s) (stay W 2 T.cells))) (D.begin s)
        again = run_again G T.cells run T.living e

        spells_on : text G T k ++ (restart ∷ []) ≡ text G T (suc k)
        spells_on = spelt restart (letter_again D leading s (led_by 2 e))

    fresh_stop : least W T.cells ≡ 1 →
        tick W D (fresh_bus W D false T.cells s) h ≡ free_bus W D (finished W T.cells) (D.finish s) →
        tick_verdicts W D (fresh_bus W D false T.cells s) ≡ notes W (late W 1) T.cells →
        Every W (λ x. (1 ≤ rank x) × (rank x ≤ 3)) T.cells → Rises false
    fresh_stop e q f ev =
        by_tick h q f
        (record {
          due = ticks_of_turn;
          stands =
              let b : Book W D = book W D (disarm T.armed ts) after None in
              subst (λ x. StandsAs (point W D (free_bus W D cs x) b w) ticks_of_turn) side
              (idle (disarm T.armed ts) after w cs
              (ap₂ disarm T.armed_as (sym told_is) ∙ sym (armeds_finished W T.cells)) (timed_finished W T.cells T.timed)
              (holding_finished W T.cells) rested (λ j p a. T.armed_ready j p (disarmed T.armed ts j p a).0));
          tells = tells_end W T.cells ∙ told_is;
          counts =
              ap₂ (λ a b. count (disarm a b) + count b) T.armed_as (sym told_is) ∙ counts_end W T.cells T.holding
              ∙ ap count (sym T.armed_as);
          loses = λ i b.
              let v = note_at W (late W 1) T.cells i b in
              let x = W.symbol v.0 in
              let z : true ≡ false = sym (ap (is_lost W) v.2) ∙ (late_is W 1 x v.0 ∙ none_at_stop x) in
              cc;
          stops = λ st m el i p a.
              let z : l ≡ m = cc in
              subst (λ x. Stopped G x T.rest P.monitor.marked (tellings W ks) i p) z
              (stopped i p (ap (λ x. at x i) z ∙ a));
          spelled = λ st m el.
              let z : l ≡ m = cc in
              subst (λ x. Spelled G x T.rest (text G T k ++ (stop ∷ []))) z spells_all;
          falls = inl (let c = somebody_told W T.cells e in let d = ap count told_is in omega arith);
        })
      where
        P : Point W D
        P = at_rise G T k s false

        ks : List (VerdictModel W)
        ks = notes W (late W 1) T.cells

        l : Tasks W
        l = T.contenders

        -- after the stop
        cs : List (Cell W)
        cs = finished W T.cells

        w : Monitor
        w = noted W (later P Stop) ks

        stops_here : rank leading ≡ 1
        stops_here = led_by 1 e

        first : Option W.Task
        first = leader G l (D.begin T.rest)

        after : D.S
        after = leader_side G first (D.begin T.rest)

        ts : List (Option W.Outcome)
        ts = outcomes G l first (D.begin T.rest)

        told_is : ending W (cursors W T.cells) ≡ ts
        told_is = told_at_stop G l T.cells run stops_here T.within

        stopped : (i : ℕ) (p : W.Task) → at l i ≡ Some p → Stopped G l T.rest P.monitor.marked (tellings W ks) i p
        stopped i p a =
            let w : is_some (at (tellings W ks) i) ≡ wins G p first (D.begin T.rest) =
            ap (λ x. is_some (at x i)) (tells_end W T.cells ∙ told_is) ∙ outcome_at G first (D.begin T.rest) l i p a in
            record {
              unmarked = ap (λ x. is_some (at x i)) (tells_end W T.cells)
                  ∙ tells_unmarked W l T.cells T.within ev i p a;
              least = λ h. wins_least G l run i p a (sym w ∙ h);
              wins = λ h. w ∙ least_wins G l run i p a h;
            }

        -- a contender that shows the stop, and the leader
        one : (i : ℕ) × ((q : W.Task) × (at l i ≡ Some q))
        one = let a = alive_at W T.cells T.living in (a.0, contender W l T.cells T.within a.0 a.1.0 a.1.1)

        led : (x : W.Task) × (first ≡ Some x) × (text G T (suc k) ≡ task_string G x (D.begin T.rest))
        led = stop_spells G l run stops_here one.0 one.1.0 one.1.1

        rested : Rest after
        rested = let j = leader_in G l (D.begin T.rest) led.0 led.1 in
            subst (λ o. Rest (leader_side G o (D.begin T.rest))) (sym led.1)
            (plays.rests led.0 T.rest (T.ready j.0 led.0 j.1) T.rested)

        spells_all : Spelled G l T.rest (text G T k ++ (stop ∷ []))
        spells_all = record {
          least = led.0;
          leads = led.1;
          whole = spelt stop (letter_stop D leading s stops_here) ∙ led.2;
        }

        side : after ≡ D.finish s
        side = stop_side G l run stops_here one.0 one.1.0 one.1.1

    -- b is what the slot carries, so it is what the least symbol shows
    rises_as : (b c : Bool) → carries W D T.cells s ≡ b → carries W D T.cells s ≡ c → Rises c → Rises b
    rises_as b c e f z = subst Rises (sym f ∙ e) z

    rises : (b : Bool) → carries W D T.cells s ≡ b → Shape W D T.cells s → (j : ℕ) → least W T.cells ≡ j → j ≤ 4 →
        Rises b
    rises b c q zero e j4 =
        let x = fresh_zero G T.cells s h T.timed q e in
        let w = shaped G 0 T.cells s (omega arith) e q in
        let o = holds_zero W T.cells e in
        rises_as b false c x.0 (fresh_bit false 0 x.0 e j4 (omega arith) (omega arith) x.1 x.2 (cc)
        (every W (λ x. (0 ≤ rank x) × (rank x ≤ 3)) (λ x. (early_lost false x || late_lost 0 x) ≡ not (eqb (rank x) 0))
        (slot_low 0 (omega arith)) T.cells w.0))
    rises b c q (suc zero) e j4 =
        let x = fresh_end G T.cells s h T.timed q e in
        let w = shaped G 1 T.cells s (omega arith) e q in
        rises_as b false c x.0 (fresh_stop e x.1 x.2 w.0)
    rises b c q (suc (suc zero)) e j4 =
        let x = fresh_restart G T.cells s h T.timed q e in
        let w = shaped G 2 T.cells s (omega arith) e q in
        rises_as b true c x.0 (fresh_again x.0 e x.1 x.2
        (every W (λ x. (2 ≤ rank x) × (rank x ≤ 3)) (λ x. (early_lost true x || late_lost 2 x) ≡ not (eqb (rank x) 2))
        (slot_high 2 (omega arith) (omega arith)) T.cells w.0))
    rises b c q (suc (suc (suc zero))) e j4 =
        let x = fresh_one G T.cells s h T.timed q e in
        let w = shaped G 3 T.cells s (omega arith) e q in
        let f = w.1 in
        let o = holds_not W 3 T.cells (omega arith) e in
        rises_as b true c x.0 (fresh_bit true 3 x.0 e j4 (omega arith) (omega arith) x.1 x.2 (cc)
        (every W (λ x. (3 ≤ rank x) × (rank x ≤ 3)) (λ x. (early_lost true x || late_lost 3 x) ≡ not (eqb (rank x) 3))
        (slot_high 3 (omega arith) (omega arith)) T.cells w.0))
    rises b c q (suc (suc (suc (suc zero)))) e j4 =
        let d = not (D.pulls s) in
        let x = fresh_listen G d T.cells s h T.timed e refl in
        let w = every W (λ x. 4 ≤ rank x) (λ x. rank x ≡ 4) (λ x h. omega (arith, rank_top x)) T.cells
        (least_below W 4 T.cells (omega arith)) in
        let o = holds_not W 4 T.cells (omega arith) e in
        rises_as b d c x.0 (fresh_bit d 4 x.0 e j4 (omega arith) (omega arith) x.1 x.2 (cc)
        (every W (λ x. rank x ≡ 4) (λ x. (early_lost d x || late_lost 4 x) ≡ not (eqb (rank x) 4)) (slot_listen d)
        T.cells w))
    rises b c q (suc (suc (suc (suc (suc j))))) e j4 = absurd (omega arith)

  tick_rises : (T : OpenTurn) (k r : ℕ) (s : D.S) (b : Bool) (n h : ℕ) → carries W D T.cells s ≡ b →
      n + ticks_of_low ≡ ticks_of_letter * r → Slots G T k r T.cells s → Real (at_rise G T k s b) n h
  tick_rises T k zero s b n h c z run =
      let a = some_left G T.cells run T.living in absurd (omega arith)
  tick_rises T k (suc r) s b n h c z run =
      rises T k r s n h z run b c (run_shape G T.cells run T.living)
      (least W T.cells) refl (alive_least W T.cells T.living)

  -- a tick in any phase
  pub tick_stands : {P : Point W D} {n : ℕ} (h : ℕ) → h ≤ most_count → StandsAs P n → Real P n h
  tick_stands h hh (idle os s w cs a t g q y) = tick_idle os s w cs h a t g q y
  tick_stands h hh (claims T q) = tick_claims T h q
  tick_stands h hh (begun T e n b c q) = tick_begun T e n h b c q
  tick_stands h hh (low T k r s d f e n b b' c q) = tick_low T k r s d f e n h b b' c q
  tick_stands h hh (rose T k r s b n j c q) = tick_rises T k r s b n h j c q
  tick_stands h hh (high T k r g s d c e n j o z m m' v q) = tick_high T k r g s d c e n h hh j o z m m' v q
