-- A run counted tick by tick.
use Rattle.std.proofs.Common.{◌≡◌, ℕ, zero, suc, ◌+◌, ◌-◌, ◌<◌, ◌≤◌, true, false, cond, ltb, ◌⊎◌, inl, inr, List, []}
use Rattle.std.proofs.Common.{◌∷◌, length, replicate, Ok, Err, sym, refl, ap, ◌∙◌, subst, zero-add, add-one, arith}
use Rattle.std.proofs.Common.{le-ltb, lt-ltb, is_some, Option}
use Rattle.std.proofs.lemmas.List.Sums.{sum_by-cons}
use Rattle.std.proofs.lemmas.List.Folds.{sum_by-replicate}
use Rattle.transfer.specs.Outcome.{OutcomeModel}
use Rattle.device.specs.Device.{Behaviour}
use Rattle.host.specs.Host.{HostBehaviour}
use Rattle.master.specs.declared.mark.Mark.{Mark}
use Rattle.master.specs.declared.mark.Mark.TheVariants.{Quiet}
use Rattle.wire.specs.declared.wire.Signal.{Signal}
use Rattle.law.specs.Bank.{Bank, bank_list}
use Rattle.law.specs.BusModel.{BusModel, HoldAnswers, Answered, no_holds, marks_over, tick_at, told_at, is_at_rest}
use Rattle.master.specs.Master.{HostedMaster, mark_of, told_outcome, hosted_mark, hosted_told}
use Rattle.master.specs.MasterState.{VerdictModel, quiet, lost, told, master_step}
use Rattle.master.specs.Script.{transfers}
use Rattle.exchange.specs.Bus.{TickAsked, RunTicksAsked, RunAsked}
use Rattle.law.specs.Limits.{most_ticks}
use Rattle.law.specs.RunModel.{some_count, told_count, Running, run_start, run_after_tick, run_after_ticks}
use Rattle.law.specs.RunModel.{RunTicksAnswered, RunAnswered, load, run_at}
use Rattle.master.specs.Mark.{is_told}

-- one master more, with its mark and the outcome that its host is told
told_marks : (v : VerdictModel transfers) (ms : List Mark) (os : List (Option OutcomeModel)) →
    told_count ms ≡ some_count os → told_count (mark_of v ∷ ms) ≡ some_count (told_outcome v ∷ os)
told_marks quiet ms os e = e
told_marks lost ms os e = e
told_marks (told o) ms os e =
    omega (
      arith,
      sum_by-cons (λ m. cond (is_told m) 1 0) (mark_of (told o)) ms,
      sum_by-cons (λ o. cond (is_some o) 1 0) (told_outcome (told o)) os,
    )

-- a tick's marks tell all of its outcomes where each master has a place
pub told_count_is_all : (hs : List HostBehaviour) (s : Signal) (p : Bank HostedMaster hs) (k : ℕ) → length hs ≤ k →
    told_count (marks_over (bank_list (λ h. hosted_mark h s) hs p) (replicate k Quiet)) ≡ some_count (bank_list (λ h. hosted_told h s) hs p)
told_count_is_all [] s p k h = sum_by-replicate (λ m. cond (is_told m) 1 0) k Quiet ∙ omega arith
told_count_is_all (b ∷ hs) s p zero h = absurd (omega arith)
told_count_is_all (b ∷ hs) s p (suc k) h =
    told_marks (master_step transfers p.0.master s).1
    (marks_over (bank_list (λ h. hosted_mark h s) hs p.1) (replicate k Quiet))
    (bank_list (λ h. hosted_told h s) hs p.1) (told_count_is_all hs s p.1 k (omega arith))

module _ (hs : List HostBehaviour) (ds : List Behaviour) {P : Type 0} (asked : P → Signal → HoldAnswers ds → P → Type 0) where
  -- from u with the ports p the run r is under way with the ports q, whatever is answered after the answers so far
  pub record Reached (u : BusModel hs ds) (p : P) (r : Running hs ds) (q : P) : Type 0 where
    pub answers : ℕ → HoldAnswers ds
    pub on : (b : ℕ → HoldAnswers ds) → ((k : ℕ) → k < r.ticks → b k ≡ answers k) →
        (m : ℕ) → run_after_ticks hs ds (r.ticks + m) b (run_start hs ds u) ≡ run_after_ticks hs ds m b r
    -- and so far they are ones that the devices may give
    pub may : (b : ℕ → HoldAnswers ds) → ((k : ℕ) → k < r.ticks → b k ≡ answers k) →
        (m : ℕ) → RunTicksAnswered hs ds m b r → RunTicksAnswered hs ds (r.ticks + m) b (run_start hs ds u)
    -- and the calls so far lead from p to q
    pub calls : (b : ℕ → HoldAnswers ds) → ((k : ℕ) → k < r.ticks → b k ≡ answers k) →
        (m : ℕ) (z : P) → RunTicksAsked hs ds asked m b r q z → RunTicksAsked hs ds asked (r.ticks + m) b (run_start hs ds u) p z

  pub reached_none : (u : BusModel hs ds) (p : P) → Reached u p (run_start hs ds u) p
  reached_none u p = record {
    answers = λ k. no_holds ds;
    on = λ b e m. ap (λ n. run_after_ticks hs ds n b (run_start hs ds u)) (zero-add m);
    may = λ b e m h. subst (λ n. RunTicksAnswered hs ds n b (run_start hs ds u)) (sym (zero-add m)) h;
    calls = λ b e m z h. subst (λ n. RunTicksAsked hs ds asked n b (run_start hs ds u) p z) (sym (zero-add m)) h;
  }

  then : (a : ℕ → HoldAnswers ds) → ℕ → HoldAnswers ds → ℕ → HoldAnswers ds
  then a t h k = cond (ltb k t) (a k) h

  then_before : (a : ℕ → HoldAnswers ds) (t : ℕ) (h : HoldAnswers ds) (k : ℕ) → k < t → then a t h k ≡ a k
  unfolding then
  then_before a t h k e = grind arith

  then_at : (a : ℕ → HoldAnswers ds) (t : ℕ) (h : HoldAnswers ds) → then a t h t ≡ h
  unfolding then
  then_at a t h = grind arith

  ticked_on : (u : BusModel hs ds) (p : P) (r : Running hs ds) (q next : P) (h : HoldAnswers ds) →
      is_at_rest hs ds r.bus ≡ false → Answered hs ds r.bus h → TickAsked hs ds asked r.bus h q next →
      Reached u p r q → Reached u p (run_after_tick hs ds r h) next
  ticked_on u p r q next h up may called so =
      let before : (b : ℕ → HoldAnswers ds) → ((k : ℕ) → k < suc r.ticks → b k ≡ then so.answers r.ticks h k) →
      (k : ℕ) → k < r.ticks → b k ≡ so.answers k =
      λ b e k lt. e k (omega arith) ∙ then_before so.answers r.ticks h k lt in
      let here : (b : ℕ → HoldAnswers ds) → ((k : ℕ) → k < suc r.ticks → b k ≡ then so.answers r.ticks h k) → b r.ticks ≡ h =
      λ b e. e r.ticks (omega arith) ∙ then_at so.answers r.ticks h in
      let n : (m : ℕ) → suc r.ticks + m ≡ r.ticks + suc m = λ m. omega arith in
      record {
        answers = then so.answers r.ticks h;
        on = λ b e m.
            ap (λ n. run_after_ticks hs ds n b (run_start hs ds u)) (n m) ∙ so.on b (before b e) (suc m)
            ∙ ap (λ v. cond v r (run_after_ticks hs ds m b (run_after_tick hs ds r (b r.ticks)))) up
            ∙ ap (λ x. run_after_ticks hs ds m b (run_after_tick hs ds r x)) (here b e);
        may = λ b e m after.
            subst (λ n. RunTicksAnswered hs ds n b (run_start hs ds u)) (sym (n m))
            (so.may b (before b e) (suc m)
            (subst (λ x. is_at_rest hs ds r.bus ≡ false →
            Answered hs ds r.bus x × RunTicksAnswered hs ds m b (run_after_tick hs ds r x)) (sym (here b e))
            (λ up. (may, after))));
        calls = λ b e m z after.
            subst (λ n. RunTicksAsked hs ds asked n b (run_start hs ds u) p z) (sym (n m))
            (so.calls b (before b e) (suc m) z
            (subst (λ x. (is_at_rest hs ds r.bus ≡ true → z ≡ q) ×
            (is_at_rest hs ds r.bus ≡ false → (y : P) × TickAsked hs ds asked r.bus x q y ×
            RunTicksAsked hs ds asked m b (run_after_tick hs ds r x) y z)) (sym (here b e))
            ((λ rest. absurd (let no : true ≡ false = sym rest ∙ up in cc)), (λ up. (next, called, after)))));
      }

  -- one tick more, by what the code has of it
  pub reached_more : (u : BusModel hs ds) (p : P) (r : Running hs ds) (q next : P) (h : HoldAnswers ds) (v : BusModel hs ds) (o y : ℕ) →
      false ≡ is_at_rest hs ds r.bus → v ≡ (tick_at hs ds r.bus h).1 → o ≡ some_count (told_at hs ds r.bus) →
      y ≡ r.busy + cond v.wire.busy 1 0 → Answered hs ds r.bus h → TickAsked hs ds asked r.bus h q next → Reached u p r q →
      Reached u p (record { bus = v; ticks = r.ticks + 1; outcomes = r.outcomes + o; busy = y }) next
  reached_more u p r q next h v o y up bus_is outcomes_are busy_is may called so =
      let e : ◌≡◌ {A = Running hs ds}
      (record { bus = v; ticks = r.ticks + 1; outcomes = r.outcomes + o; busy = y }) (run_after_tick hs ds r h) =
      rw (busy_is, outcomes_are, add-one, bus_is) in
      subst (λ (x : Running hs ds). Reached u p x next) (sym e) (ticked_on u p r q next h (sym up) may called so)

  rests : (r : Running hs ds) (b : ℕ → HoldAnswers ds) (m : ℕ) → is_at_rest hs ds r.bus ≡ true → run_after_ticks hs ds m b r ≡ r
  rests r b m h = grind arith

  stops : (r : Running hs ds) (b : ℕ → HoldAnswers ds) (n : ℕ) →
      (r.ticks ≡ n) ⊎ (true ≡ is_at_rest hs ds r.bus) → run_after_ticks hs ds (n - r.ticks) b r ≡ r
  stops r b n h = grind arith

  -- a run that is over asks nothing more
  nothing_more : (r : Running hs ds) (b : ℕ → HoldAnswers ds) (m : ℕ) →
      (m ≡ 0) ⊎ (true ≡ is_at_rest hs ds r.bus) → RunTicksAnswered hs ds m b r
  nothing_more r b zero over = tt
  nothing_more r b (suc m) over = λ up. absurd (elim over [ inl e ↦ cc | inr e ↦ cc ])

  no_call_more : (r : Running hs ds) (b : ℕ → HoldAnswers ds) (m : ℕ) (q : P) →
      (m ≡ 0) ⊎ (true ≡ is_at_rest hs ds r.bus) → RunTicksAsked hs ds asked m b r q q
  no_call_more r b zero q over = refl
  no_call_more r b (suc m) q over = ((λ rest. refl), (λ up. absurd (elim over [ inl e ↦ cc | inr e ↦ cc ])))

  -- a run is over at rest, or once all its ticks are made
  pub run_is : (u : BusModel hs ds) (p : P) (r : Running hs ds) (q : P) (n l : ℕ) → n ≤ most_ticks → r.ticks ≤ n → l ≡ load r.busy r.ticks →
      (r.ticks ≡ n) ⊎ (true ≡ is_at_rest hs ds r.bus) → Reached u p r q →
      (a : ℕ → HoldAnswers ds) × RunAnswered hs ds u n a ×
      ((Ok (record { ticks = r.ticks; outcomes = r.outcomes; load = l }), r.bus) ≡ run_at hs ds u n a) ×
      RunAsked hs ds asked u n a p q
  run_is u p r q n l few most load_is over so =
      let parts : n ≡ r.ticks + (n - r.ticks) = omega arith in
      let all : run_after_ticks hs ds n so.answers (run_start hs ds u) ≡ r =
      ap (λ n. run_after_ticks hs ds n so.answers (run_start hs ds u)) parts
      ∙ so.on so.answers (λ k lt. refl) (n - r.ticks) ∙ stops r so.answers n over in
      let left : (n - r.ticks ≡ 0) ⊎ (true ≡ is_at_rest hs ds r.bus) = elim over [ inl e ↦ inl (omega arith) | inr e ↦ inr e ] in
      let may : RunTicksAnswered hs ds n so.answers (run_start hs ds u) =
      subst (λ n. RunTicksAnswered hs ds n so.answers (run_start hs ds u)) (sym parts)
      (so.may so.answers (λ k lt. refl) (n - r.ticks) (nothing_more r so.answers (n - r.ticks) left)) in
      let calls : RunTicksAsked hs ds asked n so.answers (run_start hs ds u) p q =
      subst (λ n. RunTicksAsked hs ds asked n so.answers (run_start hs ds u) p q) (sym parts)
      (so.calls so.answers (λ k lt. refl) (n - r.ticks) q (no_call_more r so.answers (n - r.ticks) q left)) in
      let accepted : ltb most_ticks n ≡ false = le-ltb most_ticks n few in (
        so.answers,
        (λ e. may),
        rw (load_is, accepted, all),
        ((λ many. absurd (let no : true ≡ false = sym many ∙ accepted in cc)), (λ e. calls)),
      )

  -- a run that is asked for too many ticks
  pub refused : (u : BusModel hs ds) (p : P) (n : ℕ) → most_ticks < n →
      (a : ℕ → HoldAnswers ds) × RunAnswered hs ds u n a × ((Err 8, u) ≡ run_at hs ds u n a) ×
      RunAsked hs ds asked u n a p p
  refused u p n many =
      let e : ltb most_ticks n ≡ true = lt-ltb most_ticks n many in
      let never : ltb most_ticks n ≡ false → ⊥ = λ few. (let f : true ≡ false = sym e ∙ few in cc) in
      ((λ k. no_holds ds), (λ few. absurd (never few)), rw e, ((λ many. refl), (λ few. absurd (never few))))
