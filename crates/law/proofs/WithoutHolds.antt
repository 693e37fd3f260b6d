-- Where no device may hold, a tick and a run do not depend on the answers to hold.
use Rattle.std.proofs.Common.{◌≡◌, ℕ, zero, suc, ◌+◌, Bool, true, false, cond, List, []}
use Rattle.std.proofs.Common.{◌∷◌, Option, Ok, Err, nat_lt, refl, ap, ap₂, ◌∙◌, arith}
use Rattle.device.specs.Device.{Behaviour}
use Rattle.host.specs.Host.{HostBehaviour}
use Rattle.port.specs.declared.port.Mode.{Mode}
use Rattle.port.specs.Port.{asks_hold, asks_hold_at_event, asks_hold_at_bit, MayAnswer}
use Rattle.port.specs.Port.{PortModel, port_step, port_after_event, port_after_bit}
use Rattle.wire.specs.declared.event.Event.{Event}
use Rattle.wire.specs.declared.wire.Signal.{Signal}
use Rattle.wire.specs.Wire.{signal}
use Rattle.law.specs.Bank.{Bank}
use Rattle.law.specs.BusModel.{BusModel, HoldAnswers, AllMayAnswer, NeverHold, no_holds}
use Rattle.law.specs.BusModel.{Answered, ports_step, tick_at, told_at, levels_at, is_at_rest}
use Rattle.law.specs.RunModel.{some_count, Running, run_after_tick, run_after_ticks}
use Rattle.law.specs.RunModel.{RunTicksAnswered, run_start, run_report, RunAnswered, run_at}
use Rattle.law.specs.Limits.{most_ticks}

module _ (b : Behaviour) where
  unasked_at_bit : (p : PortModel b) (m : Mode) (x : Bool) (h k : ℕ) → asks_hold_at_bit m x ≡ false →
      port_after_bit b p m x h ≡ port_after_bit b p m x k
  unasked_at_bit p m x h k e = grind arith

  -- an answer that is not asked for makes nothing of a port
  unasked : (p : PortModel b) (e : Event) (o : Option Bool) (h k : ℕ) → asks_hold_at_event p.mode e o ≡ false →
      port_after_event b p e o h ≡ port_after_event b p e o k
  unasked p e o h k n = grind (arith, unasked_at_bit p p.mode)

  -- f is at h what it is at 0, whether h was asked for or not
  either : (f : ℕ → PortModel b) (h : ℕ) (v : Bool) → (v ≡ true → h ≡ 0) → (v ≡ false → f h ≡ f 0) → f h ≡ f 0
  either f h true asked not_asked = ap f (asked refl)
  either f h false asked not_asked = not_asked refl

  -- a port whose device may only answer 0 steps as for 0
  never_held : (p : PortModel b) (s : Signal) (h : ℕ) →
      ((m : b.Meaning) (h : ℕ) → b.holds m h → h ≡ 0) → MayAnswer b p s h →
      port_step b p s h ≡ port_step b p s 0
  never_held p s h never may =
      either (λ h. port_step b p s h) h (asks_hold b p s)
      (λ e. never (port_step b p s h).meaning h (may e)) (unasked p s.event s.bit h 0)

-- so all ports, where no device may hold
ports_unheld : (ds : List Behaviour) (p : Bank PortModel ds) (s : Signal) (a : HoldAnswers ds) →
    NeverHold ds → AllMayAnswer ds p s a →
    ports_step ds p s a ≡ ports_step ds p s (no_holds ds)
ports_unheld [] p s a never may = refl
ports_unheld (d ∷ ds) p s a never may =
    ap₂ (λ x y. (x, y)) (never_held d p.0 s a.0.0 never.0 may.0) (ports_unheld ds p.1 s a.1 never.1 may.1)

module _ (hs : List HostBehaviour) (ds : List Behaviour) where
  -- a tick is a function of the bus alone
  pub tick_unheld : (u : BusModel hs ds) (a : HoldAnswers ds) → NeverHold ds → Answered hs ds u a →
      tick_at hs ds u a ≡ tick_at hs ds u (no_holds ds)
  tick_unheld u a never may = rw (ports_unheld ds u.ports (signal u.wire (levels_at hs ds u)) a never may)

  ticked_unheld : (r : Running hs ds) (a : HoldAnswers ds) → NeverHold ds → Answered hs ds r.bus a →
      run_after_tick hs ds r a ≡ run_after_tick hs ds r (no_holds ds)
  ticked_unheld r a never may =
      let f : BusModel hs ds → Running hs ds = λ u. record {
        bus = u;
        ticks = suc r.ticks;
        outcomes = r.outcomes + some_count (told_at hs ds r.bus);
        busy = r.busy + cond u.wire.busy 1 0;
      } in
      ap (λ t. f t.1) (tick_unheld r.bus a never may)

  unless : {A : Type 0} (v : Bool) (r x y : A) → (v ≡ false → x ≡ y) → cond v r x ≡ cond v r y
  unless true r x y e = refl
  unless false r x y e = e refl

  -- the ticks of a run that are left
  goes_on_unheld : (n : ℕ) (a : ℕ → HoldAnswers ds) (r : Running hs ds) → NeverHold ds → RunTicksAnswered hs ds n a r →
      run_after_ticks hs ds n a r ≡ run_after_ticks hs ds n (λ k. no_holds ds) r
  goes_on_unheld zero a r never may = refl
  goes_on_unheld (suc n) a r never may =
      unless (is_at_rest hs ds r.bus) r _ _ (λ up.
      goes_on_unheld n a (run_after_tick hs ds r (a r.ticks)) never (may up).1
      ∙ ap (run_after_ticks hs ds n (λ k. no_holds ds)) (ticked_unheld r (a r.ticks) never (may up).0))

  -- and so is a run
  pub run_unheld : (u : BusModel hs ds) (n : ℕ) (a : ℕ → HoldAnswers ds) → NeverHold ds → RunAnswered hs ds u n a →
      run_at hs ds u n a ≡ run_at hs ds u n (λ k. no_holds ds)
  run_unheld u n a never may =
      unless (nat_lt most_ticks n) (Err 8, u) _ _ (λ few.
      ap (λ r. (Ok (run_report hs ds r), r.bus)) (goes_on_unheld n a (run_start hs ds u) never (may few)))
