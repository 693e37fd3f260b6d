-- A run over devices that may give one answer to hold at most has one text.
use Rattle.std.proofs.Common.{◌≡◌, ℕ, zero, suc, ◌<◌, ◌≤◌, ◌++◌, ◌⊎◌, Bool, true, false, List, [], ◌∷◌, Option, refl}
use Rattle.std.proofs.Common.{sym, ap, ap₂, subst, ◌∙◌, ⊎_elim, append-nil, append_assoc, arith}
use Rattle.std.proofs.lemmas.Bool.{cases_lt, cases_eq}
use Rattle.std.specs.Fmt.{WritesInCalls}
use Rattle.std.specs.declared.io.Error.{Error}
use Rattle.device.specs.Device.{Behaviour}
use Rattle.host.specs.Host.{HostBehaviour}
use Rattle.law.specs.Bank.{Bank}
use Rattle.law.specs.BusModel.{BusModel, HoldAnswers, AllMayAnswer, Answered, ports_step, tick_at, levels_at, is_at_rest}
use Rattle.listing.specs.Listing.{listing_step}
use Rattle.support.specs.ArmAll.{all_armed}
use Rattle.port.specs.declared.port.Mode.{Mode}
use Rattle.port.specs.Port.{asks_hold_at_event, asks_hold_at_bit, MayAnswer, PortModel, port_step, port_after_event, port_after_bit}
use Rattle.support.specs.Output.{PutsPart}
use Rattle.support.specs.PrintedRun.{OneHold, Listened, next_lines, listened_after_tick, TicksLeadTo, IsRun, IsOnlyRun}
use Rattle.support.specs.PrintedRun.{PrintsAll, PrintsPart}
use Rattle.wire.specs.declared.event.Event.{Event}
use Rattle.wire.specs.declared.wire.Signal.{Signal}
use Rattle.wire.specs.Wire.{signal}

module _ (b : Behaviour) where
  -- no answer changes what the device means
  meant_at_bit : (p : PortModel b) (m : Mode) (x : Bool) (h k : ℕ) → (port_after_bit b p m x h).meaning ≡ (port_after_bit b p m x k).meaning
  meant_at_bit p m x h k = grind arith

  meant : (p : PortModel b) (e : Event) (o : Option Bool) (h k : ℕ) →
      (port_after_event b p e o h).meaning ≡ (port_after_event b p e o k).meaning
  meant p e o h k = grind (arith, meant_at_bit p p.mode)

  -- only an answer that is asked for is used
  alike_at_bit : (p : PortModel b) (m : Mode) (x : Bool) (h k : ℕ) → (asks_hold_at_bit m x ≡ true → h ≡ k) →
      port_after_bit b p m x h ≡ port_after_bit b p m x k
  alike_at_bit p m x h k e = grind arith

  alike : (p : PortModel b) (e : Event) (o : Option Bool) (h k : ℕ) → (asks_hold_at_event p.mode e o ≡ true → h ≡ k) →
      port_after_event b p e o h ≡ port_after_event b p e o k
  alike p e o h k same = grind (arith, alike_at_bit p p.mode)

  port_alike : (p : PortModel b) (s : Signal) (h k : ℕ) → ((m : b.Meaning) (h k : ℕ) → b.holds m h → b.holds m k → h ≡ k) →
      MayAnswer b p s h → MayAnswer b p s k → port_step b p s h ≡ port_step b p s k
  port_alike p s h k one first second =
      alike p s.event s.bit h k (λ asked.
      one _ h k (subst (λ m. b.holds m h) (meant p s.event s.bit h k) (first asked)) (second asked))

ports_alike : (ds : List Behaviour) (p : Bank PortModel ds) (s : Signal) (a c : HoldAnswers ds) → OneHold ds →
    AllMayAnswer ds p s a → AllMayAnswer ds p s c →
    ports_step ds p s a ≡ ports_step ds p s c
ports_alike [] p s a c one first second = refl
ports_alike (d ∷ ds) p s a c one first second =
    ap₂ (λ x y. (x, y)) (port_alike d p.0 s a.0.0 c.0.0 one.0 first.0 second.0) (ports_alike ds p.1 s a.1 c.1 one.1 first.1 second.1)

module _ (hs : List HostBehaviour) (ds : List Behaviour) (one : OneHold ds) where
  tick_alike : (u : BusModel hs ds) (a c : HoldAnswers ds) → Answered hs ds u a → Answered hs ds u c → tick_at hs ds u a ≡ tick_at hs ds u c
  tick_alike u a c first second = rw (ports_alike ds u.ports (signal u.wire (levels_at hs ds u)) a c one first second)

  module _ (masters : ℕ) where
    ticked_alike : (r : Listened hs ds) (a c : HoldAnswers ds) → Answered hs ds r.bus a → Answered hs ds r.bus c →
        listened_after_tick hs ds masters r a ≡ listened_after_tick hs ds masters r c
    ticked_alike r a c first second =
        ap (λ t. record { bus = all_armed hs ds masters t.1; listing = (listing_step r.listing t.0).1 }) (tick_alike r.bus a c first second)

    -- so many ticks have one text and one end; the lines of a tick do not depend on its answers
    ran_alike : (n : ℕ) (u : BusModel hs ds) (text other : List ℕ) (s t : Listened hs ds) → TicksLeadTo hs ds masters n u text s →
        TicksLeadTo hs ds masters n u other t →
        (text ≡ other) × (s ≡ t)
    ran_alike zero u text other s t ran again = (ran.0 ∙ sym again.0, ran.1 ∙ sym again.1)
    ran_alike (suc n) u text other s t (r, before, h, ran, awake, answered, grows, is) (q, earlier, k, again, up, allowed, gets, comes) =
        let both = ran_alike n u before earlier r q ran again in (
          grows ∙ (ap₂ (λ x y. x ++ next_lines hs ds y h) both.0 both.1 ∙ sym gets),
          is
              ∙ (ap (λ x. listened_after_tick hs ds masters x h) both.1
              ∙ (ticked_alike q h k (subst (λ x. Answered hs ds x.bus h) both.1 answered) allowed ∙ sym comes)),
        )

    -- the first n of m ticks, where the bus is awake if there are more
    record First (n m : ℕ) (u : BusModel hs ds) (text : List ℕ) : Type 0 where
      before : List ℕ
      rest : List ℕ
      end : Listened hs ds
      ran : TicksLeadTo hs ds masters n u before end
      whole : before ++ rest ≡ text
      awake : n < m → is_at_rest hs ds end.bus ≡ false

    all_ticks : (n m : ℕ) (u : BusModel hs ds) (text : List ℕ) (s : Listened hs ds) → n ≡ m → TicksLeadTo hs ds masters m u text s →
        First n m u text
    all_ticks n m u text s e ran = record {
      before = text;
      rest = [];
      end = s;
      ran = subst (λ k. TicksLeadTo hs ds masters k u text s) (sym e) ran;
      whole = append-nil text;
      awake = λ less. absurd (omega (arith, less));
    }

    first_ticks : (n m : ℕ) (u : BusModel hs ds) (text : List ℕ) (s : Listened hs ds) → n ≤ m → TicksLeadTo hs ds masters m u text s →
        First n m u text
    first_ticks n zero u text s few ran = all_ticks n zero u text s (omega arith) ran
    first_ticks n (suc m) u text s few (r, before, h, ran, awake, answered, grows, is) =
        ⊎_elim
        (λ less.
        let f = first_ticks n m u before r (omega (arith, less)) ran in record {
          before = f.before;
          rest = f.rest ++ next_lines hs ds r h;
          end = f.end;
          ran = f.ran;
          whole = sym (append_assoc f.before f.rest (next_lines hs ds r h)) ∙ (ap (λ x. x ++ next_lines hs ds r h) f.whole ∙ sym grows);
          awake = λ fewer. f.awake less;
        })
        (λ most.
        ⊎_elim
        (λ here. record {
          before = before;
          rest = next_lines hs ds r h;
          end = r;
          ran = subst (λ k. TicksLeadTo hs ds masters k u before r) (sym here) ran;
          whole = sym grows;
          awake = λ fewer. awake;
        })
        (λ other. all_ticks n (suc m) u text s (omega (arith, most, other)) (r, before, h, ran, awake, answered, grows, is))
        (cases_eq n m))
        (cases_lt n m)

    -- a run that is over after n ticks is followed by no tick
    one_length : (most n m : ℕ) (u : BusModel hs ds) (text other : List ℕ) (s t : Listened hs ds) → TicksLeadTo hs ds masters n u text s →
        (n ≡ most) ⊎ (is_at_rest hs ds s.bus ≡ true) → TicksLeadTo hs ds masters m u other t → m ≤ most → m ≤ n
    one_length most n m u text other s t ran over again few =
        ⊎_elim
        (λ less.
        let f = first_ticks n m u other t (omega (arith, less)) again in
        let same = ran_alike n u text f.before s f.end ran f.ran in
        ⊎_elim
        (λ e. absurd (omega (arith, less, e)))
        (λ rest.
        let awake : is_at_rest hs ds s.bus ≡ false = subst (λ x. is_at_rest hs ds x.bus ≡ false) (sym same.1) (f.awake less) in
        let differ : true ≡ false = sym rest ∙ awake in
        cc)
        over)
        (λ enough. enough)
        (cases_lt n m)

    pub only_run : (most : ℕ) (u : BusModel hs ds) (text : List ℕ) (s : Listened hs ds) → IsRun hs ds masters most u text s →
        IsOnlyRun hs ds masters most u text s
    only_run most u text s run = record {
      run = run;
      only = λ other t again.
          let longer : again.ticks ≤ run.ticks = one_length most _ _ u text other s t run.ran run.over again.ran again.bounded in
          let shorter : run.ticks ≤ again.ticks = one_length most _ _ u other text t s again.ran again.over run.ran run.bounded in
          let same : again.ticks ≡ run.ticks = omega arith in
          ran_alike run.ticks u other text t s (subst (λ n. TicksLeadTo hs ds masters n u other t) same again.ran) run.ran;
    }

    module _ {W : Type 0} (takes : W → List ℕ → W → Type 0) (fails : W → List ℕ → Error → W → Type 0) (most : ℕ)
        (u v : BusModel hs ds) (out after : W)
        (text : List ℕ) (s : Listened hs ds) (run : IsRun hs ds masters most u text s) where
      pub puts_only : PrintsAll hs ds takes masters most u v out after → WritesInCalls takes out text after
      puts_only p = subst (λ x. WritesInCalls takes out x after) ((only_run most u text s run).only p.text p.end p.run).0 p.written

      pub puts_front : (e : Error) → PrintsPart hs ds takes fails masters most u v out after e → PutsPart takes fails text out after e
      puts_front e p =
          let failing = next_lines hs ds p.end p.holds in
          let there = listened_after_tick hs ds masters p.end p.holds in
          let more : TicksLeadTo hs ds masters (suc p.ticks) u (p.text ++ failing) there =
          (p.end, p.text, p.holds, p.ran, p.awake, p.answered, refl, refl) in
          let few : suc p.ticks ≤ run.ticks = one_length most _ _ u text (p.text ++ failing) s there run.ran run.over more
          (omega (arith, p.bounded)) in
          let f = first_ticks (suc p.ticks) run.ticks u text s few run.ran in
          let same = ran_alike (suc p.ticks) u (p.text ++ failing) f.before there f.end more f.ran in record {
            done = p.text;
            failing = failing;
            rest = f.rest;
            between = p.between;
            whole = sym (append_assoc p.text failing f.rest) ∙ (ap (λ x. x ++ f.rest) same.0 ∙ f.whole);
            written = p.written;
            failed = p.failed;
          }
