-- A run over devices that never hold prints one text.
use Rattle.std.proofs.Common.{◌≡◌, ℕ, zero, suc, ◌+◌, ◌-◌, ◌≤◌, ◌++◌, ◌⊎◌, true, false, List, [], refl, sym, ap, subst}
use Rattle.std.proofs.Common.{◌∙◌, ⊎_elim, append-nil, append_assoc, arith}
use Rattle.std.specs.Fmt.{WritesInCalls}
use Rattle.std.specs.declared.io.Error.{Error}
use Rattle.device.specs.Device.{Behaviour}
use Rattle.host.specs.Host.{HostBehaviour}
use Rattle.law.proofs.WithoutHolds.{tick_unheld}
use Rattle.law.specs.BusModel.{BusModel, HoldAnswers, NeverHold, Answered, no_holds, is_at_rest}
use Rattle.listing.specs.Listing.{listing_step}
use Rattle.support.specs.ArmAll.{all_armed}
use Rattle.support.specs.Output.{PutsPart}
use Rattle.support.specs.PrintedRun.{Listened, listened_start, next_lines, listened_after_tick, TicksLeadTo}
use Rattle.support.specs.PrintedRun.{unheld_lines, PrintsAll, PrintsPart}

module _ (hs : List HostBehaviour) (ds : List Behaviour) (never : NeverHold ds) (masters : ℕ) where
  ticked_unheld : (r : Listened hs ds) (h : HoldAnswers ds) → Answered hs ds r.bus h →
      listened_after_tick hs ds masters r h ≡ listened_after_tick hs ds masters r (no_holds ds)
  ticked_unheld r h answered =
      ap (λ t. record { bus = all_armed hs ds masters t.1; listing = (listing_step r.listing t.0).1 })
      (tick_unheld hs ds r.bus h never answered)

  at_rest : (n : ℕ) (s : Listened hs ds) → is_at_rest hs ds s.bus ≡ true → unheld_lines hs ds masters n s ≡ []
  unfolding unheld_lines
  at_rest zero s rest = refl
  at_rest (suc n) s rest = rw rest refl

  awake : (n : ℕ) (s : Listened hs ds) → is_at_rest hs ds s.bus ≡ false →
      unheld_lines hs ds masters (suc n) s ≡ next_lines hs ds s (no_holds ds) ++ unheld_lines hs ds masters n
      (listened_after_tick hs ds masters s (no_holds ds))
  unfolding unheld_lines
  awake n s on = rw on refl

  -- the lines so far, and those of k more ticks at most
  all : (n k m : ℕ) (u : BusModel hs ds) (text : List ℕ) (s : Listened hs ds) → n + k ≡ m → TicksLeadTo hs ds masters n u text s →
      text ++ unheld_lines hs ds masters k s ≡ unheld_lines hs ds masters m (listened_start hs ds masters u)
  all zero k m u text s e (none, same) = let here : k ≡ m = omega arith in rw (none, same, here) refl
  all (suc n) k m u text s e (r, before, h, ran, on, answered, grows, same) =
      rw (grows, same ∙ ticked_unheld r h answered, append_assoc)
      (ap (λ x. before ++ x) (sym (awake k r on)) ∙ all n (suc k) m u before r (omega arith) ran)

  none_left : (s : Listened hs ds) → unheld_lines hs ds masters zero s ≡ []
  unfolding unheld_lines
  none_left s = refl

  over_here : (n k m : ℕ) (u : BusModel hs ds) (text : List ℕ) (s : Listened hs ds) → n + k ≡ m →
      TicksLeadTo hs ds masters n u text s →
      unheld_lines hs ds masters k s ≡ [] → text ≡ unheld_lines hs ds masters m (listened_start hs ds masters u)
  over_here n k m u text s e ran none = sym (append-nil text) ∙ ap (λ x. text ++ x) (sym none) ∙ all n k m u text s e ran

  pub run_unheld : (n most : ℕ) (u : BusModel hs ds) (text : List ℕ) (s : Listened hs ds) → n ≤ most →
      TicksLeadTo hs ds masters n u text s →
      (n ≡ most) ⊎ (is_at_rest hs ds s.bus ≡ true) → text ≡ unheld_lines hs ds masters most (listened_start hs ds masters u)
  run_unheld n most u text s bounded ran over =
      ⊎_elim
      (λ e. over_here n 0 most u text s (omega arith) ran (none_left s))
      (λ rest. over_here n (most - n) most u text s (omega arith) ran (at_rest (most - n) s rest))
      over

  module _ {W : Type 0} (takes : W → List ℕ → W → Type 0) (fails : W → List ℕ → Error → W → Type 0) (most : ℕ)
      (u v : BusModel hs ds) (out after : W) where
    pub puts_all : PrintsAll hs ds takes masters most u v out after →
        WritesInCalls takes out (unheld_lines hs ds masters most (listened_start hs ds masters u)) after
    puts_all p = subst (λ text. WritesInCalls takes out text after)
        (run_unheld p.run.ticks most u p.text p.end p.run.bounded p.run.ran p.run.over) p.written

    pub puts_part : (e : Error) → PrintsPart hs ds takes fails masters most u v out after e →
        PutsPart takes fails (unheld_lines hs ds masters most (listened_start hs ds masters u)) out after e
    puts_part e p =
        let k = most - suc p.ticks in record {
          done = p.text;
          failing = next_lines hs ds p.end p.holds;
          rest = unheld_lines hs ds masters k (listened_after_tick hs ds masters p.end (no_holds ds));
          between = p.between;
          whole = ap (λ x. p.text ++ x) (sym (awake k p.end p.awake))
              ∙ all p.ticks (suc k) most u p.text p.end (omega (arith, p.bounded)) p.ran;
          written = p.written;
          failed = p.failed;
        }
