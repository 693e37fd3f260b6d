-- The verdicts of every tick but the one after the rise: the rise itself says who is lost, all others say nothing.
use Rattle.std.proofs.Common.{◌≡◌, ℕ, Bool, true, false, List, None, Option, refl, arith}
use Rattle.std.proofs.lemmas.Bool.Decides.{nat_tests}
use Rattle.wire.specs.declared.event.Event.TheVariants.{Rise, Fall, Start, SteadyHigh, SteadyLow}
use Rattle.master.specs.declared.arming.Arming.{Arming}
use Rattle.wire.specs.declared.wire.Signal.{Signal}
use Rattle.master.specs.declared.symbol.Symbol.{Symbol}
use Rattle.master.specs.MasterState.{MasterModel, VerdictModel, quiet, master_step, contending_step}
use Rattle.master.specs.Script.{Script}
use Rattle.law.proofs.Machine.BusAsMachine.{verdicts}
use Rattle.law.proofs.Machine.PhasesOfSlot.{shown, Cell, off, looks, notes, no_verdict, early, idling, claimed, opened, lowered, settled}
use Rattle.law.proofs.Machine.EventForAll.{verdicts_all, all_of}

module _ (W : Script) where
  -- where a verdict is the same whatever the other symbols are
  each_alone : (f : MasterModel W → W.Cursor → MasterModel W) (k : Symbol → W.Cursor → VerdictModel W) (s : Signal) →
      ((m : MasterModel W) → (master_step W (off W m) s).1 ≡ quiet) →
      ((m : MasterModel W) (p : W.Cursor) → (master_step W (f m p) s).1 ≡ k (W.symbol p) p) →
      (cs : List (Cell W)) → verdicts W (looks W f cs) s ≡ notes W k cs
  each_alone f k s still each cs = verdicts_all W f k s (λ x. Unit {0}) still (λ m p q. each m p) cs (all_of W cs)

  pub lowered_quiet : (e : ℕ) (cs : List (Cell W)) →
      verdicts W (looks W (lowered W e) cs) (shown SteadyLow None false) ≡ notes W (no_verdict W) cs
  lowered_quiet e cs = each_alone (lowered W e) (no_verdict W) (shown SteadyLow None false) (λ m. refl) (λ m p. refl) cs

  pub rising_verdicts : (e : ℕ) (b : Bool) (cs : List (Cell W)) →
      verdicts W (looks W (lowered W e) cs) (shown (Rise b) None false) ≡ notes W (early W b) cs
  rising_verdicts e b cs =
      each_alone (lowered W e) (early W b) (shown (Rise b) None false) (λ m. refl) (λ m p. grind (arith, nat_tests)) cs

  pub settled_quiet : (e : ℕ) (cs : List (Cell W)) →
      verdicts W (looks W (settled W e) cs) (shown SteadyHigh None false) ≡ notes W (no_verdict W) cs
  settled_quiet e cs = each_alone (settled W e) (no_verdict W) (shown SteadyHigh None false) (λ m. refl) (λ m p. refl) cs

  pub settled_fall_quiet : (k : Option Bool) (e : ℕ) (cs : List (Cell W)) →
      verdicts W (looks W (settled W e) cs) (shown Fall k false) ≡ notes W (no_verdict W) cs
  settled_fall_quiet k e cs = each_alone (settled W e) (no_verdict W) (shown Fall k false) (λ m. refl) (λ m p. refl) cs

  pub opened_quiet : (e : ℕ) (cs : List (Cell W)) →
      verdicts W (looks W (opened W e) cs) (shown SteadyHigh None false) ≡ notes W (no_verdict W) cs
  opened_quiet e cs = each_alone (opened W e) (no_verdict W) (shown SteadyHigh None false) (λ m. refl) (λ m p. refl) cs

  pub opened_fall_quiet : (e : ℕ) (cs : List (Cell W)) →
      verdicts W (looks W (opened W e) cs) (shown Fall None false) ≡ notes W (no_verdict W) cs
  opened_fall_quiet e cs = each_alone (opened W e) (no_verdict W) (shown Fall None false) (λ m. refl) (λ m p. refl) cs

  pub claimed_quiet : (cs : List (Cell W)) →
      verdicts W (looks W (claimed W) cs) (shown Start None false) ≡ notes W (no_verdict W) cs
  claimed_quiet cs = each_alone (claimed W) (no_verdict W) (shown Start None false) (λ m. refl) (λ m p. refl) cs

  idle_one : (m : MasterModel W) (a : Arming W.Task) → (contending_step W m a).1 ≡ quiet
  idle_one m a = grind arith

  pub idle_quiet : (cs : List (Cell W)) →
      verdicts W (looks W (idling W) cs) (shown SteadyHigh None true) ≡ notes W (no_verdict W) cs
  idle_quiet cs =
      each_alone (idling W) (no_verdict W) (shown SteadyHigh None true)
      (λ m. idle_one (off W m) m.arming) (λ m p. idle_one (off W m) m.arming) cs
