-- One event for a whole list of masters, from what it makes of one; and what holds of the least rank shown.
use Rattle.std.proofs.Common.{◌≡◌, ℕ, ◌≤◌, Bool, true, false, List, [], ◌∷◌, refl, arith}
use Rattle.master.specs.declared.symbol.Symbol.{Symbol}
use Rattle.wire.specs.declared.levels.Levels.{Levels}
use Rattle.wire.specs.declared.wire.Signal.{Signal}
use Rattle.master.specs.MasterState.{MasterModel, VerdictModel, quiet, master_step}
use Rattle.master.specs.Script.{Script}
use Rattle.law.proofs.FarSide.{Side}
use Rattle.law.proofs.Machine.BusAsMachine.{any_scl, any_sda, masters_step, verdicts, Bus, levels, after, tick, said, tick_verdicts}
use Rattle.law.proofs.Machine.PhasesOfSlot.{rank, Cell, live, off, look, looks, turns, notes, some, Every, Times, Timed, least}

pub rank_top : (x : Symbol) → rank x ≤ 4
rank_top x = grind arith

module _ (W : Script) where
  pub step_all : (f g : MasterModel W → W.Cursor → MasterModel W) (t : MasterModel W → W.Cursor → Cell W)
      (s : Signal) (Q : Symbol → Type 0)
      (still : (m : MasterModel W) → (master_step W (off W m) s).0 ≡ off W m)
      (each : (m : MasterModel W) (p : W.Cursor) → Times W m → Q (W.symbol p) →
      (master_step W (f m p) s).0 ≡ look W g (t m p))
      (cs : List (Cell W)) → Timed W cs → Every W Q cs → masters_step W (looks W f cs) s ≡ looks W g (turns W t cs)
  step_all f g t s Q still each [] h q = refl
  step_all f g t s Q still each (c ∷ cs) h q = grind (arith, step_all f g t s Q still each cs)

  pub verdicts_all : (f : MasterModel W → W.Cursor → MasterModel W) (k : Symbol → W.Cursor → VerdictModel W)
      (s : Signal) (Q : Symbol → Type 0)
      (still : (m : MasterModel W) → (master_step W (off W m) s).1 ≡ quiet)
      (each : (m : MasterModel W) (p : W.Cursor) → Q (W.symbol p) → (master_step W (f m p) s).1 ≡ k (W.symbol p) p)
      (cs : List (Cell W)) → Every W Q cs → verdicts W (looks W f cs) s ≡ notes W k cs
  verdicts_all f k s Q still each [] q = refl
  verdicts_all f k s Q still each (c ∷ cs) q = grind (arith, verdicts_all f k s Q still each cs)

  pub turns_live : (cs : List (Cell W)) → turns W live cs ≡ cs
  turns_live [] = refl
  turns_live (c ∷ cs) = grind (arith, turns_live cs)

  pub sda_all : (f : MasterModel W → W.Cursor → MasterModel W) (t : Symbol → Bool)
      (each : (m : MasterModel W) (p : W.Cursor) → (f m p).pulls.sda ≡ t (W.symbol p))
      (cs : List (Cell W)) → any_sda W (looks W f cs) ≡ some W t cs
  sda_all f t each [] = refl
  sda_all f t each (c ∷ cs) = grind (arith, sda_all f t each cs)

  pub scl_none : (f : MasterModel W → W.Cursor → MasterModel W)
      (each : (m : MasterModel W) (p : W.Cursor) → (f m p).pulls.scl ≡ false)
      (cs : List (Cell W)) → any_scl W (looks W f cs) ≡ false
  scl_none f each [] = refl
  scl_none f each (c ∷ cs) = grind (arith, scl_none f each cs)

  pub all_of : (cs : List (Cell W)) → Every W (λ x. Unit {0}) cs
  all_of [] = tt
  all_of (c ∷ cs) = grind (arith, all_of cs)

  pub every : (Q R : Symbol → Type 0) → ((x : Symbol) → Q x → R x) → (cs : List (Cell W)) → Every W Q cs → Every W R cs
  every Q R f [] q = tt
  every Q R f (c ∷ cs) q = grind (arith, every Q R f cs)

  pub every_two : (Q R : Symbol → Type 0) → (cs : List (Cell W)) → Every W Q cs → Every W R cs →
      Every W (λ x. Q x × R x) cs
  every_two Q R [] q r = tt
  every_two Q R (c ∷ cs) q r = grind (arith, every_two Q R cs)

  pub some_false : (t : Symbol → Bool) (cs : List (Cell W)) → Every W (λ x. t x ≡ false) cs → some W t cs ≡ false
  some_false t [] q = refl
  some_false t (c ∷ cs) q = grind (arith, some_false t cs)

  -- the least rank is below each, and somebody shows it
  pub least_below : (n : ℕ) (cs : List (Cell W)) → n ≤ least W cs → Every W (λ x. n ≤ rank x) cs
  least_below n [] h = tt
  least_below n (c ∷ cs) h = grind (arith, least_below n cs)

  pub least_some : (t : Symbol → Bool) (n : ℕ) (each : (x : Symbol) → rank x ≡ n → t x ≡ true) (cs : List (Cell W)) →
      least W cs ≡ n → n ≤ 4 → some W t cs ≡ true
  least_some t n each [] h k = absurd (omega arith)
  least_some t n each (c ∷ cs) h k = grind (arith, least_some t n each cs)

  pub least_above : (n : ℕ) (cs : List (Cell W)) → n ≤ 5 → Every W (λ x. n ≤ rank x) cs → n ≤ least W cs
  least_above n [] h q = h
  least_above n (c ∷ cs) h q = grind (arith, least_above n cs)

module _ (W : Script) (D : Side) where
  -- a tick, by the levels that it finds
  pub via : (u w : Bus W D) (v : Levels) (h : ℕ) → levels W D u ≡ v → after W D u v h ≡ w → tick W D u h ≡ w
  via u w v h k e = grind arith

  pub via_verdicts : (u : Bus W D) (ks : List (VerdictModel W)) (v : Levels) → levels W D u ≡ v → said W D u v ≡ ks →
      tick_verdicts W D u ≡ ks
  via_verdicts u ks v h k = grind arith
