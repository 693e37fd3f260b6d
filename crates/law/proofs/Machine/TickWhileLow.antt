-- SCL is low: it stays so while somebody holds it, and then rises.
use Rattle.std.proofs.Common.{◌≡◌, ℕ, ◌+◌, ◌-◌, ◌≤◌, Bool, true, false, ◌||◌, List, [], ◌∷◌, Some, None, refl, ap, ◌∙◌, ap₂, arith}
use Rattle.std.proofs.lemmas.Bool.Decides.{nat_tests}
use Rattle.wire.specs.declared.event.Event.TheVariants.{Rise, SteadyLow}
use Rattle.master.specs.MasterState.{MasterModel, master_step}
use Rattle.master.specs.Script.{Script}
use Rattle.master.specs.Symbol.{pulls_sda}
use Rattle.transfer.specs.Limits.{most_count}
use Rattle.law.proofs.FarSide.{Side}
use Rattle.law.proofs.Machine.BusAsMachine.{any_scl, any_sda, masters_step, levels, tick}
use Rattle.law.proofs.Machine.PhasesOfSlot.{lines, shown, Cell, out, live, off, looks, lowered, released, fresh, some}
use Rattle.law.proofs.Machine.PhasesOfSlot.{Timed, carries, held, bus, low_bus, fresh_bus}
use Rattle.law.proofs.Machine.EventForAll.{sda_all, via}
use Rattle.law.proofs.Machine.Game.{Game}

module _ (G : Game) where
  abbrev W : Script
  W = G.script

  abbrev D : Side
  D = G.side

  lowered_one : (m : MasterModel W) (p : W.Cursor) (e : ℕ) →
      (master_step W (lowered W e m p) (shown SteadyLow None false)).0 ≡ lowered W (e + 1) m p
  lowered_one m p e = grind arith

  lowered_step : (cs : List (Cell W)) (e : ℕ) →
      masters_step W (looks W (lowered W e) cs) (shown SteadyLow None false) ≡ looks W (lowered W (e + 1)) cs
  lowered_step [] e = refl
  lowered_step (out m ∷ cs) e = ap (λ l. off W m ∷ l) (lowered_step cs e)
  lowered_step (live m p ∷ cs) e = ap₂ ◌∷◌ (lowered_one m p e) (lowered_step cs e)

  lowered_sda : (cs : List (Cell W)) (e : ℕ) → any_sda W (looks W (lowered W e) cs) ≡ some W pulls_sda cs
  lowered_sda cs e = sda_all W (lowered W e) pulls_sda (λ m p. refl) cs

  released_one : (m : MasterModel W) (p : W.Cursor) (e : ℕ) → (lowered W e m p).pulls.scl ≡ false →
      lowered W e m p ≡ released W m p
  released_one m p e h = grind arith

  released_all : (cs : List (Cell W)) (e : ℕ) → any_scl W (looks W (lowered W e) cs) ≡ false →
      looks W (lowered W e) cs ≡ looks W (released W) cs
  released_all [] e h = refl
  released_all (out m ∷ cs) e h = ap (λ l. off W m ∷ l) (released_all cs e h)
  released_all (live m p ∷ cs) e h =
      let a : (lowered W e m p).pulls.scl ≡ false = grind arith in
      let b : any_scl W (looks W (lowered W e) cs) ≡ false = grind arith in
      ap₂ ◌∷◌ (released_one m p e a) (released_all cs e b)

  rising : (cs : List (Cell W)) (b : Bool) →
      masters_step W (looks W (released W) cs) (shown (Rise b) None false) ≡ looks W (fresh W b) cs
  rising [] b = refl
  rising (c ∷ cs) b = grind (arith, rising cs)

  -- most_count ticks on nobody pulls
  pub low_ends : (cs : List (Cell W)) (e : ℕ) → Timed W cs → most_count ≤ e →
      any_scl W (looks W (lowered W e) cs) ≡ false
  low_ends [] e t h = refl
  low_ends (out m ∷ cs) e t h = low_ends cs e t.1 h
  low_ends (live m p ∷ cs) e t h =
      let a : (lowered W e m p).pulls.scl ≡ false = grind (arith, nat_tests, t.0.low_to) in
      ap₂ ◌||◌ a (low_ends cs e t.1 h)

  pub low_stays : (d : Bool) (cs : List (Cell W)) (s : D.S) (n e h : ℕ) → held W D cs n e ≡ true →
      tick W D (low_bus W D d cs s n e) h ≡ low_bus W D (carries W D cs s) cs s n (e + 1)
  low_stays d cs s n e h k =
      let b = lowered_sda cs e in
      let c : n - e - 1 ≡ n - (e + 1) = omega arith in
      let x = carries W D cs s in
      let l : levels W D (low_bus W D d cs s n e) ≡ lines false x = cc in
      via W D (low_bus W D d cs s n e) (low_bus W D x cs s n (e + 1)) (lines false x) h l
      (ap₂ (λ ms j. bus W D false x true ms s None j) (lowered_step cs e) c)

  pub low_rises : (d : Bool) (cs : List (Cell W)) (s : D.S) (n e h : ℕ) → held W D cs n e ≡ false →
      tick W D (low_bus W D d cs s n e) h ≡ fresh_bus W D (carries W D cs s) cs s
  low_rises d cs s n e h k =
      let a : any_scl W (looks W (lowered W e) cs) ≡ false = grind arith in
      let c : n - e ≡ 0 = grind (arith, nat_tests) in
      let b = lowered_sda cs e in
      let x = carries W D cs s in
      let l : levels W D (low_bus W D d cs s n e) ≡ lines true x = cc in
      via W D (low_bus W D d cs s n e) (fresh_bus W D x cs s) (lines true x) h l
      (ap₂ (λ ms j. bus W D true x true (masters_step W ms (shown (Rise x) None false)) s (Some x) j)
      (released_all cs e a) c
      ∙ ap (λ ms. bus W D true x true ms s (Some x) 0) (rising cs x))
