-- SCL is high: it stays so until the first of the live ones pulls it, and then falls.
use Rattle.std.proofs.Common.{◌≡◌, ℕ, ◌+◌, ◌-◌, ◌≤◌, Bool, true, false, not, ◌||◌, List, [], ◌∷◌, None, Option}
use Rattle.std.proofs.Common.{unwrap_or, refl, ap, ◌∙◌, ap₂, arith}
use Rattle.std.proofs.lemmas.Bool.Decides.{nat_tests}
use Rattle.wire.specs.declared.event.Event.TheVariants.{Fall, SteadyHigh}
use Rattle.master.specs.MasterState.{MasterModel, master_step}
use Rattle.master.specs.Script.{Script}
use Rattle.transfer.specs.Limits.{most_count}
use Rattle.law.proofs.FarSide.{Side, taken}
use Rattle.law.proofs.Machine.BusAsMachine.{any_scl, any_sda, masters_step, asked, levels, after, tick}
use Rattle.law.proofs.Machine.PhasesOfSlot.{lines, shown, holds, Cell, out, live, look, looks, opened, lowered, settled}
use Rattle.law.proofs.Machine.PhasesOfSlot.{some, alive, Times, Timed, goes_on, advance, bus, opened_bus, low_bus}
use Rattle.law.proofs.Machine.PhasesOfSlot.{settled_bus}
use Rattle.law.proofs.Machine.EventForAll.{step_all, turns_live, sda_all, all_of, via}
use Rattle.law.proofs.Machine.Game.{Game}

module _ (G : Game) where
  abbrev W : Script
  W = G.script

  abbrev D : Side
  D = G.side

  opened_one : (m : MasterModel W) (p : W.Cursor) (e : ℕ) →
      (master_step W (opened W e m p) (shown SteadyHigh None false)).0 ≡ opened W (e + 1) m p
  opened_one m p e = grind arith

  opened_fall : (m : MasterModel W) (p : W.Cursor) (e : ℕ) → Times W m →
      (master_step W (opened W e m p) (shown Fall None false)).0 ≡ lowered W 0 m p
  opened_fall m p e t = grind (arith, nat_tests)

  settled_one : (m : MasterModel W) (p : W.Cursor) (e : ℕ) →
      (master_step W (settled W e m p) (shown SteadyHigh None false)).0 ≡ settled W (e + 1) m p
  settled_one m p e = grind arith

  settled_fall : (k : Option Bool) (m : MasterModel W) (p : W.Cursor) (e : ℕ) → Times W m →
      (master_step W (settled W e m p) (shown Fall k false)).0 ≡ look W (lowered W 0) (goes_on W (unwrap_or k true) m p)
  settled_fall k m p e t = grind (arith, nat_tests)

  -- most_count ticks on somebody pulls SCL
  pub opened_ends : (cs : List (Cell W)) (e : ℕ) → Timed W cs → alive W cs ≡ true → most_count ≤ e →
      any_scl W (looks W (opened W e) cs) ≡ true
  opened_ends [] e t a h = cc
  opened_ends (out m ∷ cs) e t a h = opened_ends cs e t.1 a h
  opened_ends (live m p ∷ cs) e t a h = let k = t.0.high_to in grind (arith, nat_tests)

  pub settled_ends : (cs : List (Cell W)) (e : ℕ) → Timed W cs → alive W cs ≡ true → most_count ≤ e →
      any_scl W (looks W (settled W e) cs) ≡ true
  settled_ends [] e t a h = cc
  settled_ends (out m ∷ cs) e t a h = settled_ends cs e t.1 a h
  settled_ends (live m p ∷ cs) e t a h = let k = t.0.high_to in grind (arith, nat_tests)

  opened_sda : (e : ℕ) (cs : List (Cell W)) → any_sda W (looks W (opened W e) cs) ≡ alive W cs
  opened_sda e cs = sda_all W (opened W e) (λ x. true) (λ m p. refl) cs

  settled_sda : (e : ℕ) (cs : List (Cell W)) → any_sda W (looks W (settled W e) cs) ≡ some W holds cs
  settled_sda e cs = sda_all W (settled W e) holds (λ m p. refl) cs

  opened_step : (e : ℕ) (cs : List (Cell W)) → Timed W cs →
      masters_step W (looks W (opened W e) cs) (shown SteadyHigh None false) ≡ looks W (opened W (e + 1)) cs
  opened_step e cs t =
      step_all W (opened W e) (opened W (e + 1)) live (shown SteadyHigh None false) (λ x. Unit {0}) (λ m. refl)
      (λ m p t q. opened_one m p e) cs t (all_of W cs)
      ∙ ap (looks W (opened W (e + 1))) (turns_live W cs)

  settled_step : (e : ℕ) (cs : List (Cell W)) → Timed W cs →
      masters_step W (looks W (settled W e) cs) (shown SteadyHigh None false) ≡ looks W (settled W (e + 1)) cs
  settled_step e cs t =
      step_all W (settled W e) (settled W (e + 1)) live (shown SteadyHigh None false) (λ x. Unit {0}) (λ m. refl)
      (λ m p t q. settled_one m p e) cs t (all_of W cs)
      ∙ ap (looks W (settled W (e + 1))) (turns_live W cs)

  opened_falling : (e : ℕ) (cs : List (Cell W)) → Timed W cs →
      masters_step W (looks W (opened W e) cs) (shown Fall None false) ≡ looks W (lowered W 0) cs
  opened_falling e cs t =
      step_all W (opened W e) (lowered W 0) live (shown Fall None false) (λ x. Unit {0}) (λ m. refl)
      (λ m p t q. opened_fall m p e t) cs t (all_of W cs)
      ∙ ap (looks W (lowered W 0)) (turns_live W cs)

  settled_falling : (k : Option Bool) (e : ℕ) (cs : List (Cell W)) → Timed W cs →
      masters_step W (looks W (settled W e) cs) (shown Fall k false)
      ≡ looks W (lowered W 0) (advance W (unwrap_or k true) cs)
  settled_falling k e cs t =
      step_all W (settled W e) (lowered W 0) (goes_on W (unwrap_or k true)) (shown Fall k false) (λ x. Unit {0}) (λ m. refl)
      (λ m p t q. settled_fall k m p e t) cs t (all_of W cs)

  pub opened_stays : (cs : List (Cell W)) (s : D.S) (e h : ℕ) → Timed W cs → alive W cs ≡ true →
      any_scl W (looks W (opened W e) cs) ≡ false → tick W D (opened_bus W D cs s e) h ≡ opened_bus W D cs s (e + 1)
  opened_stays cs s e h t v k =
      let d = opened_sda e cs in
      let l : levels W D (opened_bus W D cs s e) ≡ lines true false = cc in
      via W D (opened_bus W D cs s e) (opened_bus W D cs s (e + 1)) (lines true false) h l
      (ap (λ ms. bus W D true false true ms s None 0) (opened_step e cs t))

  pub opened_falls : (cs : List (Cell W)) (s : D.S) (e h : ℕ) → Timed W cs → alive W cs ≡ true →
      any_scl W (looks W (opened W e) cs) ≡ true → tick W D (opened_bus W D cs s e) h ≡ low_bus W D false cs s 0 0
  opened_falls cs s e h t v k =
      let d = opened_sda e cs in
      let l : levels W D (opened_bus W D cs s e) ≡ lines false false = cc in
      via W D (opened_bus W D cs s e) (low_bus W D false cs s 0 0) (lines false false) h l
      (ap (λ ms. bus W D false false true ms s None 0) (opened_falling e cs t))

  pub settled_stays : (d : Bool) (k : Option Bool) (cs : List (Cell W)) (s : D.S) (e h : ℕ) → Timed W cs →
      not (some W holds cs || D.pulls s) ≡ d → any_scl W (looks W (settled W e) cs) ≡ false →
      tick W D (settled_bus W D d k cs s e) h ≡ settled_bus W D d k cs s (e + 1)
  settled_stays d k cs s e h t v c =
      via W D (settled_bus W D d k cs s e) (settled_bus W D d k cs s (e + 1)) (lines true d) h l (by_level d)
    where
      l : levels W D (settled_bus W D d k cs s e) ≡ lines true d
      l = let a = settled_sda e cs in cc

      -- the event is read off the level
      by_level : (d : Bool) → after W D (settled_bus W D d k cs s e) (lines true d) h ≡ settled_bus W D d k cs s (e + 1)
      by_level true = ap (λ ms. bus W D true true true ms s k 0) (settled_step e cs t)
      by_level false = ap (λ ms. bus W D true false true ms s k 0) (settled_step e cs t)

  -- the next slot: where a bit counts the side takes it and may hold SCL
  pub settled_falls : (d : Bool) (k : Option Bool) (cs : List (Cell W)) (s : D.S) (e h : ℕ) → Timed W cs →
      not (some W holds cs || D.pulls s) ≡ d → any_scl W (looks W (settled W e) cs) ≡ true →
      tick W D (settled_bus W D d k cs s e) h ≡ low_bus W D d (advance W (unwrap_or k true) cs) (taken D k s) (asked k h) 0
  settled_falls d k cs s e h t v c =
      let a = settled_sda e cs in
      let l : levels W D (settled_bus W D d k cs s e) ≡ lines false d = cc in
      let n : asked k h ≡ asked k h - 0 = omega arith in
      let w = low_bus W D d (advance W (unwrap_or k true) cs) (taken D k s) (asked k h) 0 in
      via W D (settled_bus W D d k cs s e) w (lines false d) h l
      (ap₂ (λ ms j. bus W D false d true ms (taken D k s) None j) (settled_falling k e cs t) n)
