-- A free bus: the armed masters claim it, and the turn starts.
use Rattle.std.proofs.Common.{◌≡◌, ℕ, true, false, List, [], ◌∷◌, None, refl, ap, arith}
use Rattle.wire.specs.declared.event.Event.TheVariants.{Start, SteadyHigh}
use Rattle.master.specs.Script.{Script}
use Rattle.law.proofs.FarSide.{Side}
use Rattle.law.proofs.Machine.BusAsMachine.{any_sda, masters_step, levels, tick}
use Rattle.law.proofs.Machine.PhasesOfSlot.{lines, shown, Cell, looks, idling, claimed, opened, alive, Timed, claim_all}
use Rattle.law.proofs.Machine.PhasesOfSlot.{bus, free_bus, claimed_bus, opened_bus}
use Rattle.law.proofs.Machine.EventForAll.{sda_all, scl_none, via}
use Rattle.law.proofs.Machine.Game.{Game}

module _ (G : Game) where
  abbrev W : Script
  W = G.script

  abbrev D : Side
  D = G.side

  claiming : (cs : List (Cell W)) →
      masters_step W (looks W (idling W) cs) (shown SteadyHigh None true) ≡ looks W (claimed W) (claim_all W cs)
  claiming [] = refl
  claiming (c ∷ cs) = grind (arith, claiming cs)

  -- where nobody claims, nothing has changed
  unclaimed : (cs : List (Cell W)) → alive W cs ≡ false → looks W (claimed W) cs ≡ looks W (idling W) cs
  unclaimed [] h = refl
  unclaimed (c ∷ cs) h = grind (arith, unclaimed cs)

  starting : (cs : List (Cell W)) → Timed W cs →
      masters_step W (looks W (claimed W) cs) (shown Start None false) ≡ looks W (opened W 0) cs
  starting [] t = refl
  starting (c ∷ cs) t = grind (arith, starting cs)

  idle_sda : (cs : List (Cell W)) → any_sda W (looks W (idling W) cs) ≡ false
  idle_sda [] = refl
  idle_sda (c ∷ cs) = grind (arith, idle_sda cs)

  pub free_claims : (cs : List (Cell W)) (s : D.S) (h : ℕ) → D.pulls s ≡ false →
      tick W D (free_bus W D cs s) h ≡ claimed_bus W D (claim_all W cs) s
  free_claims cs s h q =
      let a = scl_none W (idling W) (λ m p. refl) cs in
      let d = idle_sda cs in
      let l : levels W D (free_bus W D cs s) ≡ lines true true = cc in
      via W D (free_bus W D cs s) (claimed_bus W D (claim_all W cs) s) (lines true true) h l
      (ap (λ ms. bus W D true true false ms s None 0) (claiming cs))

  pub free_stays : (cs : List (Cell W)) (s : D.S) → alive W cs ≡ false → claimed_bus W D cs s ≡ free_bus W D cs s
  free_stays cs s a = ap (λ ms. bus W D true true false ms s None 0) (unclaimed cs a)

  pub claimed_starts : (cs : List (Cell W)) (s : D.S) (h : ℕ) → Timed W cs → alive W cs ≡ true →
      tick W D (claimed_bus W D cs s) h ≡ opened_bus W D cs (D.begin s) 0
  claimed_starts cs s h t v =
      let a = scl_none W (claimed W) (λ m p. refl) cs in
      let d = sda_all W (claimed W) (λ x. true) (λ m p. refl) cs in
      let l : levels W D (claimed_bus W D cs s) ≡ lines true false = cc in
      via W D (claimed_bus W D cs s) (opened_bus W D cs (D.begin s) 0) (lines true false) h l
      (ap (λ ms. bus W D true false true ms (D.begin s) None 0) (starting cs t))
