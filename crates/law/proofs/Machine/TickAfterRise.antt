-- The tick after the rise, by the least symbol shown: it stays in, and all others drop out.
use Rattle.std.proofs.Common.{◌≡◌, ℕ, ◌≤◌, Bool, true, false, not, List, Some, None, refl, ap, inl, inr, arith}
use Rattle.std.proofs.lemmas.Bool.Decides.{nat_tests}
use Rattle.wire.specs.declared.event.Event.TheVariants.{Start, Stop, SteadyHigh}
use Rattle.master.specs.declared.symbol.Symbol.{Symbol}
use Rattle.master.specs.MasterState.{MasterModel, master_step}
use Rattle.master.specs.Script.{Script}
use Rattle.master.specs.Symbol.{pulls_sda}
use Rattle.law.proofs.FarSide.{Side}
use Rattle.law.proofs.Machine.BusAsMachine.{any_scl, any_sda, masters_step, verdicts, Bus, levels, tick, tick_verdicts}
use Rattle.law.proofs.Machine.PhasesOfSlot.{lines, shown, rank, pulled, Cell, look, looks, notes, late, idling, fresh}
use Rattle.law.proofs.Machine.PhasesOfSlot.{settled, Every, Times, Timed, least, stays, stay, dones, finished, bus}
use Rattle.law.proofs.Machine.PhasesOfSlot.{free_bus, fresh_bus, settled_bus, some, carries, Shape}
use Rattle.law.proofs.Machine.EventForAll.{rank_top, step_all, verdicts_all, sda_all, scl_none, every, every_two}
use Rattle.law.proofs.Machine.EventForAll.{some_false, least_below, least_some, least_above, via, via_verdicts}
use Rattle.law.proofs.Machine.Game.{Game}

module _ (G : Game) where
  abbrev W : Script
  W = G.script

  abbrev D : Side
  D = G.side

  -- of rank n at the least, and no listen
  abbrev From : ℕ → Symbol → Type 0
  From n x = (n ≤ rank x) × (rank x ≤ 3)

  abbrev Listens : Symbol → Type 0
  Listens x = rank x ≡ 4

  -- one master in the tick after the rise, by the least symbol
  zero_one : (m : MasterModel W) (p : W.Cursor) → Times W m → From 0 (W.symbol p) →
      (master_step W (fresh W false m p) (shown SteadyHigh None false)).0 ≡ look W (settled W 1) (stays W 0 m p)
  zero_one m p t q = let k = q.1 in grind (arith, nat_tests)

  end_one : (m : MasterModel W) (p : W.Cursor) → Times W m → From 1 (W.symbol p) →
      (master_step W (fresh W false m p) (shown Stop None false)).0 ≡ look W (idling W) (dones W m p)
  end_one m p t q = grind (arith, nat_tests)

  restart_one : (m : MasterModel W) (p : W.Cursor) → Times W m → From 2 (W.symbol p) →
      (master_step W (fresh W true m p) (shown Start None false)).0 ≡ look W (settled W 0) (stays W 2 m p)
  restart_one m p t q = grind (arith, nat_tests)

  one_one : (m : MasterModel W) (p : W.Cursor) → Times W m → From 3 (W.symbol p) →
      (master_step W (fresh W true m p) (shown SteadyHigh None false)).0 ≡ look W (settled W 1) (stays W 3 m p)
  one_one m p t q = grind (arith, nat_tests)

  listen_one : (b : Bool) (m : MasterModel W) (p : W.Cursor) → Times W m → rank (W.symbol p) ≡ 4 →
      (master_step W (fresh W b m p) (shown SteadyHigh None false)).0 ≡ look W (settled W 1) (stays W 4 m p)
  listen_one b m p t q = grind (arith, nat_tests)

  fresh_scl : (b : Bool) (cs : List (Cell W)) → any_scl W (looks W (fresh W b) cs) ≡ false
  fresh_scl b cs = scl_none W (fresh W b) (λ m p. grind arith) cs

  fresh_sda : (b : Bool) (cs : List (Cell W)) → any_sda W (looks W (fresh W b) cs) ≡ some W (pulled b) cs
  fresh_sda b cs = sda_all W (fresh W b) (pulled b) (λ m p. grind arith) cs

  zero_verdict : (m : MasterModel W) (p : W.Cursor) → From 0 (W.symbol p) →
      (master_step W (fresh W false m p) (shown SteadyHigh None false)).1 ≡ late W 0 (W.symbol p) p
  zero_verdict m p q = grind (arith, nat_tests)

  end_verdict : (m : MasterModel W) (p : W.Cursor) → From 1 (W.symbol p) →
      (master_step W (fresh W false m p) (shown Stop None false)).1 ≡ late W 1 (W.symbol p) p
  end_verdict m p q = grind (arith, nat_tests)

  restart_verdict : (m : MasterModel W) (p : W.Cursor) → From 2 (W.symbol p) →
      (master_step W (fresh W true m p) (shown Start None false)).1 ≡ late W 2 (W.symbol p) p
  restart_verdict m p q = grind (arith, nat_tests)

  one_verdict : (m : MasterModel W) (p : W.Cursor) → From 3 (W.symbol p) →
      (master_step W (fresh W true m p) (shown SteadyHigh None false)).1 ≡ late W 3 (W.symbol p) p
  one_verdict m p q = grind (arith, nat_tests)

  listen_verdict : (b : Bool) (m : MasterModel W) (p : W.Cursor) → rank (W.symbol p) ≡ 4 →
      (master_step W (fresh W b m p) (shown SteadyHigh None false)).1 ≡ late W 4 (W.symbol p) p
  listen_verdict b m p q = grind (arith, nat_tests)

  -- where the least symbol is no listen, nobody listens
  pub shaped : (n : ℕ) (cs : List (Cell W)) (s : D.S) → n ≤ 3 → least W cs ≡ n → Shape W D cs s →
      Every W (λ x. (n ≤ rank x) × (rank x ≤ 3)) cs × (D.pulls s ≡ false)
  shaped n cs s k e (inl q) =
      let all = every W (λ x. rank x ≡ 4) (λ x. 4 ≤ rank x) (λ x h. omega arith) cs q in
      let a = least_above W 4 cs (omega arith) all in
      absurd (omega arith)
  shaped n cs s k e (inr q) =
      (every_two W (λ x. n ≤ rank x) (λ x. rank x ≤ 3) cs (least_below W n cs (omega arith)) q.0, q.1)

  -- the slot carries b, and by the least rank n the tick after the rise leaves the bus u and says who is lost or told
  abbrev pub Comes : ℕ → Bool → List (Cell W) → D.S → ℕ → Bus W D → Type 0
  Comes n b cs s h u =
      (carries W D cs s ≡ b) × (tick W D (fresh_bus W D b cs s) h ≡ u)
      × (tick_verdicts W D (fresh_bus W D b cs s) ≡ notes W (late W n) cs)

  pub fresh_zero : (cs : List (Cell W)) (s : D.S) (h : ℕ) → Timed W cs → Shape W D cs s → least W cs ≡ 0 →
      Comes 0 false cs s h (settled_bus W D false (Some false) (stay W 0 cs) s 1)
  fresh_zero cs s h t q e =
      let z = shaped 0 cs s (omega arith) e q in
      let low = least_some W pulls_sda 0 (λ x k. grind arith) cs e (omega arith) in
      let a = fresh_scl false cs in
      let d = fresh_sda false cs in
      let g = least_some W (pulled false) 0 (λ x k. grind arith) cs e (omega arith) in
      let seen = shown SteadyHigh None false in
      let r = step_all W (fresh W false) (settled W 1) (stays W 0) seen (From 0) (λ m. refl) zero_one cs t z.0 in
      let v = verdicts_all W (fresh W false) (late W 0) seen (From 0) (λ m. refl) zero_verdict cs z.0 in
      let u = fresh_bus W D false cs s in
      let l : levels W D u ≡ lines true false = cc in (
        cc,
        via W D u (settled_bus W D false (Some false) (stay W 0 cs) s 1) (lines true false) h l
            (ap (λ ms. bus W D true false true ms s (Some false) 0) r),
        via_verdicts W D u (notes W (late W 0) cs) (lines true false) l v,
      )

  -- a Stop: who shows the end is told, and is armed no more
  pub fresh_end : (cs : List (Cell W)) (s : D.S) (h : ℕ) → Timed W cs → Shape W D cs s → least W cs ≡ 1 →
      Comes 1 false cs s h (free_bus W D (finished W cs) (D.finish s))
  fresh_end cs s h t q e =
      let z = shaped 1 cs s (omega arith) e q in
      let low = least_some W pulls_sda 1 (λ x k. grind arith) cs e (omega arith) in
      let a = fresh_scl false cs in
      let d = fresh_sda false cs in
      let none = every W (From 1) (λ x. pulled false x ≡ false) (λ x k. grind arith) cs z.0 in
      let g = some_false W (pulled false) cs none in
      let f = z.1 in
      let seen = shown Stop None false in
      let r = step_all W (fresh W false) (idling W) (dones W) seen (From 1) (λ m. refl) end_one cs t z.0 in
      let v = verdicts_all W (fresh W false) (late W 1) seen (From 1) (λ m. refl) end_verdict cs z.0 in
      let u = fresh_bus W D false cs s in
      let l : levels W D u ≡ lines true true = cc in (
        cc,
        via W D u (free_bus W D (finished W cs) (D.finish s)) (lines true true) h l
            (ap (λ ms. bus W D true true false ms (D.finish s) None 0) r),
        via_verdicts W D u (notes W (late W 1) cs) (lines true true) l v,
      )

  -- a repeated Start
  pub fresh_restart : (cs : List (Cell W)) (s : D.S) (h : ℕ) → Timed W cs → Shape W D cs s → least W cs ≡ 2 →
      Comes 2 true cs s h (settled_bus W D false None (stay W 2 cs) (D.begin s) 0)
  fresh_restart cs s h t q e =
      let z = shaped 2 cs s (omega arith) e q in
      let high = some_false W pulls_sda cs (every W (From 2) (λ x. pulls_sda x ≡ false) (λ x k. grind arith) cs z.0) in
      let a = fresh_scl true cs in
      let d = fresh_sda true cs in
      let g = least_some W (pulled true) 2 (λ x k. grind arith) cs e (omega arith) in
      let f = z.1 in
      let seen = shown Start None false in
      let r = step_all W (fresh W true) (settled W 0) (stays W 2) seen (From 2) (λ m. refl) restart_one cs t z.0 in
      let v = verdicts_all W (fresh W true) (late W 2) seen (From 2) (λ m. refl) restart_verdict cs z.0 in
      let u = fresh_bus W D true cs s in
      let l : levels W D u ≡ lines true false = cc in (
        cc,
        via W D u (settled_bus W D false None (stay W 2 cs) (D.begin s) 0) (lines true false) h l
            (ap (λ ms. bus W D true false true ms (D.begin s) None 0) r),
        via_verdicts W D u (notes W (late W 2) cs) (lines true false) l v,
      )

  pub fresh_one : (cs : List (Cell W)) (s : D.S) (h : ℕ) → Timed W cs → Shape W D cs s → least W cs ≡ 3 →
      Comes 3 true cs s h (settled_bus W D true (Some true) (stay W 3 cs) s 1)
  fresh_one cs s h t q e =
      let z = shaped 3 cs s (omega arith) e q in
      let high = some_false W pulls_sda cs (every W (From 3) (λ x. pulls_sda x ≡ false) (λ x k. grind arith) cs z.0) in
      let a = fresh_scl true cs in
      let d = fresh_sda true cs in
      let none = every W (From 3) (λ x. pulled true x ≡ false) (λ x k. grind arith) cs z.0 in
      let g = some_false W (pulled true) cs none in
      let f = z.1 in
      let seen = shown SteadyHigh None false in
      let r = step_all W (fresh W true) (settled W 1) (stays W 3) seen (From 3) (λ m. refl) one_one cs t z.0 in
      let v = verdicts_all W (fresh W true) (late W 3) seen (From 3) (λ m. refl) one_verdict cs z.0 in
      let u = fresh_bus W D true cs s in
      let l : levels W D u ≡ lines true true = cc in (
        cc,
        via W D u (settled_bus W D true (Some true) (stay W 3 cs) s 1) (lines true true) h l
            (ap (λ ms. bus W D true true true ms s (Some true) 0) r),
        via_verdicts W D u (notes W (late W 3) cs) (lines true true) l v,
      )

  -- all listen: the far side alone says what is carried
  pub fresh_listen : (b : Bool) (cs : List (Cell W)) (s : D.S) (h : ℕ) → Timed W cs → least W cs ≡ 4 →
      not (D.pulls s) ≡ b →
      Comes 4 b cs s h (settled_bus W D b (Some b) (stay W 4 cs) s 1)
  fresh_listen b cs s h t e k = by_level b k
    where
      all : Every W Listens cs
      all = every W (λ x. 4 ≤ rank x) Listens (λ x h. omega (arith, rank_top x)) cs (least_below W 4 cs (omega arith))

      steps : (b : Bool) →
          masters_step W (looks W (fresh W b) cs) (shown SteadyHigh None false) ≡ looks W (settled W 1) (stay W 4 cs)
      steps b =
          step_all W (fresh W b) (settled W 1) (stays W 4) (shown SteadyHigh None false) Listens (λ m. refl)
          (listen_one b) cs t all

      says : (b : Bool) → verdicts W (looks W (fresh W b) cs) (shown SteadyHigh None false) ≡ notes W (late W 4) cs
      says b =
          verdicts_all W (fresh W b) (late W 4) (shown SteadyHigh None false) Listens (λ m. refl) (listen_verdict b) cs all

      carried : (b : Bool) → not (D.pulls s) ≡ b → carries W D cs s ≡ b
      carried b k =
          let high = some_false W pulls_sda cs (every W Listens (λ x. pulls_sda x ≡ false) (λ x k. grind arith) cs all) in
          cc

      level : (b : Bool) → not (D.pulls s) ≡ b → levels W D (fresh_bus W D b cs s) ≡ lines true b
      level b k =
          let a = fresh_scl b cs in
          let d = fresh_sda b cs in
          let g = some_false W (pulled b) cs (every W Listens (λ x. pulled b x ≡ false) (λ x k. grind arith) cs all) in
          cc

      by_level : (b : Bool) → not (D.pulls s) ≡ b → Comes 4 b cs s h (settled_bus W D b (Some b) (stay W 4 cs) s 1)
      by_level true k = (
        carried true k,
        via W D (fresh_bus W D true cs s) (settled_bus W D true (Some true) (stay W 4 cs) s 1) (lines true true) h
            (level true k) (ap (λ ms. bus W D true true true ms s (Some true) 0) (steps true)),
        via_verdicts W D (fresh_bus W D true cs s) (notes W (late W 4) cs) (lines true true) (level true k) (says true),
      )
      by_level false k = (
        carried false k,
        via W D (fresh_bus W D false cs s) (settled_bus W D false (Some false) (stay W 4 cs) s 1) (lines true false) h
            (level false k) (ap (λ ms. bus W D true false true ms s (Some false) 0) (steps false)),
        via_verdicts W D (fresh_bus W D false cs s) (notes W (late W 4) cs) (lines true false) (level false k)
            (says false),
      )
