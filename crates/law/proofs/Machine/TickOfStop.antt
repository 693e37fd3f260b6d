-- The tick of the stop, by the cells: who is told, who stays armed, and that these are whom the book tells.
use Rattle.std.proofs.Common.{◌≡◌, ℕ, zero, suc, ◌+◌, ◌≤◌, min, Bool, true, false, cond, not, ◌&&◌, eqb, ◌⊎◌, List, [], ◌∷◌, is_some, Some}
use Rattle.std.proofs.Common.{None, Option, sym, refl, ap, ◌∙◌, ap₂, arith}
use Rattle.std.specs.Prelude.{slice_index_or}
use Rattle.std.proofs.lemmas.Bool.{eqb-true, eq-eqb, ne_eqb}
use Rattle.master.specs.declared.symbol.Symbol.{Symbol}
use Rattle.master.specs.Script.{Script}
use Rattle.law.proofs.FarSide.{Side, heard}
use Rattle.law.proofs.Machine.PhasesOfSlot.{rank, early_lost, Cell, out, live, notes, late, cursors, Every, least, finished}
use Rattle.law.proofs.Machine.Arbitration.{at, lead, keep}
use Rattle.law.proofs.Machine.BookOfMachine.{Tasks, count, disarm_one, disarm, tellings, begins, task_outcome, leader, wins, outcomes}
use Rattle.law.proofs.Machine.LeadingSymbol.{rank_inj}
use Rattle.law.proofs.Machine.CellsOfTurn.{cell_armeds, Holding, Within, marked}
use Rattle.law.proofs.Machine.SlotsOfTurn.{Run}
use Rattle.law.proofs.Machine.SlotsTellLeast.{stop_wins, stop_names}
use Rattle.law.proofs.Machine.Game.{Game}

count_one : {A B : Type 0} (v : Bool) (a : Option A) (o : B) (l os : List (Option A)) (ts : List (Option B)) → is_some a ≡ true →
    count os + count ts ≡ count l →
    count (disarm_one a (cond v (Some o) None) ∷ os) + count (cond v (Some o) None ∷ ts) ≡ count (a ∷ l)
count_one v a o l os ts h k = grind arith

told_one : {B : Type 0} (v : Bool) (o : B) (ts : List (Option B)) → (v ≡ true) ⊎ (1 ≤ count ts) → 1 ≤ count (cond v (Some o) None ∷ ts)
told_one v o ts h = grind arith

told_is : {B : Type 0} (v : Bool) (o : B) → is_some (cond v (Some o) None) ≡ v
told_is true o = refl
told_is false o = refl

least_one : (a b : ℕ) → min a b ≡ 1 → (a ≡ 1) ⊎ (b ≡ 1)
least_one a b h = grind arith

-- who is armed after an outcome was told was so before, and was told nothing
disarmed_one : {A B : Type 0} (o : Option A) (t : Option B) (p : A) → disarm_one o t ≡ Some p → (o ≡ Some p) × (t ≡ None)
disarmed_one o t p h = grind arith

pub disarmed : {A B : Type 0} (os : List (Option A)) (ts : List (Option B)) (j : ℕ) (p : A) → at (disarm os ts) j ≡ Some p →
    (at os j ≡ Some p) × (at ts j ≡ None)
disarmed [] ts j p e = cc
disarmed (o ∷ os) [] j p e = (e, refl)
disarmed (o ∷ os) (t ∷ ts) zero p e = disarmed_one o t p e
disarmed (o ∷ os) (t ∷ ts) (suc j) p e = disarmed os ts j p e

module _ (W : Script) where
  abbrev pub names : Option W.Cursor → Option W.Outcome
  names None = None
  names (Some p) = cond (eqb (rank (W.symbol p)) 1) (Some (W.outcome p)) None

  -- the outcome of each live one that shows the stop
  abbrev pub ending : List (Option W.Cursor) → List (Option W.Outcome)
  ending [] = []
  ending (o ∷ os) = names o ∷ ending os

  pub tells_end : (cs : List (Cell W)) → tellings W (notes W (late W 1) cs) ≡ ending (cursors W cs)
  tells_end [] = refl
  tells_end (c ∷ cs) = grind (arith, tells_end cs)

  pub armeds_finished : (cs : List (Cell W)) → cell_armeds W (finished W cs) ≡ disarm (cell_armeds W cs) (ending (cursors W cs))
  armeds_finished [] = refl
  armeds_finished (c ∷ cs) = grind (arith, armeds_finished cs)

  pub counts_end : (cs : List (Cell W)) → Holding W cs →
      count (disarm (cell_armeds W cs) (ending (cursors W cs))) + count (ending (cursors W cs)) ≡ count (cell_armeds W cs)
  counts_end [] h = omega arith
  counts_end (c ∷ cs) h = grind (arith, counts_end cs)

  -- somebody is told
  pub somebody_told : (cs : List (Cell W)) → least W cs ≡ 1 → 1 ≤ count (ending (cursors W cs))
  somebody_told [] h = absurd (omega arith)
  somebody_told (out m ∷ cs) h = somebody_told cs h
  somebody_told (live m p ∷ cs) h = go (least_one (rank (W.symbol p)) (least W cs) h) (somebody_told cs)
    where
      go : (rank (W.symbol p) ≡ 1) ⊎ (least W cs ≡ 1) → (least W cs ≡ 1 → 1 ≤ count (ending (cursors W cs))) →
          1 ≤ count (ending (cursors W (live m p ∷ cs)))
      go h k = grind arith

  -- told are the contenders never marked
  told_unmarked : (a : Option W.Task) (p : W.Cursor) (x : Symbol) → is_some a ≡ true → (1 ≤ rank x) × (rank x ≤ 3) →
      is_some (cond (eqb (rank x) 1) (Some (W.outcome p)) None) ≡ not (is_some a && early_lost false x)
  told_unmarked a p x h k = grind arith

  pub tells_unmarked : (l : Tasks W) (cs : List (Cell W)) → Within W l cs → Every W (λ x. (1 ≤ rank x) × (rank x ≤ 3)) cs →
      (i : ℕ) (q : W.Task) → at l i ≡ Some q →
      is_some (at (ending (cursors W cs)) i) ≡ not (slice_index_or (marked W (early_lost false) l cs) i false)
  tells_unmarked [] cs h e i q a = cc
  tells_unmarked (o ∷ l) [] h e i q a = absurd h
  tells_unmarked (o ∷ l) (out m ∷ cs) h e zero q a = let z : is_some o ≡ true = ap is_some a in ap (λ v. not (v && true)) (sym z)
  tells_unmarked (o ∷ l) (live m p ∷ cs) h e zero q a = told_unmarked o p (W.symbol p) h.0 e.0
  tells_unmarked (o ∷ l) (c ∷ cs) h e (suc i) q a = grind (arith, tells_unmarked l cs)

module _ (G : Game) where
  abbrev W : Script
  W = G.script

  abbrev D : Side
  D = G.side

  -- one by one
  outcomes_are : (q : Option W.Task) (s : D.S) (l : Tasks W) (cs : List (Cell W)) → Within W l cs →
      ((i : ℕ) (p : W.Task) → at l i ≡ Some p →
      names W (at (cursors W cs) i) ≡ cond (wins G p q s) (Some (task_outcome G p s)) None) →
      ending W (cursors W cs) ≡ outcomes G l q s
  outcomes_are q s [] [] h each = refl
  outcomes_are q s [] (c ∷ cs) h each = absurd h
  outcomes_are q s (o ∷ l) [] h each = absurd h
  outcomes_are q s (None ∷ l) (out m ∷ cs) h each = ap (λ z. None ∷ z) (outcomes_are q s l cs h (λ i p e. each (suc i) p e))
  outcomes_are q s (None ∷ l) (live m p ∷ cs) h each = let y = h.0 in cc
  outcomes_are q s (Some p ∷ l) (out m ∷ cs) h each = ap₂ ◌∷◌ (each 0 p refl) (outcomes_are q s l cs h (λ i p e. each (suc i) p e))
  outcomes_are q s (Some p ∷ l) (live m r ∷ cs) h each = ap₂ ◌∷◌ (each 0 p refl) (outcomes_are q s l cs h.1 (λ i p e. each (suc i) p e))

  pub outcome_at : (q : Option W.Task) (s : D.S) (l : Tasks W) (i : ℕ) (p : W.Task) → at l i ≡ Some p →
      is_some (at (outcomes G l q s) i) ≡ wins G p q s
  outcome_at q s [] i p e = cc
  outcome_at q s (None ∷ l) zero p e = cc
  outcome_at q s (Some r ∷ l) zero p e = let z : r ≡ p = cc in told_is (wins G r q s) (task_outcome G r s)
      ∙ ap (λ x. wins G x q s) z
  outcome_at q s (o ∷ l) (suc i) p e = grind (arith, outcome_at q s l)

  pub told_at_stop : (l : Tasks W) {s0 : D.S} {k r : ℕ} (cs : List (Cell W)) {s : D.S} →
      Run G (begins W l) s0 k r (cursors W cs) s → rank (lead W (cursors W cs)) ≡ 1 → Within W l cs →
      ending W (cursors W cs) ≡ outcomes G l (leader G l s0) s0
  told_at_stop l {s0} {k} {r} cs {s} run stops h =
      outcomes_are (leader G l s0) s0 l cs h (λ i q a. each i q a (at (cursors W cs) i) refl)
    where
      each : (i : ℕ) (q : W.Task) → at l i ≡ Some q → (o : Option W.Cursor) → at (cursors W cs) i ≡ o →
          names W o ≡ cond (wins G q (leader G l s0) s0) (Some (task_outcome G q s0)) None
      each i q a o b = go o b (stop_wins G l run stops i q a
          ∙ ap (λ o. is_some (keep W (lead W (cursors W cs)) (heard D (lead W (cursors W cs)) s) o)) b)
        where
          go : (o : Option W.Cursor) → at (cursors W cs) i ≡ o →
              wins G q (leader G l s0) s0 ≡ is_some (keep W (lead W (cursors W cs)) (heard D (lead W (cursors W cs)) s) o) →
              names W o ≡ cond (wins G q (leader G l s0) s0) (Some (task_outcome G q s0)) None
          go None b v = sym (ap (λ z. cond z (Some (task_outcome G q s0)) None) v)
          go (Some p) b v = two (eqb (rank (lead W (cursors W cs))) (rank (W.symbol p))) refl
            where
              wins_if : (y : Bool) → eqb (rank (lead W (cursors W cs))) (rank (W.symbol p)) ≡ y →
                  wins G q (leader G l s0) s0 ≡ y
              wins_if y e = v ∙ ap (λ z. is_some (cond z (Some (W.next p (heard D (lead W (cursors W cs)) s))) None)) e
                  ∙ told_is y (W.next p (heard D (lead W (cursors W cs)) s))

              two : (y : Bool) → eqb (rank (lead W (cursors W cs))) (rank (W.symbol p)) ≡ y →
                  names W (Some p) ≡ cond (wins G q (leader G l s0) s0) (Some (task_outcome G q s0)) None
              two true e =
                  let g : rank (W.symbol p) ≡ rank (lead W (cursors W cs)) =
                  sym (eqb-true (rank (lead W (cursors W cs))) (rank (W.symbol p)) e) in
                  let f = stop_names G l run stops i q p a b
                  (rank_inj (W.symbol p) (lead W (cursors W cs)) g) in
                  ap (λ z. cond z (Some (W.outcome p)) None) (eq-eqb (rank (W.symbol p)) 1 (g ∙ stops))
                  ∙ ap (λ z. Some (W.outcome z)) (sym f)
                  ∙ sym (ap (λ z. cond z (Some (task_outcome G q s0)) None) (wins_if true e))
              two false e =
                  let g : eqb (rank (W.symbol p)) 1 ≡ false = ne_eqb (rank (W.symbol p)) 1 (λ z. let y : true ≡ false = sym
                  (eq-eqb (rank (lead W (cursors W cs))) (rank (W.symbol p)) (stops ∙ sym z)) ∙ e in cc) in
                  ap (λ z. cond z (Some (W.outcome p)) None) g
                  ∙ sym (ap (λ z. cond z (Some (task_outcome G q s0)) None) (wins_if false e))
