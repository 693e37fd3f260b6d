-- The leading symbol is the least shown, somebody shows it, and kept is who does.
use Rattle.std.proofs.Common.{◌≡◌, ℕ, zero, suc, ◌≤◌, Bool, ◌⊎◌, List, [], ◌∷◌, Some, None, Option, sym, refl, ◌∙◌, inl, inr, arith}
use Rattle.std.proofs.Math.ListN.{get_or-map}
use Rattle.std.proofs.lemmas.Bool.Decides.{nat_tests}
use Rattle.master.specs.declared.symbol.Symbol.{Symbol}
use Rattle.master.specs.declared.symbol.Symbol.TheVariants.{Listen}
use Rattle.master.specs.Script.{Script}
use Rattle.law.proofs.Machine.PhasesOfSlot.{rank}
use Rattle.law.proofs.Machine.Arbitration.{at, lower, lead, keep, keep_all}

pub rank_inj : (x y : Symbol) → rank x ≡ rank y → x ≡ y
rank_inj x y h = grind arith

pub top_listens : (x : Symbol) → 4 ≤ rank x → x ≡ Listen
top_listens x h = grind arith

pub lower_left : (x y : Symbol) → rank (lower x y) ≤ rank x
lower_left x y = grind (arith, nat_tests)

pub lower_either : (x y : Symbol) → (lower x y ≡ x) ⊎ (lower x y ≡ y)
lower_either x y = grind arith

module _ (W : Script) where
  pub lead_least : (l : List (Option W.Cursor)) (i : ℕ) (p : W.Cursor) → at l i ≡ Some p →
      rank (lead W l) ≤ rank (W.symbol p)
  lead_least [] i p e = cc
  lead_least (None ∷ l) zero p e = cc
  lead_least (None ∷ l) (suc i) p e = lead_least l i p e
  lead_least (Some q ∷ l) zero p e = let z : q ≡ p = cc in rw (← z) (lower_left (W.symbol q) (lead W l))
  lead_least (Some q ∷ l) (suc i) p e = grind (arith, lead_least l i)

  -- somebody shows the lead, unless it is the last symbol of all
  abbrev pub Shown : List (Option W.Cursor) → Type 0
  Shown l = (i : ℕ) × ((q : W.Cursor) × (at l i ≡ Some q) × (W.symbol q ≡ lead W l))

  pub lead_shown : (l : List (Option W.Cursor)) → (lead W l ≡ Listen) ⊎ Shown l
  lead_shown [] = inl refl
  lead_shown (None ∷ l) = elim (lead_shown l) [ inl e ↦ inl e | inr h ↦ inr (suc h.0, h.1) ]
  lead_shown (Some p ∷ l) = elim (lower_either (W.symbol p) (lead W l)) [
    | inl e ↦ inr (0, (p, refl, sym e))
    | inr e ↦ elim (lead_shown l) [ inl d ↦ inl (e ∙ d) | inr h ↦ inr (suc h.0, (h.1.0, h.1.1, h.1.2 ∙ sym e)) ]
  ]

  pub at_keep : (x : Symbol) (b : Bool) (l : List (Option W.Cursor)) (i : ℕ) →
      at (keep_all W x b l) i ≡ keep W x b (at l i)
  at_keep x b l i = get_or-map (keep W x b) l i None

  pub record Kept (x : Symbol) (b : Bool) (o : Option W.Cursor) (r : W.Cursor) : Type 0 where
    pub was : W.Cursor
    pub there : o ≡ Some was
    pub shows : W.symbol was ≡ x
    pub rest : r ≡ W.next was b

  pub kept : (x : Symbol) (b : Bool) (o : Option W.Cursor) (r : W.Cursor) → keep W x b o ≡ Some r → Kept x b o r
  kept x b o r h = grind arith
