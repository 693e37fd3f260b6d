-- One arbitration, slot by slot, and what each contender carries alone.
use Rattle.std.proofs.Common.{ℕ, zero, suc, Bool, false, cond, eqb, leb, List, [], ◌∷◌, Some, None, Option, map}
use Rattle.std.specs.Prelude.{slice_index_or}
use Rattle.master.specs.declared.symbol.Symbol.{Symbol}
use Rattle.master.specs.declared.symbol.Symbol.TheVariants.{Listen}
use Rattle.master.specs.Script.{Script}
use Rattle.law.proofs.FarSide.{Side, ends, heard, after, string, last, final, QuietFor}
use Rattle.law.proofs.Machine.PhasesOfSlot.{rank}
use Rattle.law.specs.Letter.{Letter, same_letter}
use Rattle.law.proofs.Machine.Game.{Game}

abbrev pub at : {A : Type 0} → List (Option A) → ℕ → Option A
at l i = slice_index_or l i None

abbrev pub lower : Symbol → Symbol → Symbol
lower x y = cond (leb (rank x) (rank y)) x y

-- the length of the common front of two strings
abbrev pub common : List Letter → List Letter → ℕ
common [] us = 0
common (t ∷ ts) [] = 0
common (t ∷ ts) (u ∷ us) = cond (same_letter t u) (suc (common ts us)) 0

module _ (W : Script) where
  -- the least symbol shown
  abbrev pub lead : List (Option W.Cursor) → Symbol
  lead [] = Listen
  lead (None ∷ ps) = lead ps
  lead (Some p ∷ ps) = lower (W.symbol p) (lead ps)

  abbrev pub keep : Symbol → Bool → Option W.Cursor → Option W.Cursor
  keep x b None = None
  keep x b (Some p) = cond (eqb (rank x) (rank (W.symbol p))) (Some (W.next p b)) None

  abbrev pub keep_all : Symbol → Bool → List (Option W.Cursor) → List (Option W.Cursor)
  keep_all x b ps = map (keep x b) ps

module _ (G : Game) where
  abbrev W : Script
  W = G.script

  abbrev D : Side
  D = G.side

  -- the cursors of all contenders, where those that are out have none
  abbrev pub Live : Type 0
  Live = List (Option W.Cursor)

  pub record Joint : Type 0 where
    pub live : Live
    pub side : D.S
    pub over : Bool

  abbrev pub moved : Symbol → Live → D.S → Joint
  moved x l s = record { live = keep_all W x (heard D x s) l; side = after D x s; over = ends x }

  abbrev pub slot : Joint → Joint
  slot j = cond j.over j (moved (lead W j.live) j.live j.side)

  abbrev pub slots : ℕ → Joint → Joint
  slots zero j = j
  slots (suc k) j = slots k (slot j)

  abbrev pub opened : Live → D.S → Joint
  opened l s = record { live = l; side = s; over = false }

  -- after k slots of the contenders l from the side s
  abbrev pub joint : Live → D.S → ℕ → Joint
  joint l s k = slots k (opened l s)

  -- the side pulls only where the script listens
  abbrev pub Quiet : W.Cursor → D.S → Type 0
  Quiet p s = (n : ℕ) → QuietFor W D n p s

  abbrev pub alone : W.Cursor → D.S → List Letter
  alone p s = string W D (G.left p) p s

  abbrev pub alone_side : W.Cursor → D.S → D.S
  alone_side p s = last W D (G.left p) p s

  abbrev pub alone_end : W.Cursor → D.S → W.Cursor
  alone_end p s = final W D (G.left p) p s
