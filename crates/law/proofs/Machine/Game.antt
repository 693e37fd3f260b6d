-- What the machine is played with: a script, a far side, and the likeness of cursors that keeps contenders together.
use Rattle.std.proofs.Common.{◌≡◌, ℕ, ◌<◌, ◌≤◌, Bool}
use Rattle.master.specs.declared.symbol.Symbol.TheVariants.{Listen, Stop}
use Rattle.master.specs.Script.{Script}
use Rattle.law.proofs.FarSide.{Side}

-- what a script and its likeness must satisfy
pub record Laws (W : Script) (left : W.Cursor → ℕ) (Alike : W.Cursor → W.Cursor → Type 0) : Type 0 where
  pub some_left : (p : W.Cursor) → 1 ≤ left p
  pub fewer : (p : W.Cursor) (b : Bool) → (W.symbol p ≡ Stop → ⊥) → left (W.next p b) < left p
  pub both_listen : (p q : W.Cursor) → Alike p q → W.symbol p ≡ Listen → W.symbol q ≡ Listen
  pub still_alike : (p q : W.Cursor) (b : Bool) → Alike p q → W.symbol p ≡ W.symbol q → Alike (W.next p b) (W.next q b)

pub record Game : Type 1 where
  -- what the masters play
  pub script : Script
  -- what they play it against
  pub side : Side
  -- how many slots a cursor has left at the most
  pub left : script.Cursor → ℕ
  -- which cursors have carried the same letters
  pub Alike : script.Cursor → script.Cursor → Type 0
  -- that the slots run out, and that cursors alike listen together and stay alike
  pub laws : Laws script left Alike
