-- What the invariant says of masters, side, marks and ticks left.
use Rattle.std.proofs.Common.{◌≡◌, ℕ, ◌≤◌, Bool, true, false, ◌||◌, is_some, None, sym, refl, ◌∙◌, arith}
use Rattle.std.specs.Prelude.{slice_index_or}
use Rattle.master.specs.declared.symbol.Symbol.{Symbol}
use Rattle.master.specs.MasterState.{MasterModel, rise_step}
use Rattle.master.specs.Script.{Script}
use Rattle.law.specs.Limits.{ticks_of_turn}
use Rattle.law.proofs.FarSide.{Side}
use Rattle.law.proofs.Machine.PhasesOfSlot.{early_lost, idling, claimed, opened, lowered, released, fresh, settled}
use Rattle.law.proofs.Machine.BookOfMachine.{armeds, pulling}
use Rattle.law.proofs.Machine.CellsOfTurn.{never, pulls_nothing, armeds_looks}
use Rattle.law.proofs.Machine.Invariant.{Point, Stands, idle, claims, begun, low, rose, high, fresh_keeps}
use Rattle.law.proofs.Machine.Game.{Game}

module _ (W : Script) where
  rise_out : (m : MasterModel W) (p : W.Cursor) (x : Symbol) (b : Bool) → early_lost b x ≡ true →
      ((rise_step W m x p b).0.pulls.scl || (rise_step W m x p b).0.pulls.sda) ≡ false
  rise_out m p x b h = grind arith

  never_out : (g : MasterModel W → W.Cursor → MasterModel W) (m : MasterModel W) (p : W.Cursor) → false ≡ true →
      ((g m p).pulls.scl || (g m p).pulls.sda) ≡ false
  never_out g m p h = cc

module _ (G : Game) where
  abbrev W : Script
  W = G.script

  abbrev D : Side
  D = G.side

  module _ {Fits : W.Task → Type 0} {Rest : D.S → Type 0} where
    pub stands_armed : {P : Point W D} {n : ℕ} → Stands G Fits Rest P n → armeds W P.machine.masters ≡ P.booked.armed
    stands_armed (idle os s w cs a t g q y) = armeds_looks W (idling W) (λ m p. refl) cs ∙ sym a
    stands_armed (claims T q) = armeds_looks W (claimed W) (λ m p. refl) T.cells ∙ sym T.armed_as
    stands_armed (begun T e n b c q) = armeds_looks W (opened W e) (λ m p. refl) T.cells ∙ sym T.armed_as
    stands_armed (low T k r s d h e n b b' c q) = armeds_looks W (lowered W e) (λ m p. refl) T.cells ∙ sym T.armed_as
    stands_armed (rose T k r s b n j c q) = armeds_looks W (fresh W b) (fresh_keeps W b) T.cells ∙ sym T.armed_as
    stands_armed (high T k r g s d c e n j o z m m' v q) =
        armeds_looks W (settled W e) (λ m p. refl) T.cells ∙ sym T.armed_as

    pub stands_side : {P : Point W D} {n : ℕ} → Stands G Fits Rest P n → P.machine.wire.busy ≡ false →
        P.machine.side ≡ P.booked.side
    stands_side h k = grind arith

    -- where no turn is open
    pub stands_at_rest : {P : Point W D} {n : ℕ} → Stands G Fits Rest P n → P.booked.turn ≡ None →
        P.machine.side ≡ P.booked.side
    stands_at_rest h k = grind arith

    pub stands_out : {P : Point W D} {n : ℕ} → Stands G Fits Rest P n → is_some P.booked.turn ≡ true →
        (i : ℕ) → slice_index_or P.monitor.marked i false ≡ true → pulling W P.machine.masters i ≡ false
    stands_out (idle os s w cs a t g q y) h i z = cc
    stands_out (claims T q) h i z =
        pulls_nothing W never (claimed W) (never_out W (claimed W)) T.contenders T.cells i z
    stands_out (begun T e n b c q) h i z =
        pulls_nothing W never (opened W e) (never_out W (opened W e)) T.contenders T.cells i z
    stands_out (low T k r s d f e n b b' c q) h i z =
        pulls_nothing W never (lowered W e) (never_out W (lowered W e)) T.contenders T.cells i z
    stands_out (rose T k r s b n j c q) h i z =
        pulls_nothing W (early_lost b) (fresh W b) (λ m p. rise_out W (released W m p) p (W.symbol p) b)
        T.contenders T.cells i z
    stands_out (high T k r g s d c e n j o z' m m' v q) h i z =
        pulls_nothing W never (settled W e) (never_out W (settled W e)) T.contenders T.cells i z

    pub stands_left : {P : Point W D} {n : ℕ} → Stands G Fits Rest P n → n ≤ ticks_of_turn
    stands_left h = grind arith
