-- The invariant of a machine and its book, between any two arms and ticks; and that an arm keeps it.
use Rattle.std.proofs.Common.{◌≡◌, ℕ, zero, suc, ◌+◌, ◌-◌, ◌*◌, ◌≤◌, Bool, true, false, not, ◌||◌, ◌++◌, ◌⊎◌, List, []}
use Rattle.std.proofs.Common.{◌∷◌, Some, None, Option, unwrap_or, sym, refl, ap, ◌∙◌, subst, inl, inr, arith}
use Rattle.master.specs.declared.symbol.Symbol.{Symbol}
use Rattle.master.specs.MasterState.{MasterModel}
use Rattle.master.specs.Script.{Script}
use Rattle.master.specs.Symbol.{pulls_sda}
use Rattle.transfer.specs.Limits.{most_count}
use Rattle.law.specs.Limits.{most_letters, ticks_of_low, ticks_of_letter, ticks_of_turn}
use Rattle.law.specs.Letter.{Letter}
use Rattle.law.specs.Monitor.{Monitor, letters_of_bit}
use Rattle.law.proofs.FarSide.{Side, taken}
use Rattle.law.proofs.Machine.BusAsMachine.{Bus}
use Rattle.law.proofs.Machine.PhasesOfSlot.{holds, early_lost, Cell, looks, cursors, idling, claimed, opened, lowered}
use Rattle.law.proofs.Machine.PhasesOfSlot.{fresh, settled, some, alive, Timed, advance, free_bus, claimed_bus}
use Rattle.law.proofs.Machine.PhasesOfSlot.{opened_bus, low_bus, fresh_bus, settled_bus, carries}
use Rattle.law.proofs.Machine.Arbitration.{at, slots, opened as opens_at}
use Rattle.law.proofs.Machine.BookOfMachine.{Tasks, armed_if, arm_book, arm_masters, begins, Book, book, Spell}
use Rattle.law.proofs.Machine.BookOfMachine.{spell, monitor_at, arm_bus}
use Rattle.law.proofs.Machine.CellsOfTurn.{cell_armeds, Holding, Within, marked, never, arm_cells, arm_looks}
use Rattle.law.proofs.Machine.CellsOfTurn.{arm_armeds, arm_timed, arm_holding, arm_within, arm_some, arm_cursors}
use Rattle.law.proofs.Machine.CellsOfTurn.{arm_marked, arm_advance}
use Rattle.law.proofs.Machine.SlotsOfTurn.{Run, spelled}
use Rattle.law.proofs.Machine.Game.{Game}

abbrev pub Ready : {A : Type 0} → (A → Type 0) → List (Option A) → Type 0
Ready {A} Fits l = (i : ℕ) (t : A) → at l i ≡ Some t → Fits t

armed_from : {A : Type 0} (o w : Option A) (p : A) → armed_if o w ≡ Some p → (o ≡ Some p) ⊎ (w ≡ Some p)
armed_from o w p h = grind arith

arm_from : {A : Type 0} (os ws : List (Option A)) (i j : ℕ) (p : A) → at (arm_book os ws i) j ≡ Some p →
    (at os j ≡ Some p) ⊎ (at ws j ≡ Some p)
arm_from [] ws i j p e = inl e
arm_from (o ∷ os) [] i j p e = inl e
arm_from (o ∷ os) (w ∷ ws) zero zero p e = armed_from o w p e
arm_from (o ∷ os) (w ∷ ws) zero (suc j) p e = inl e
arm_from (o ∷ os) (w ∷ ws) (suc i) zero p e = inl e
arm_from (o ∷ os) (w ∷ ws) (suc i) (suc j) p e = arm_from os ws i j p e

arm_ready : {A : Type 0} (Fits : A → Type 0) (os ws : List (Option A)) (i : ℕ) → Ready Fits ws → Ready Fits os →
    Ready Fits (arm_book os ws i)
arm_ready Fits os ws i z g j p e = elim (arm_from os ws i j p e) [ inl y ↦ g j p y | inr y ↦ z j p y ]

module _ (W : Script) where
  pub fresh_keeps : (b : Bool) (m : MasterModel W) (p : W.Cursor) → (fresh W b m p).arming ≡ m.arming
  fresh_keeps b m p = grind arith

module _ (W : Script) (D : Side) where
  -- the machine, its book and its monitor between two arms or ticks
  pub record Point : Type 0 where
    pub machine : Bus W D
    pub booked : Book W D
    pub monitor : Monitor

  abbrev pub point : Bus W D → Book W D → Monitor → Point
  point u b w = record { machine = u; booked = b; monitor = w }

  -- once master i is armed with what it wants
  abbrev pub arm_point : Point → Tasks W → ℕ → Point
  arm_point P ws i = point (arm_bus W D P.machine ws i)
      (book W D (arm_book P.booked.armed ws i) P.booked.side P.booked.turn) P.monitor

module _ (G : Game) where
  abbrev W : Script
  W = G.script

  abbrev D : Side
  D = G.side

  -- Fits: what may be armed; Rest: how a stop leaves the side
  module _ (Fits : W.Task → Type 0) (Rest : D.S → Type 0) where
    -- an open turn, in any slot
    pub record Turn : Type 0 where
      pub armed : Tasks W
      pub contenders : Tasks W
      -- the side as the last stop left it
      pub rest : D.S
      pub cells : List (Cell W)
      pub armed_as : armed ≡ cell_armeds W cells
      pub timed : Timed W cells
      pub living : alive W cells ≡ true
      pub holding : Holding W cells
      pub within : Within W contenders cells
      pub armed_ready : Ready Fits armed
      pub ready : Ready Fits contenders
      pub rested : Rest rest

  abbrev pub at_rest : Tasks W → D.S → Monitor → List (Cell W) → Point W D
  at_rest os s w cs = point W D (free_bus W D cs s) (book W D os s None) w

  module _ {Fits : W.Task → Type 0} {Rest : D.S → Type 0} where
    -- k slots of the turn are gone, r are left at the most, and cs and s are the cells and the side then
    abbrev pub Slots : Turn Fits Rest → ℕ → ℕ → List (Cell W) → D.S → Type 0
    Slots T k r cs s = Run G (begins W T.contenders) (D.begin T.rest) k r (cursors W cs) s

    -- what was spelled in k slots
    abbrev pub text : Turn Fits Rest → ℕ → List Letter
    text T k = spelled G (begins W T.contenders) (D.begin T.rest) k

    -- f: whom of the live the monitor has marked already
    abbrev pub marks : (Symbol → Bool) → Turn Fits Rest → List Bool
    marks f T = marked W f T.contenders T.cells

    abbrev pub in_turn : (Symbol → Bool) → Turn Fits Rest → Bus W D → ℕ → Bool → Spell → Point W D
    in_turn f T u n risen sp = point W D u (book W D T.armed T.rest (Some T.contenders)) (monitor_at n risen (marks f T) sp)

    abbrev pub at_claim : Turn Fits Rest → Point W D
    at_claim T = in_turn never T (claimed_bus W D T.cells T.rest) 0 false (spell None [])

    -- e ticks of the high are gone
    abbrev pub at_start : Turn Fits Rest → ℕ → Point W D
    at_start T e = in_turn never T (opened_bus W D T.cells (D.begin T.rest) e) 0 false (spell None [])

    -- in the low of slot k, e ticks of which are gone; s: the side; d: the last level of SDA; h: the hold asked for
    abbrev pub at_low : Turn Fits Rest → ℕ → D.S → Bool → ℕ → ℕ → Point W D
    at_low T k s d h e = in_turn never T (low_bus W D d T.cells s h e) (suc k) false (spell None (text T k))

    -- at its rise; it carries b
    abbrev pub at_rise : Turn Fits Rest → ℕ → D.S → Bool → Point W D
    at_rise T k s b = in_turn (early_lost b) T (fresh_bus W D b T.cells s) (suc k) true (spell (Some b) (text T k))

    -- in its high, e ticks of which are gone, and g slots are spelled; c: the bit that counts at the next fall; after a
    -- repeated start none does
    abbrev pub at_high : Turn Fits Rest → ℕ → ℕ → D.S → Bool → Option Bool → ℕ → Point W D
    at_high T k g s d c e = in_turn never T (settled_bus W D d c T.cells s e) (suc k) true (spell c (text T g))

  module _ (Fits : W.Task → Type 0) (Rest : D.S → Type 0) where
    -- how many ticks are left at the most until an outcome is told
    pub data Stands : Point W D → ℕ → Type 0 where
      idle : (os : Tasks W) (s : D.S) (w : Monitor) (cs : List (Cell W)) →
          os ≡ cell_armeds W cs → Timed W cs → Holding W cs → Rest s → Ready Fits os →
          Stands (at_rest os s w cs) ticks_of_turn
      claims : (T : Turn Fits Rest) → Slots T 0 most_letters T.cells (D.begin T.rest) →
          Stands (at_claim T) (ticks_of_turn - 1)
      -- the two ticks of the claim and of the start are gone
      begun : (T : Turn Fits Rest) (e n : ℕ) → e ≤ most_count → n + 2 + e ≡ ticks_of_turn →
          Slots T 0 most_letters T.cells (D.begin T.rest) → Stands (at_start T e) n
      -- r letters are left at the most, this one among them
      low : (T : Turn Fits Rest) (k r : ℕ) (s : D.S) (d : Bool) (h e n : ℕ) →
          h ≤ most_count → e ≤ most_count → n + e ≡ ticks_of_letter * r → Slots T k r T.cells s →
          Stands (at_low T k s d h e) n
      rose : (T : Turn Fits Rest) (k r : ℕ) (s : D.S) (b : Bool) (n : ℕ) →
          carries W D T.cells s ≡ b → n + ticks_of_low ≡ ticks_of_letter * r → Slots T k r T.cells s →
          Stands (at_rise T k s b) n
      -- the tick after the rise is gone too; the side is that of the slots spelled
      high : (T : Turn Fits Rest) (k r g : ℕ) (s : D.S) (d : Bool) (c : Option Bool) (e n : ℕ) →
          not (some W holds T.cells || D.pulls s) ≡ d → e ≤ most_count →
          n + ticks_of_low + 1 + e ≡ ticks_of_letter * suc r →
          text T g ++ letters_of_bit c ≡ text T (suc k) → g ≤ suc k →
          (slots G g (opens_at G (begins W T.contenders) (D.begin T.rest))).side ≡ s →
          Slots T (suc k) r (advance W (unwrap_or c true) T.cells) (taken D c s) → Stands (at_high T k g s d c e) n

    module _ (ws : Tasks W) (wants : Ready Fits ws) (i : ℕ) where
      abbrev arm_turn : Turn Fits Rest → Turn Fits Rest
      arm_turn T = record T {
        armed = arm_book T.armed ws i;
        cells = arm_cells W T.cells ws i;
        armed_as = ap (λ x. arm_book x ws i) T.armed_as ∙ arm_armeds W T.cells ws i T.holding;
        timed = arm_timed W T.cells ws i T.timed;
        living = arm_some W (λ x. true) T.cells ws i ∙ T.living;
        holding = arm_holding W T.cells ws i T.holding;
        within = arm_within W T.contenders T.cells ws i T.within;
        armed_ready = arm_ready Fits T.armed ws i wants T.armed_ready;
      }

      arm_slots : (T : Turn Fits Rest) {k r : ℕ} {s : D.S} → Slots T k r T.cells s →
          Slots (arm_turn T) k r (arm_turn T).cells s
      arm_slots T {k} {r} {s} q = subst (λ ps. Run G (begins W T.contenders) (D.begin T.rest) k r ps s)
          (sym (arm_cursors W T.cells ws i)) q

      -- f: what each live master looks like in its phase
      arm_phase : (f : MasterModel W → W.Cursor → MasterModel W)
          (keeps : (m : MasterModel W) (p : W.Cursor) → (f m p).arming ≡ m.arming) (u : Bus W D) {b : Book W D}
          {w : Monitor} {n : ℕ} (cs : List (Cell W)) → Holding W cs →
          Stands (point W D (record u { masters = looks W f (arm_cells W cs ws i) }) b w) n →
          Stands (point W D (record u { masters = arm_masters W (looks W f cs) ws i }) b w) n
      arm_phase f keeps u {b} {w} {n} cs h =
          subst (λ ms. Stands (point W D (record u { masters = ms }) b w) n) (sym (arm_looks W f keeps cs ws i h))

      arm_in_turn : (lost : Symbol → Bool) (f : MasterModel W → W.Cursor → MasterModel W)
          (keeps : (m : MasterModel W) (p : W.Cursor) → (f m p).arming ≡ m.arming) (u : Bus W D) (T : Turn Fits Rest)
          {k : ℕ} {risen : Bool} {sp : Spell} {n : ℕ} →
          Stands (in_turn lost (arm_turn T) (record u { masters = looks W f (arm_turn T).cells }) k risen sp) n →
          Stands (arm_point W D (in_turn lost T (record u { masters = looks W f T.cells }) k risen sp) ws i) n
      arm_in_turn lost f keeps u T {k} {risen} {sp} {n} st =
          let b : Book W D = book W D (arm_turn T).armed T.rest (Some T.contenders) in
          let u' : Bus W D = record u { masters = looks W f (arm_turn T).cells } in
          arm_phase f keeps u T.cells T.holding (subst (λ v. Stands (point W D u' b (monitor_at k risen v sp)) n)
          (sym (arm_marked W lost T.contenders T.cells ws i)) st)

      -- an arm in any phase
      pub arm_stands : {P : Point W D} {n : ℕ} → Stands P n → Stands (arm_point W D P ws i) n
      arm_stands {P} (idle os s w cs a t g q y) =
          arm_phase (idling W) (λ m p. refl) P.machine cs g
          (idle (arm_book os ws i) s w (arm_cells W cs ws i) (ap (λ x. arm_book x ws i) a ∙ arm_armeds W cs ws i g)
          (arm_timed W cs ws i t) (arm_holding W cs ws i g) q (arm_ready Fits os ws i wants y))
      arm_stands {P} (claims T q) =
          arm_in_turn never (claimed W) (λ m p. refl) P.machine T (claims (arm_turn T) (arm_slots T q))
      arm_stands {P} (begun T e n b c q) =
          arm_in_turn never (opened W e) (λ m p. refl) P.machine T (begun (arm_turn T) e n b c (arm_slots T q))
      arm_stands {P} (low T k r s d h e n b b' c q) =
          arm_in_turn never (lowered W e) (λ m p. refl) P.machine T
          (low (arm_turn T) k r s d h e n b b' c (arm_slots T q))
      arm_stands {P} (rose T k r s b n j c q) =
          arm_in_turn (early_lost b) (fresh W b) (fresh_keeps W b) P.machine T
          (rose (arm_turn T) k r s b n (ap (λ x. not (x || D.pulls s)) (arm_some W pulls_sda T.cells ws i) ∙ j) c
          (arm_slots T q))
      arm_stands {P} (high T k r g s d c e n j o z m m' v q) =
          arm_in_turn never (settled W e) (λ m p. refl) P.machine T
          (high (arm_turn T) k r g s d c e n (ap (λ x. not (x || D.pulls s)) (arm_some W holds T.cells ws i) ∙ j)
          o z m m' v (subst (λ ps. Run G (begins W T.contenders) (D.begin T.rest) (suc k) r ps (taken D c s))
          (sym (arm_advance W (unwrap_or c true) T.cells ws i)) q))
