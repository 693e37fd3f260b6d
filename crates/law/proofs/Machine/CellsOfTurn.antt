-- The cells of a turn: who is armed, who was marked, and what an arm changes.
use Rattle.std.proofs.Common.{◌≡◌, ℕ, zero, suc, Bool, true, false, not, ◌&&◌, ◌||◌, eqb, List, [], ◌∷◌, is_some, Some}
use Rattle.std.proofs.Common.{None, Option, refl, ap, ◌∙◌, ap₂, map, arith}
use Rattle.std.specs.Prelude.{slice_index_or}
use Rattle.master.specs.declared.arming.Arming.{Arming}
use Rattle.master.specs.declared.symbol.Symbol.{Symbol}
use Rattle.master.specs.Arming.{answer_to_arm}
use Rattle.master.specs.MasterState.{MasterModel, VerdictModel, quiet, lost, arm_master}
use Rattle.master.specs.Script.{Script}
use Rattle.law.proofs.Machine.PhasesOfSlot.{rank, Cell, out, live, looks, notes, cursor, cursors, some, alive, Every}
use Rattle.law.proofs.Machine.PhasesOfSlot.{Timed, who, stay, advance, finished, claim_all}
use Rattle.law.proofs.Machine.Arbitration.{at}
use Rattle.law.proofs.Machine.BookOfMachine.{Tasks, count, any, at_place, at_place_has, armed_if, arm_book, nobody}
use Rattle.law.proofs.Machine.BookOfMachine.{task_of, armeds, pulling, is_lost, telling, tellings, arm_masters, begins}
use Rattle.law.proofs.Machine.BookOfMachine.{falses, marks_too}

pub armed_same : {A : Type 0} → (o w : Option A) → is_some o ≡ true → armed_if o w ≡ o
armed_same o w h = grind arith

pub some_of : {A : Type 0} (o : Option A) → is_some o ≡ true → (q : A) × (o ≡ Some q)
some_of o h = grind arith

false_and : (b a : Bool) → a ≡ false → (b && a) ≡ false
false_and b a h = grind arith

and_right : (b a : Bool) → (b && a) ≡ true → a ≡ true
and_right b a h = grind arith

mark_one : (b a c : Bool) → b ≡ true → ((b && a) || c) ≡ (b && (a || c))
mark_one b a c h = grind arith

mark_out : (b : Bool) → ((b && true) || false) ≡ (b && true)
mark_out true = refl
mark_out false = refl

pub count_nobody : {A : Type 0} (B : Type 0) (os : List (Option A)) → count (nobody {B = B} os) ≡ 0
count_nobody B [] = refl
count_nobody B (o ∷ os) = count_nobody B os

abbrev pub never : Symbol → Bool
never x = false

module _ (W : Script) where
  abbrev pub cell_armeds : List (Cell W) → Tasks W
  cell_armeds cs = map (λ c. task_of W (who W c).arming) cs

  -- who is live is armed
  abbrev pub Holding : List (Cell W) → Type 0
  Holding [] = Unit {0}
  Holding (out m ∷ cs) = Holding cs
  Holding (live m p ∷ cs) = (is_some (task_of W m.arming) ≡ true) × Holding cs

  -- who is live is a contender
  abbrev pub Within : Tasks W → List (Cell W) → Type 0
  Within [] [] = Unit {0}
  Within [] (c ∷ cs) = ⊥
  Within (o ∷ l) [] = ⊥
  Within (o ∷ l) (out m ∷ cs) = Within l cs
  Within (o ∷ l) (live m p ∷ cs) = (is_some o ≡ true) × Within l cs

  abbrev pub gone : (Symbol → Bool) → Cell W → Bool
  gone f (out m) = true
  gone f (live m p) = f (W.symbol p)

  -- the contenders that are out, or live and pass the test f
  abbrev pub marked : (Symbol → Bool) → Tasks W → List (Cell W) → List Bool
  marked f [] cs = []
  marked f (o ∷ l) [] = []
  marked f (o ∷ l) (c ∷ cs) = (is_some o && gone f c) ∷ marked f l cs

  -- a slot's survivors
  pub armeds_stay : (n : ℕ) (cs : List (Cell W)) → cell_armeds (stay W n cs) ≡ cell_armeds cs
  armeds_stay n [] = refl
  armeds_stay n (c ∷ cs) = grind (arith, armeds_stay n cs)

  pub armeds_advance : (b : Bool) (cs : List (Cell W)) → cell_armeds (advance W b cs) ≡ cell_armeds cs
  armeds_advance b [] = refl
  armeds_advance b (c ∷ cs) = grind (arith, armeds_advance b cs)

  pub holding_stay : (n : ℕ) (cs : List (Cell W)) → Holding cs → Holding (stay W n cs)
  holding_stay n [] h = tt
  holding_stay n (c ∷ cs) h = grind (arith, holding_stay n cs)

  pub holding_advance : (b : Bool) (cs : List (Cell W)) → Holding cs → Holding (advance W b cs)
  holding_advance b [] h = tt
  holding_advance b (c ∷ cs) h = grind (arith, holding_advance b cs)

  pub within_stay : (n : ℕ) (l : Tasks W) (cs : List (Cell W)) → Within l cs → Within l (stay W n cs)
  within_stay n [] [] h = tt
  within_stay n [] (c ∷ cs) h = absurd h
  within_stay n (o ∷ l) [] h = h
  within_stay n (o ∷ l) (c ∷ cs) h = grind (arith, within_stay n l cs)

  pub within_advance : (b : Bool) (l : Tasks W) (cs : List (Cell W)) → Within l cs → Within l (advance W b cs)
  within_advance b [] [] h = tt
  within_advance b [] (c ∷ cs) h = absurd h
  within_advance b (o ∷ l) [] h = h
  within_advance b (o ∷ l) (c ∷ cs) h = grind (arith, within_advance b l cs)

  -- the stop
  pub holding_finished : (cs : List (Cell W)) → Holding (finished W cs)
  holding_finished [] = tt
  holding_finished (c ∷ cs) = grind (arith, holding_finished cs)

  -- the claim
  pub armeds_claim : (cs : List (Cell W)) → cell_armeds (claim_all W cs) ≡ cell_armeds cs
  armeds_claim [] = refl
  armeds_claim (c ∷ cs) = grind (arith, armeds_claim cs)

  pub cursors_claim : (cs : List (Cell W)) → cursors W (claim_all W cs) ≡ begins W (cell_armeds cs)
  cursors_claim [] = refl
  cursors_claim (c ∷ cs) = grind (arith, cursors_claim cs)

  pub timed_claim : (cs : List (Cell W)) → Timed W cs → Timed W (claim_all W cs)
  timed_claim [] t = tt
  timed_claim (c ∷ cs) t = grind (arith, timed_claim cs)

  pub holding_claim : (cs : List (Cell W)) → Holding (claim_all W cs)
  holding_claim [] = tt
  holding_claim (c ∷ cs) = grind (arith, holding_claim cs)

  pub within_claim : (cs : List (Cell W)) → Within (cell_armeds cs) (claim_all W cs)
  within_claim [] = tt
  within_claim (c ∷ cs) = grind (arith, within_claim cs)

  pub alive_claim : (cs : List (Cell W)) → alive W (claim_all W cs) ≡ any (cell_armeds cs)
  alive_claim [] = refl
  alive_claim (c ∷ cs) = grind (arith, alive_claim cs)

  pub marked_claim : (cs : List (Cell W)) → falses (cell_armeds cs) ≡ marked never (cell_armeds cs) (claim_all W cs)
  marked_claim [] = refl
  marked_claim (c ∷ cs) = grind (arith, marked_claim cs)

  -- who was marked, after verdicts and after a slot; g: whom the verdicts mark
  pub marked_more : (f g : Symbol → Bool) (k : Symbol → W.Cursor → VerdictModel W)
      (each : (x : Symbol) (p : W.Cursor) → is_lost W (k x p) ≡ g x) (l : Tasks W) (cs : List (Cell W)) → Within l cs →
      marks_too W (marked f l cs) (notes W k cs) ≡ marked (λ x. f x || g x) l cs
  marked_more f g k each [] [] h = refl
  marked_more f g k each [] (c ∷ cs) h = absurd h
  marked_more f g k each (o ∷ l) [] h = absurd h
  marked_more f g k each (o ∷ l) (out m ∷ cs) h = ap₂ ◌∷◌ (mark_out (is_some o)) (marked_more f g k each l cs h)
  marked_more f g k each (o ∷ l) (live m p ∷ cs) h =
      let x = W.symbol p in
      let here = ap (λ v. (is_some o && f x) || v) (each x p) ∙ mark_one (is_some o) (f x) (g x) h.0 in
      ap₂ ◌∷◌ here (marked_more f g k each l cs h.1)

  pub marked_stay : (f : Symbol → Bool) (n : ℕ) (l : Tasks W) (cs : List (Cell W)) →
      Every W (λ x. f x ≡ not (eqb (rank x) n)) cs → marked f l cs ≡ marked never l (stay W n cs)
  marked_stay f n [] cs h = refl
  marked_stay f n (o ∷ l) [] h = refl
  marked_stay f n (o ∷ l) (c ∷ cs) h = grind (arith, marked_stay f n l cs)

  pub marked_advance : (b : Bool) (l : Tasks W) (cs : List (Cell W)) →
      marked never l (advance W b cs) ≡ marked never l cs
  marked_advance b [] cs = refl
  marked_advance b (o ∷ l) [] = refl
  marked_advance b (o ∷ l) (c ∷ cs) = grind (arith, marked_advance b l cs)

  -- who is marked now was live, and whoever is live and does not pass the test was not marked
  pub note_at : (k : Symbol → W.Cursor → VerdictModel W) (cs : List (Cell W)) (i : ℕ) →
      slice_index_or (notes W k cs) i quiet ≡ lost →
      (p : W.Cursor) × (at (cursors W cs) i ≡ Some p) × (k (W.symbol p) p ≡ lost)
  note_at k [] i h = cc
  note_at k (out m ∷ cs) zero h = cc
  note_at k (live m p ∷ cs) zero h = (p, refl, h)
  note_at k (c ∷ cs) (suc i) h = grind (arith, note_at k cs)

  pub unmarked : (f : Symbol → Bool) (l : Tasks W) (cs : List (Cell W)) (i : ℕ) (p : W.Cursor) →
      at (cursors W cs) i ≡ Some p → f (W.symbol p) ≡ false → slice_index_or (marked f l cs) i false ≡ false
  unmarked f [] cs i p e h = refl
  unmarked f (o ∷ l) [] i p e h = refl
  unmarked f (o ∷ l) (out m ∷ cs) zero p e h = cc
  unmarked f (o ∷ l) (live m q ∷ cs) zero p e h =
      let z : q ≡ p = cc in
      false_and (is_some o) (f (W.symbol q)) (ap (λ r. f (W.symbol r)) z ∙ h)
  unmarked f (o ∷ l) (c ∷ cs) (suc i) p e h = grind (arith, unmarked f l cs)

  pub contender : (l : Tasks W) (cs : List (Cell W)) → Within l cs → (i : ℕ) (p : W.Cursor) →
      at (cursors W cs) i ≡ Some p → (q : W.Task) × (at l i ≡ Some q)
  contender [] [] h i p e = cc
  contender [] (c ∷ cs) h i p e = absurd h
  contender (o ∷ l) [] h i p e = absurd h
  contender (o ∷ l) (out m ∷ cs) h zero p e = cc
  contender (o ∷ l) (live m q ∷ cs) h zero p e = some_of o h.0
  contender (o ∷ l) (c ∷ cs) h (suc i) p e = grind (arith, contender l cs)

  -- who was marked pulls nothing
  pub pulls_nothing : (f : Symbol → Bool) (g : MasterModel W → W.Cursor → MasterModel W)
      (each : (m : MasterModel W) (p : W.Cursor) → f (W.symbol p) ≡ true → ((g m p).pulls.scl || (g m p).pulls.sda) ≡ false)
      (l : Tasks W) (cs : List (Cell W)) (i : ℕ) →
      slice_index_or (marked f l cs) i false ≡ true → pulling W (looks W g cs) i ≡ false
  pulls_nothing f g each [] cs i h = cc
  pulls_nothing f g each (o ∷ l) [] i h = cc
  pulls_nothing f g each (o ∷ l) (out m ∷ cs) zero h = refl
  pulls_nothing f g each (o ∷ l) (live m p ∷ cs) zero h = each m p (and_right (is_some o) (f (W.symbol p)) h)
  pulls_nothing f g each (o ∷ l) (c ∷ cs) (suc i) h = grind (arith, pulls_nothing f g each l cs)

  pub armeds_looks : (f : MasterModel W → W.Cursor → MasterModel W)
      (keeps : (m : MasterModel W) (p : W.Cursor) → (f m p).arming ≡ m.arming) (cs : List (Cell W)) →
      armeds W (looks W f cs) ≡ cell_armeds cs
  armeds_looks f keeps [] = refl
  armeds_looks f keeps (c ∷ cs) = grind (arith, armeds_looks f keeps cs)

  -- whom a tick tells
  pub tells_none : (k : Symbol → W.Cursor → VerdictModel W)
      (mute : (x : Symbol) (p : W.Cursor) → telling W (k x p) ≡ None) (cs : List (Cell W)) →
      tellings W (notes W k cs) ≡ nobody (cell_armeds cs)
  tells_none k mute [] = refl
  tells_none k mute (c ∷ cs) = grind (arith, tells_none k mute cs)

-- an arm, in the middle of a turn too
module _ (W : Script) where
  abbrev pub arm_cell : Cell W → Option W.Task → Cell W
  arm_cell (out m) w = out (arm_master W m w).1
  arm_cell (live m p) w = live m p

  abbrev pub arm_cells : List (Cell W) → Tasks W → ℕ → List (Cell W)
  arm_cells cs ws i = at_place arm_cell cs ws i

  arm_none : (a : Arming W.Task) (w : Option W.Task) → is_some (task_of W a) ≡ true → (answer_to_arm a w).1 ≡ a
  arm_none a w h = grind arith

  arm_task : (a : Arming W.Task) (w : Option W.Task) → armed_if (task_of W a) w ≡ task_of W (answer_to_arm a w).1
  arm_task a w = grind arith

  pub arm_looks : (f : MasterModel W → W.Cursor → MasterModel W)
      (keeps : (m : MasterModel W) (p : W.Cursor) → (f m p).arming ≡ m.arming)
      (cs : List (Cell W)) (ws : Tasks W) (i : ℕ) → Holding W cs →
      arm_masters W (looks W f cs) ws i ≡ looks W f (arm_cells cs ws i)
  arm_looks f keeps [] ws i h = refl
  arm_looks f keeps (c ∷ cs) [] i h = refl
  arm_looks f keeps (out m ∷ cs) (w ∷ ws) zero h = refl
  arm_looks f keeps (live m p ∷ cs) (w ∷ ws) zero h =
      grind (arith, arm_none (f m p).arming w (ap (λ a. is_some (task_of W a)) (keeps m p) ∙ h.0))
  arm_looks f keeps (c ∷ cs) (w ∷ ws) (suc i) h = grind (arith, arm_looks f keeps cs)

  pub arm_armeds : (cs : List (Cell W)) (ws : Tasks W) (i : ℕ) → Holding W cs →
      arm_book (cell_armeds W cs) ws i ≡ cell_armeds W (arm_cells cs ws i)
  arm_armeds [] ws i h = refl
  arm_armeds (c ∷ cs) [] i h = refl
  arm_armeds (out m ∷ cs) (w ∷ ws) zero h = ap (λ x. x ∷ cell_armeds W cs) (arm_task m.arming w)
  arm_armeds (live m p ∷ cs) (w ∷ ws) zero h = ap (λ x. x ∷ cell_armeds W cs) (armed_same (task_of W m.arming) w h.0)
  arm_armeds (c ∷ cs) (w ∷ ws) (suc i) h = grind (arith, arm_armeds cs)

  pub arm_timed : (cs : List (Cell W)) (ws : Tasks W) (i : ℕ) → Timed W cs → Timed W (arm_cells cs ws i)
  arm_timed = at_place_has arm_cell (λ a b. Timed W a → Timed W b) (λ cs t. t) (λ c w cs t. grind arith)
      (λ c cs ds h t. (t.0, h t.1))

  pub arm_holding : (cs : List (Cell W)) (ws : Tasks W) (i : ℕ) → Holding W cs → Holding W (arm_cells cs ws i)
  arm_holding = at_place_has arm_cell (λ a b. Holding W a → Holding W b) (λ cs h. h) (λ c w cs h. grind arith)
      (λ c cs ds k h. grind arith)

  pub arm_within : (l : Tasks W) (cs : List (Cell W)) (ws : Tasks W) (i : ℕ) → Within W l cs →
      Within W l (arm_cells cs ws i)
  arm_within [] [] ws i h = tt
  arm_within [] (c ∷ cs) ws i h = absurd h
  arm_within (o ∷ l) [] ws i h = absurd h
  arm_within (o ∷ l) (c ∷ cs) [] i h = h
  arm_within (o ∷ l) (out m ∷ cs) (w ∷ ws) zero h = h
  arm_within (o ∷ l) (live m p ∷ cs) (w ∷ ws) zero h = h
  arm_within (o ∷ l) (c ∷ cs) (w ∷ ws) (suc i) h = grind (arith, arm_within l cs)

  pub arm_some : (f : Symbol → Bool) (cs : List (Cell W)) (ws : Tasks W) (i : ℕ) →
      some W f (arm_cells cs ws i) ≡ some W f cs
  arm_some f = at_place_has arm_cell (λ a b. some W f b ≡ some W f a) (λ cs. refl) (λ c w cs. grind arith)
      (λ c cs ds h. grind arith)

  pub arm_cursors : (cs : List (Cell W)) (ws : Tasks W) (i : ℕ) → cursors W (arm_cells cs ws i) ≡ cursors W cs
  arm_cursors = at_place_has arm_cell (λ a b. cursors W b ≡ cursors W a) (λ cs. refl) (λ c w cs. grind arith)
      (λ c cs ds h. ap (λ l. cursor W c ∷ l) h)

  pub arm_marked : (f : Symbol → Bool) (l : Tasks W) (cs : List (Cell W)) (ws : Tasks W) (i : ℕ) →
      marked W f l cs ≡ marked W f l (arm_cells cs ws i)
  arm_marked f [] cs ws i = refl
  arm_marked f (o ∷ l) [] ws i = refl
  arm_marked f (o ∷ l) (c ∷ cs) [] i = refl
  arm_marked f (o ∷ l) (out m ∷ cs) (w ∷ ws) zero = refl
  arm_marked f (o ∷ l) (live m p ∷ cs) (w ∷ ws) zero = refl
  arm_marked f (o ∷ l) (c ∷ cs) (w ∷ ws) (suc i) = grind (arith, arm_marked f l cs ws i)

  pub arm_advance : (b : Bool) (cs : List (Cell W)) (ws : Tasks W) (i : ℕ) →
      cursors W (advance W b (arm_cells cs ws i)) ≡ cursors W (advance W b cs)
  arm_advance b = at_place_has arm_cell (λ x y. cursors W (advance W b y) ≡ cursors W (advance W b x)) (λ cs. refl)
      (λ c w cs. grind arith) (λ c cs ds h. grind arith)
