-- The slots of an open turn: what the live cursors and the side keep, and what a slot carries.
use Rattle.std.proofs.Common.{◌≡◌, ℕ, zero, suc, ◌+◌, ◌<◌, ◌≤◌, min, Bool, true, false, cond, not, ◌||◌, eqb, ◌⊎◌, List}
use Rattle.std.proofs.Common.{[], ◌∷◌, ◌++◌, Some, None, sym, refl, ap, ◌∙◌, subst, ap₂, inl, inr, arith}
use Rattle.std.proofs.lemmas.Bool.Decides.{nat_tests}
use Rattle.std.proofs.lemmas.Bool.{cases_lt}
use Rattle.master.specs.declared.symbol.Symbol.{Symbol}
use Rattle.master.specs.declared.symbol.Symbol.TheVariants.{Listen, Stop}
use Rattle.master.specs.MasterState.{MasterModel}
use Rattle.master.specs.Script.{Script}
use Rattle.master.specs.Symbol.{pulls_sda}
use Rattle.law.specs.Limits.{most_letters}
use Rattle.law.proofs.FarSide.{Side, ends, letter, heard, after}
use Rattle.law.proofs.Machine.PhasesOfSlot.{rank, Cell, out, live, turn, cursor, cursors, some, alive, Every, least}
use Rattle.law.proofs.Machine.PhasesOfSlot.{stay_if, stay, advance, carries, Shape}
use Rattle.law.proofs.Machine.Arbitration.{at, lead, keep_all, Joint, slot, slots, opened, joint, Live, Quiet}
use Rattle.law.specs.Letter.{Letter, stop, restart, bit_letter}
use Rattle.law.proofs.Machine.EventForAll.{rank_top}
use Rattle.law.proofs.Machine.SurvivorsOfSlot.{alive_least}
use Rattle.law.proofs.Machine.LeadingSymbol.{rank_inj, top_listens, lead_least, lead_shown, Shown}
use Rattle.law.proofs.Machine.FateOfContender.{next_level, next_letter, letter_at, next_live, next_side, moves, not_end}
use Rattle.law.proofs.Machine.FateOfContender.{Paired, Fair, fair_next, kept_at}
use Rattle.law.proofs.Machine.Game.{Game}

eqb_swap : (a b : ℕ) → eqb a b ≡ eqb b a
eqb_swap a b = grind (arith, nat_tests)

module _ (D : Side) where
  level : (x : Symbol) (s : D.S) → ((x ≡ Listen → ⊥) → D.pulls s ≡ false) → heard D x s ≡ not (pulls_sda x || D.pulls s)
  level x s h = grind arith

  pub after_again : (x : Symbol) (s : D.S) → rank x ≡ 2 → after D x s ≡ D.begin s
  after_again x s h = grind arith

  pub after_stop : (x : Symbol) (s : D.S) → rank x ≡ 1 → after D x s ≡ D.finish s
  after_stop x s h = grind arith

  pub after_bit : (x : Symbol) (s : D.S) → (rank x ≡ 1 → ⊥) → (rank x ≡ 2 → ⊥) → after D x s ≡ D.bit s (heard D x s)
  after_bit x s h k = grind arith

  pub letter_bit : (x : Symbol) (s : D.S) → (rank x ≡ 1 → ⊥) → (rank x ≡ 2 → ⊥) →
      letter D x s ≡ bit_letter (heard D x s)
  letter_bit x s h k = grind arith

  pub letter_again : (x : Symbol) (s : D.S) → rank x ≡ 2 → letter D x s ≡ restart
  letter_again x s h = grind arith

  pub letter_stop : (x : Symbol) (s : D.S) → rank x ≡ 1 → letter D x s ≡ stop
  letter_stop x s h = grind arith

pub ends_rank : (x : Symbol) → (rank x ≡ 1 → ⊥) → ends x ≡ false
ends_rank x h = grind arith

pub rank_ends : (x : Symbol) → rank x ≡ 1 → ends x ≡ true
rank_ends x h = ap ends (rank_inj x Stop h)

module _ (W : Script) where
  some_lead : (cs : List (Cell W)) → some W pulls_sda cs ≡ pulls_sda (lead W (cursors W cs))
  some_lead [] = refl
  some_lead (c ∷ cs) = grind (arith, some_lead cs)

  least_lead : (cs : List (Cell W)) → min 4 (least W cs) ≡ rank (lead W (cursors W cs))
  least_lead [] = refl
  least_lead (c ∷ cs) = grind (arith, least_lead cs)

  pub leads : (cs : List (Cell W)) → alive W cs ≡ true → rank (lead W (cursors W cs)) ≡ least W cs
  leads cs v = omega (arith, least_lead cs, alive_least W cs v)

  keep_one : (v b : Bool) (m : MasterModel W) (p : W.Cursor) →
      cond v (Some (W.next p b)) None ≡ cursor W (turn W (λ m p. live m (W.next p b)) (stay_if W v m p))
  keep_one v b m p = grind arith

  pub keep_cells : (x : Symbol) (n : ℕ) (b : Bool) (cs : List (Cell W)) → rank x ≡ n →
      keep_all W x b (cursors W cs) ≡ cursors W (advance W b (stay W n cs))
  keep_cells x n b [] e = refl
  keep_cells x n b (out m ∷ cs) e = ap (λ l. None ∷ l) (keep_cells x n b cs e)
  keep_cells x n b (live m p ∷ cs) e =
      let y = W.symbol p in
      let same = eqb_swap (rank x) (rank y) ∙ ap (eqb (rank y)) e in
      ap₂ ◌∷◌ (ap (λ v. cond v (Some (W.next p b)) None) same ∙ keep_one (eqb (rank y) n) b m p) (keep_cells x n b cs e)

  every_at : (Q : Symbol → Type 0) (cs : List (Cell W)) →
      ((i : ℕ) (p : W.Cursor) → at (cursors W cs) i ≡ Some p → Q (W.symbol p)) → Every W Q cs
  every_at Q [] h = tt
  every_at Q (out m ∷ cs) h = every_at Q cs (λ i p e. h (suc i) p e)
  every_at Q (live m p ∷ cs) h = (h 0 p refl, every_at Q cs (λ i p e. h (suc i) p e))

  pub alive_at : (cs : List (Cell W)) → alive W cs ≡ true → (i : ℕ) × ((p : W.Cursor) × (at (cursors W cs) i ≡ Some p))
  alive_at [] h = cc
  alive_at (out m ∷ cs) h = let q = alive_at cs h in (suc q.0, q.1)
  alive_at (live m p ∷ cs) h = (0, (p, refl))

module _ (G : Game) where
  abbrev W : Script
  W = G.script

  abbrev D : Side
  D = G.side

  pub slots_last : (k : ℕ) (j : Joint G) → slots G (suc k) j ≡ slot G (slots G k j)
  slots_last zero j = refl
  slots_last (suc k) j = slots_last k (slot G j)

  -- the letters of the first k slots
  abbrev pub spelled : Live G → D.S → ℕ → List Letter
  spelled l s zero = []
  spelled l s (suc k) = spelled l s k ++ (letter_at G l s k ∷ [])

  -- after k slots of the contenders l from the side s0 the cursors ps are live, with at most r slots left,
  -- and the side is s
  pub record Run (l : Live G) (s0 : D.S) (k r : ℕ) (ps : Live G) (s : D.S) : Type 0 where
    pub runs : joint G l s0 k ≡ opened G ps s
    pub fair : Fair G r ps
    pub quiet : (i : ℕ) (p : W.Cursor) → at ps i ≡ Some p → Quiet G p s
    pub paired : Paired G l
    pub sums : r + k ≡ most_letters

  pub spells : {l : Live G} {s0 : D.S} {k r : ℕ} {ps : Live G} {s : D.S} (c : Letter) → Run l s0 k r ps s →
      next_letter G ps s ≡ c → spelled l s0 k ++ (c ∷ []) ≡ spelled l s0 (suc k)
  spells c h e = grind arith

  quiet_next : (x : Symbol) (p r : W.Cursor) (s : D.S) → W.symbol p ≡ x → r ≡ W.next p (heard D x s) → ends x ≡ false →
      Quiet G p s → Quiet G r (after D x s)
  quiet_next x p r s e d h k = rw (d, ← e) (λ n. (k (suc n)).1 (λ z. not_end x h (sym e ∙ z)))

  run_next : (l : Live G) (s0 : D.S) (k r : ℕ) (ps : Live G) (s : D.S) → Run l s0 k (suc r) ps s →
      ends (lead W ps) ≡ false → Run l s0 (suc k) r (next_live G ps s) (next_side G ps s)
  run_next l s0 k r ps s h e = record {
    runs = slots_last k (opened G l s0) ∙ ap (slot G) h.runs ∙ moves G ps s e;
    fair = fair_next G r ps s h.fair e;
    quiet = λ i p a.
        let g = kept_at G (lead W ps) (next_level G ps s) ps i p a in
        quiet_next (lead W ps) g.was p s g.shows g.rest e (h.quiet i g.was g.there);
    paired = h.paired;
    sums = let z = h.sums in omega arith;
  }

  -- what the run says of the cells
  module _ {l : Live G} {s0 : D.S} {k r : ℕ} (cs : List (Cell W)) {s : D.S} (h : Run l s0 k r (cursors W cs) s) where
    abbrev here : Symbol
    here = lead W (cursors W cs)

    pub some_left : alive W cs ≡ true → 1 ≤ r
    some_left v =
        let q = alive_at W cs v in
        omega (arith, G.laws.some_left q.1.0, h.fair.small q.0 q.1.0 q.1.1)

    pub run_shape : alive W cs ≡ true → Shape W D cs s
    run_shape v = go (cases_lt (rank here) 4) (lead_shown W (cursors W cs))
      where
        go : (rank here < 4) ⊎ (4 ≤ rank here) → (here ≡ Listen) ⊎ Shown W (cursors W cs) → Shape W D cs s
        go (inr a) z =
            inl (every_at W (λ x. rank x ≡ 4) cs
            (λ i p e. omega (arith, lead_least W (cursors W cs) i p e, rank_top (W.symbol p))))
        go (inl a) (inl e) = absurd (omega (arith, ap rank e))
        go (inl a) (inr q) =
            let still : W.symbol q.1.0 ≡ Listen → ⊥ = λ e. omega (arith, ap rank e, ap rank q.1.2) in
            inr (
              every_at W (λ x. rank x ≤ 3) cs (λ i p e. elim (cases_lt (rank (W.symbol p)) 4) [
                | inl b ↦ omega arith
                | inr b ↦
                    let like = h.fair.alike i q.0 p q.1.0 e q.1.1 in
                    absurd (still (G.laws.both_listen p q.1.0 like (top_listens (W.symbol p) b)))
              ]),
              (h.quiet q.0 q.1.0 q.1.1 1).0 still,
            )

    pub run_carries : heard D here s ≡ carries W D cs s
    run_carries =
        level D here s (λ n. elim (lead_shown W (cursors W cs)) [
          | inl e ↦ absurd (n e)
          | inr q ↦ (h.quiet q.0 q.1.0 q.1.1 1).0 (λ e. n (sym q.1.2 ∙ e))
        ])
        ∙ ap (λ b. not (b || D.pulls s)) (sym (some_lead W cs))

  -- the next slot, by the cells
  module _ {l : Live G} {s0 : D.S} {k r : ℕ} (cs : List (Cell W)) {s : D.S} (h : Run l s0 k (suc r) (cursors W cs) s)
      (v : alive W cs ≡ true) where
    abbrev shows : Symbol
    shows = lead W (cursors W cs)

    -- the survivors of the rank n, with the next slot's cursors
    abbrev goes_on : ℕ → Live G
    goes_on n = cursors W (advance W (carries W D cs s) (stay W n cs))

    run_cells : (n : ℕ) → least W cs ≡ n → (n ≡ 1 → ⊥) → Run l s0 (suc k) r (goes_on n) (after D shows s)
    run_cells n e d =
        let a : rank shows ≡ n = leads W cs v ∙ e in
        let survive = ap (λ b. keep_all W shows b (cursors W cs)) (run_carries cs h)
        ∙ keep_cells W shows n (carries W D cs s) cs a in
        subst (λ ps. Run l s0 (suc k) r ps (after D shows s)) survive
        (run_next l s0 k r (cursors W cs) s h (ends_rank shows (λ z. d (sym a ∙ z))))

    pub run_bit : (n : ℕ) → least W cs ≡ n → (n ≡ 1 → ⊥) → (n ≡ 2 → ⊥) →
        Run l s0 (suc k) r (goes_on n) (D.bit s (carries W D cs s))
    run_bit n e d1 d2 =
        let a : rank shows ≡ n = leads W cs v ∙ e in
        let bit = after_bit D shows s (λ z. d1 (sym a ∙ z)) (λ z. d2 (sym a ∙ z)) in
        subst (λ t. Run l s0 (suc k) r (goes_on n) t) (bit ∙ ap (D.bit s) (run_carries cs h))
        (run_cells n e d1)

    pub run_again : least W cs ≡ 2 → Run l s0 (suc k) r (goes_on 2) (D.begin s)
    run_again e =
        subst (λ t. Run l s0 (suc k) r (goes_on 2) t) (after_again D shows s (leads W cs v ∙ e))
        (run_cells 2 e (omega arith))
