-- A contender stays in for as long as its string agrees with the least of all, which is never above its own.
use Rattle.std.proofs.Common.{◌≡◌, ℕ, zero, suc, ◌<◌, ◌≤◌, Bool, true, false, cond, leb, ◌⊎◌, List, [], ◌∷◌, length}
use Rattle.std.proofs.Common.{is_some, Some, None, sym, refl, ap, ◌∙◌, inl, inr, arith}
use lib.Dec.{leb-zero, leb-suc-suc, leb-suc-zero}
use Rattle.std.proofs.lemmas.Bool.{cases_Bool, cases_lt, eq-eqb, ne_eqb, lt-ltb}
use Rattle.master.specs.declared.symbol.Symbol.{Symbol}
use Rattle.master.specs.declared.symbol.Symbol.TheVariants.{Zero, One, Listen, RepeatedStart, Stop}
use Rattle.master.specs.Script.{Script}
use Rattle.law.proofs.FarSide.{Side, ends, letter, heard, after, string, last}
use Rattle.law.proofs.Machine.PhasesOfSlot.{rank}
use Rattle.law.specs.Letter.{Letter, rank as place, first_or_same}
use Rattle.law.proofs.Machine.Arbitration.{at, common, lead, keep, keep_all, Joint, moved, slot, slots, opened, joint, Live}
use Rattle.law.proofs.Machine.EventForAll.{rank_top}
use Rattle.law.proofs.Machine.LeadingSymbol.{rank_inj, top_listens, lead_least, lead_shown, at_keep, Kept, kept}
use Rattle.law.proofs.Machine.Game.{Game}

pub not_end : (x : Symbol) → ends x ≡ false → x ≡ Stop → ⊥
not_end x e d = cc

pub lexb_same : (a : Letter) (t u : List Letter) → first_or_same (a ∷ t) (a ∷ u) ≡ first_or_same t u
lexb_same a t u = rw (eq-eqb (place a) (place a) refl)

pub lexb_less : (a b : Letter) (t u : List Letter) → place a < place b → first_or_same (a ∷ t) (b ∷ u) ≡ true
lexb_less a b t u h = rw (ne_eqb (place a) (place b) (λ e. omega arith), lt-ltb (place a) (place b) h)

pub common_same : (a : Letter) (t u : List Letter) → common (a ∷ t) (a ∷ u) ≡ suc (common t u)
common_same a t u = rw (eq-eqb (place a) (place a) refl)

pub common_less : (a b : Letter) (t u : List Letter) → place a < place b → common (a ∷ t) (b ∷ u) ≡ 0
common_less a b t u h = rw (ne_eqb (place a) (place b) (λ e. omega arith))

module _ (D : Side) where
  letter_rank : (x : Symbol) (s : D.S) → rank x < 4 → place (letter D x s) ≡ rank x
  letter_rank Zero s h = refl
  letter_rank One s h = refl
  letter_rank Listen s h = absurd (omega arith)
  letter_rank RepeatedStart s h = refl
  letter_rank Stop s h = refl

  pub letter_less : (x y : Symbol) (s : D.S) → rank x < rank y → (y ≡ Listen → x ≡ Listen) →
      place (letter D x s) < place (letter D y s)
  letter_less x y s h k = elim (cases_lt (rank y) 4) [
    | inl d ↦ omega (arith, letter_rank x s (omega arith), letter_rank y s d)
    | inr d ↦ omega (arith, ap rank (k (top_listens y d)), rank_top y)
  ]

module _ (G : Game) where
  abbrev W : Script
  W = G.script

  abbrev D : Side
  D = G.side

  -- what the next slot carries and spells, and whom and what side it leaves
  abbrev pub next_level : Live G → D.S → Bool
  next_level l s = heard D (lead W l) s

  abbrev pub next_letter : Live G → D.S → Letter
  next_letter l s = letter D (lead W l) s

  abbrev pub next_live : Live G → D.S → Live G
  next_live l s = keep_all W (lead W l) (next_level l s) l

  abbrev pub next_side : Live G → D.S → D.S
  next_side l s = after D (lead W l) s

  -- what slot k spells
  abbrev pub letter_at : Live G → D.S → ℕ → Letter
  letter_at l s k = next_letter (joint G l s k).live (joint G l s k).side

  -- the letters of at most n slots
  abbrev pub text : ℕ → Live G → D.S → List Letter
  text zero l s = []
  text (suc n) l s = next_letter l s ∷ cond (ends (lead W l)) [] (text n (next_live l s) (next_side l s))

  -- what becomes of contender i of l: t is the least string, u its own, and v the side that it leaves alone
  pub record Fate (l : Live G) (s : D.S) (i : ℕ) (t u : List Letter) (v : D.S) : Type 0 where
    pub least : first_or_same t u ≡ true
    pub live : (k : ℕ) → k ≤ length t → is_some (at (joint G l s k).live i) ≡ leb k (common t u)
    pub whole : length t ≤ common t u → u ≡ t
    pub side : u ≡ t → (joint G l s (length t)).side ≡ v

  pub moves : (l : Live G) (s : D.S) → ends (lead W l) ≡ false →
      slot G (opened G l s) ≡ opened G (next_live l s) (next_side l s)
  moves l s e = rw e

  pub slots_next : (k : ℕ) (l : Live G) (s : D.S) → ends (lead W l) ≡ false →
      joint G l s (suc k) ≡ joint G (next_live l s) (next_side l s) k
  slots_next k l s e = cc

  pub keeps : (x : Symbol) (b : Bool) (p : W.Cursor) → W.symbol p ≡ x → keep W x b (Some p) ≡ Some (W.next p b)
  keeps x b p e = rw (eq-eqb (rank x) (rank (W.symbol p)) (ap rank (sym e)))

  fate_end : (l : Live G) (s : D.S) (i : ℕ) (p : W.Cursor) → at l i ≡ Some p → W.symbol p ≡ lead W l →
      Fate l s i (next_letter l s ∷ []) (next_letter l s ∷ []) (next_side l s)
  fate_end l s i p a e = record {
    least = lexb_same (next_letter l s) [] [];
    live = lives;
    whole = λ _. refl;
    side = λ _. refl;
  }
    where
      lives : (k : ℕ) → k ≤ 1 →
          is_some (at (joint G l s k).live i) ≡ leb k (common (next_letter l s ∷ []) (next_letter l s ∷ []))
      lives zero h = rw (a, leb-zero)
      lives (suc zero) h =
          let x = lead W l in
          rw (common_same (next_letter l s) [] [], at_keep W x (next_level l s) l i, a, keeps x (next_level l s) p e)
      lives (suc (suc k)) h = absurd (omega arith)

  fate_more : (l : Live G) (s : D.S) (i : ℕ) (t u : List Letter) (v : D.S) (p : W.Cursor) → at l i ≡ Some p →
      ends (lead W l) ≡ false →
      Fate (next_live l s) (next_side l s) i t u v →
      Fate l s i (next_letter l s ∷ t) (next_letter l s ∷ u) v
  fate_more l s i t u v p a e f = record {
    least = rw (lexb_same (next_letter l s) t u) f.least;
    live = lives;
    whole = λ h. ap (λ z. next_letter l s ∷ z) (f.whole (omega (arith, common_same (next_letter l s) t u)));
    side = λ h. rw (slots_next (length t) l s e) (f.side (cc));
  }
    where
      lives : (k : ℕ) → k ≤ suc (length t) →
          is_some (at (joint G l s k).live i) ≡ leb k (common (next_letter l s ∷ t) (next_letter l s ∷ u))
      lives zero h = rw (a, leb-zero)
      lives (suc k) h = rw (common_same (next_letter l s) t u, leb-suc-suc, slots_next k l s e) (f.live k (omega arith))

  pub gone : (k : ℕ) (j : Joint G) (i : ℕ) → at j.live i ≡ None → at (slots G k j).live i ≡ None
  gone zero j i e = e
  gone (suc k) j i e = gone k (slot G j) i (once j.over)
    where
      once : (b : Bool) → at (cond b j (moved G (lead W j.live) j.live j.side)).live i ≡ None
      once true = e
      once false = rw (at_keep W (lead W j.live) (heard D (lead W j.live) j.side) j.live i, e)

  fate_less : (l : Live G) (s : D.S) (i : ℕ) (a b : Letter) (t u : List Letter) (v : D.S) (p : W.Cursor) →
      at l i ≡ Some p → place a < place b → rank (lead W l) < rank (W.symbol p) →
      Fate l s i (a ∷ t) (b ∷ u) v
  fate_less l s i a b t u v p e h d = record {
    least = lexb_less a b t u h;
    live = lives;
    whole = λ z. absurd (omega (arith, common_less a b t u h));
    side = λ z. let y : b ≡ a = cc in absurd (omega (arith, ap place y));
  }
    where
      out : at (next_live l s) i ≡ None
      out =
          let differ = ne_eqb (rank (lead W l)) (rank (W.symbol p)) (λ z. omega arith) in
          rw (at_keep W (lead W l) (next_level l s) l i, e, differ)

      lives : (k : ℕ) → k ≤ suc (length t) → is_some (at (joint G l s k).live i) ≡ leb k (common (a ∷ t) (b ∷ u))
      lives zero z = rw (e, leb-zero)
      lives (suc k) z = rw (common_less a b t u h, leb-suc-zero, gone k (moved G (lead W l) l s) i out)

  abbrev pub Paired : Live G → Type 0
  Paired l = (i k : ℕ) (p q : W.Cursor) → at l i ≡ Some p → at l k ≡ Some q → G.Alike p q

  -- what an arbitration keeps: no cursor has more than n slots left, and all are alike
  pub record Fair (n : ℕ) (l : Live G) : Type 0 where
    pub small : (i : ℕ) (p : W.Cursor) → at l i ≡ Some p → G.left p ≤ n
    pub alike : Paired l

  pub alike_next : (x : Symbol) (b : Bool) (p q p' q' : W.Cursor) → W.symbol p ≡ x → W.symbol q ≡ x → p' ≡ W.next p b →
      q' ≡ W.next q b → G.Alike p q → G.Alike p' q'
  alike_next x b p q p' q' e d f g h = rw (f, g) (G.laws.still_alike p q b h (e ∙ sym d))

  pub left_next : (x : Symbol) (b : Bool) (p r : W.Cursor) → W.symbol p ≡ x → r ≡ W.next p b → ends x ≡ false →
      G.left r < G.left p
  left_next x b p r e d h = rw d (G.laws.fewer p b (λ z. not_end x h (sym e ∙ z)))

  pub kept_at : (x : Symbol) (b : Bool) (l : Live G) (i : ℕ) (r : W.Cursor) → at (keep_all W x b l) i ≡ Some r →
      Kept W x b (at l i) r
  kept_at x b l i r e = kept W x b (at l i) r (sym (at_keep W x b l i) ∙ e)

  pub fair_next : (n : ℕ) (l : Live G) (s : D.S) → Fair (suc n) l → ends (lead W l) ≡ false → Fair n (next_live l s)
  fair_next n l s f e = record { small = small; alike = alike }
    where
      small : (i : ℕ) (p : W.Cursor) → at (next_live l s) i ≡ Some p → G.left p ≤ n
      small i r a =
          let k = kept_at (lead W l) (next_level l s) l i r a in
          omega (arith, left_next (lead W l) (next_level l s) k.was r k.shows k.rest e, f.small i k.was k.there)

      alike : Paired (next_live l s)
      alike i m p q a c =
          let k = kept_at (lead W l) (next_level l s) l i p a in
          let o = kept_at (lead W l) (next_level l s) l m q c in
          let were = f.alike i m k.was o.was k.there o.there in
          alike_next (lead W l) (next_level l s) k.was o.was p q k.shows o.shows k.rest o.rest were

  -- a cursor that does not show the leading symbol shows a greater one, and spells a greater letter
  pub record Behind (l : Live G) (s : D.S) (p : W.Cursor) : Type 0 where
    pub places : rank (lead W l) < rank (W.symbol p)
    pub letters : place (next_letter l s) < place (letter D (W.symbol p) s)

  pub sorted : (n : ℕ) (l : Live G) (s : D.S) → Fair n l → (i : ℕ) (p : W.Cursor) → at l i ≡ Some p →
      (W.symbol p ≡ lead W l) ⊎ Behind l s p
  sorted n l s f i p a = elim (cases_lt (rank (lead W l)) (rank (W.symbol p))) [
    | inl h ↦ inr (record {
      places = h;
      letters = letter_less D (lead W l) (W.symbol p) s h (λ e. elim (lead_shown W l) [
        | inl d ↦ d
        | inr q ↦ sym q.1.2 ∙ G.laws.both_listen p q.1.0 (f.alike i q.0 p q.1.0 a q.1.1) e
      ]);
    })
    | inr h ↦ inl (rank_inj (W.symbol p) (lead W l) (omega (arith, lead_least W l i p a)))
  ]

  pub fate : (n : ℕ) (l : Live G) (s : D.S) → Fair n l → (i : ℕ) (p : W.Cursor) → at l i ≡ Some p →
      Fate l s i (text n l s) (string W D n p s) (last W D n p s)
  fate zero l s f i p a = absurd (omega (arith, G.laws.some_left p, f.small i p a))
  fate (suc n) l s f i p a = elim (sorted (suc n) l s f i p a) [
    | inr b ↦ fate_less l s i _ _ _ _ _ p a b.letters b.places
    | inl e ↦ elim (cases_Bool (ends (lead W l))) [
      | inl d ↦ rw (e, d) (fate_end l s i p a e)
      | inr d ↦ rw (e, d) (fate_more l s i _ _ _ p a d (fate n (next_live l s) (next_side l s) (fair_next n l s f d) i
          (W.next p (next_level l s))
          (rw (at_keep W (lead W l) (next_level l s) l i, a, keeps (lead W l) (next_level l s) p e))))
    ]
  ]
