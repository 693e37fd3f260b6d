-- Arbitration ends with a winner, which has the least string, and each loser drops where its string first differs.
use Rattle.std.proofs.Common.{◌≡◌, ℕ, zero, suc, ◌+◌, ◌<◌, ◌≤◌, Bool, true, false, cond, ltb, leb, List, [], ◌∷◌}
use Rattle.std.proofs.Common.{length, is_some, Some, None, sym, refl, ap, ◌∙◌, inl, inr, arith}
use Rattle.std.specs.Prelude.{slice_index_or}
use Rattle.std.proofs.lemmas.Bool.{ltb-true, cases_Bool, cases_lt, leb-true, le-leb, lt-leb}
use Rattle.std.proofs.lemmas.Bool.Decides.{nat_tests}
use Rattle.master.specs.declared.symbol.Symbol.{Symbol}
use Rattle.master.specs.Script.{Script}
use Rattle.law.proofs.FarSide.{Side, ends, letter, heard, after, string, last}
use Rattle.law.proofs.Machine.PhasesOfSlot.{rank}
use Rattle.law.specs.Law.{FirstDifference}
use Rattle.law.specs.Letter.{Letter, zero as low, rank as place, same_letter, first_or_same}
use Rattle.law.proofs.LetterByRank.{same_is}
use Rattle.law.proofs.Machine.Arbitration.{at, common, lead, joint, Live, alone, alone_side}
use Rattle.law.proofs.Machine.EventForAll.{rank_top}
use Rattle.law.proofs.Machine.LeadingSymbol.{rank_inj, lead_least, lead_shown, Shown, at_keep}
use Rattle.law.proofs.Machine.FateOfContender.{common_same, text, Fate, next_level, next_letter, letter_at, next_live}
use Rattle.law.proofs.Machine.FateOfContender.{next_side, slots_next, keeps, Paired, Fair, kept_at, fair_next, fate}
use Rattle.law.proofs.Machine.Game.{Game}

pub lexb_anti : (t u : List Letter) → first_or_same t u ≡ true → first_or_same u t ≡ true → t ≡ u
lexb_anti [] [] h k = refl
lexb_anti [] (b ∷ u) h k = cc
lexb_anti (a ∷ t) [] h k = cc
lexb_anti (a ∷ t) (b ∷ u) h k = heads (lexb_anti t u) (same_letter a b) (same_letter b a) refl refl h k
  where
    heads : (first_or_same t u ≡ true → first_or_same u t ≡ true → t ≡ u) → (x y : Bool) → same_letter a b ≡ x →
        same_letter b a ≡ y → cond x (first_or_same t u) (ltb (place a) (place b)) ≡ true →
        cond y (first_or_same u t) (ltb (place b) (place a)) ≡ true → (a ∷ t) ≡ (b ∷ u)
    heads ih true true e d v w = let z = ih v w in let y : a ≡ b = same_is a b e in cc
    heads ih true false e d v w = absurd (grind (arith, nat_tests))
    heads ih false true e d v w = absurd (grind (arith, nat_tests))
    heads ih false false e d v w = absurd (grind (arith, nat_tests))

pub common_whole : (t : List Letter) → common t t ≡ length t
common_whole [] = refl
common_whole (a ∷ t) = common_same a t t ∙ ap suc (common_whole t)

first : (t u : List Letter) → first_or_same t u ≡ true → common t u < length t → FirstDifference t u (common t u)
first [] u h d = absurd (omega arith)
first (a ∷ t) [] h d = cc
first (a ∷ t) (b ∷ u) h d = heads (first t u) (same_letter a b) refl h d
  where
    heads : (first_or_same t u ≡ true → common t u < length t → FirstDifference t u (common t u)) → (x : Bool) →
        same_letter a b ≡ x → cond x (first_or_same t u) (ltb (place a) (place b)) ≡ true →
        cond x (suc (common t u)) 0 < suc (length t) → FirstDifference (a ∷ t) (b ∷ u) (cond x (suc (common t u)) 0)
    heads ih true e v w =
        let f = ih v (omega arith) in
        record { in_t = omega arith; in_u = omega arith; same = same f; less = f.less }
      where
        same : FirstDifference t u (common t u) → (k : ℕ) → k < suc (common t u) →
            slice_index_or (a ∷ t) k low ≡ slice_index_or (b ∷ u) k low
        same f zero h = same_is a b e
        same f (suc k) h = f.same k (omega arith)
    heads ih false e v w = record {
      in_t = omega arith;
      in_u = omega arith;
      same = λ k h. absurd (omega arith);
      less = ltb-true (place a) (place b) v;
    }

module _ (G : Game) where
  abbrev W : Script
  W = G.script

  abbrev D : Side
  D = G.side

  -- what holds of the contenders l from the side s, where t is the least of their strings
  pub record Arbitrated (l : Live G) (s : D.S) (t : List Letter) : Type 0 where
    pub winner : (i : ℕ) × ((p : W.Cursor) × (at l i ≡ Some p) × (alone G p s ≡ t))
    pub least : (i : ℕ) (p : W.Cursor) → at l i ≡ Some p → first_or_same t (alone G p s) ≡ true
    -- the last of these slots is the first that ends
    pub early : (k : ℕ) → k < length t → (joint G l s k).over ≡ false
    pub over : (joint G l s (length t)).over ≡ true
    -- who is in after k slots
    pub live : (i : ℕ) (p : W.Cursor) → at l i ≡ Some p → (k : ℕ) → k ≤ length t →
        is_some (at (joint G l s k).live i) ≡ leb k (common t (alone G p s))
    -- who is in at the Stop
    pub won : (i : ℕ) (p : W.Cursor) → at l i ≡ Some p → is_some (at (joint G l s (length t)).live i) ≡ true →
        alone G p s ≡ t
    pub wins : (i : ℕ) (p : W.Cursor) → at l i ≡ Some p →
        ((k : ℕ) (q : W.Cursor) → at l k ≡ Some q → first_or_same (alone G p s) (alone G q s) ≡ true) →
        is_some (at (joint G l s (length t)).live i) ≡ true
    -- a loser drops in the slot in which its string first differs
    pub lost : (i : ℕ) (p : W.Cursor) → at l i ≡ Some p → (alone G p s ≡ t → ⊥) →
        (c : ℕ) × FirstDifference t (alone G p s) c ×
        (is_some (at (joint G l s c).live i) ≡ true) × (is_some (at (joint G l s (suc c)).live i) ≡ false)
    -- what each slot carries
    pub letters : (k : ℕ) → k < length t → letter_at G l s k ≡ slice_index_or t k low
    -- the side at the Stop
    pub ended : (i : ℕ) (p : W.Cursor) → at l i ≡ Some p → alone G p s ≡ t →
        (joint G l s (length t)).side ≡ alone_side G p s

  -- the slots end after the string t, within n of them, and somebody has that string
  pub record Finish (n : ℕ) (l : Live G) (s : D.S) (t : List Letter) : Type 0 where
    pub winner : (i : ℕ) × ((p : W.Cursor) × (at l i ≡ Some p) × (string W D n p s ≡ t))
    pub over : (joint G l s (length t)).over ≡ true
    pub early : (k : ℕ) → k < length t → (joint G l s k).over ≡ false
    pub letters : (k : ℕ) → k < length t → letter_at G l s k ≡ slice_index_or t k low

  string_next : (n : ℕ) (x : Symbol) (p r : W.Cursor) (s : D.S) → W.symbol p ≡ x → ends x ≡ false →
      r ≡ W.next p (heard D x s) →
      string W D (suc n) p s ≡ letter D x s ∷ string W D n r (after D x s)
  string_next n x p r s e d h = rw (h, e, d)

  finish_end : (n : ℕ) (l : Live G) (s : D.S) (i : ℕ) (p : W.Cursor) → at l i ≡ Some p → W.symbol p ≡ lead W l →
      ends (lead W l) ≡ true →
      Finish (suc n) l s (next_letter G l s ∷ [])
  finish_end n l s i p a e d = record { winner = (i, (p, a, rw (e, d))); over = d; early = early; letters = letters }
    where
      early : (k : ℕ) → k < 1 → (joint G l s k).over ≡ false
      early zero h = refl
      early (suc k) h = absurd (omega arith)

      letters : (k : ℕ) → k < 1 → letter_at G l s k ≡ slice_index_or (next_letter G l s ∷ []) k low
      letters zero h = refl
      letters (suc k) h = absurd (omega arith)

  finish_more : (n : ℕ) (l : Live G) (s : D.S) (t : List Letter) → ends (lead W l) ≡ false →
      Finish n (next_live G l s) (next_side G l s) t →
      Finish (suc n) l s (next_letter G l s ∷ t)
  finish_more n l s t d f = record {
    winner = winner;
    over = rw (slots_next G (length t) l s d) f.over;
    early = early;
    letters = letters;
  }
    where
      winner : (i : ℕ) × ((p : W.Cursor) × (at l i ≡ Some p) × (string W D (suc n) p s ≡ next_letter G l s ∷ t))
      winner =
          let w = f.winner in
          let k = kept_at G (lead W l) (next_level G l s) l w.0 w.1.0 w.1.1 in
          let same = string_next n (lead W l) k.was w.1.0 s k.shows d k.rest in
          (w.0, (k.was, k.there, same ∙ ap (λ z. next_letter G l s ∷ z) w.1.2))

      early : (k : ℕ) → k < suc (length t) → (joint G l s k).over ≡ false
      early zero h = refl
      early (suc k) h = rw (slots_next G k l s d) (f.early k (omega arith))

      letters : (k : ℕ) → k < suc (length t) → letter_at G l s k ≡ slice_index_or (next_letter G l s ∷ t) k low
      letters zero h = refl
      letters (suc k) h = rw (slots_next G k l s d) (f.letters k (omega arith))

  shown : (l : Live G) (i : ℕ) (p : W.Cursor) → at l i ≡ Some p → Shown W l
  shown l i p a = elim (lead_shown W l) [
    | inr q ↦ q
    | inl e ↦ (
      i,
      (p, a, rank_inj (W.symbol p) (lead W l) (omega (arith, lead_least W l i p a, ap rank e, rank_top (W.symbol p)))),
    )
  ]

  finish : (n : ℕ) (l : Live G) (s : D.S) → Fair G n l → (i : ℕ) (p : W.Cursor) → at l i ≡ Some p →
      Finish n l s (text G n l s)
  finish zero l s f i p a = absurd (omega (arith, G.laws.some_left p, f.small i p a))
  finish (suc n) l s f i p a = let q = shown l i p a in elim (cases_Bool (ends (lead W l))) [
    | inl d ↦ rw d (finish_end n l s q.0 q.1.0 q.1.1 q.1.2 d)
    | inr d ↦ rw d (finish_more n l s _ d (finish n (next_live G l s) (next_side G l s) (fair_next G n l s f d) q.0
        (W.next q.1.0 (next_level G l s))
        (rw (at_keep W (lead W l) (next_level G l s) l q.0, q.1.1, keeps G (lead W l) (next_level G l s) q.1.0 q.1.2))))
  ]

  pub fuel : (n m : ℕ) (p : W.Cursor) (s : D.S) → G.left p ≤ n → G.left p ≤ m →
      (string W D n p s ≡ string W D m p s) × (last W D n p s ≡ last W D m p s)
  fuel zero m p s h k = absurd (omega (arith, G.laws.some_left p))
  fuel (suc n) zero p s h k = absurd (omega (arith, G.laws.some_left p))
  fuel (suc n) (suc m) p s h k = grind (arith, fuel n m)

  abbrev pub most : Live G → ℕ
  most [] = 0
  most (None ∷ l) = most l
  most (Some p ∷ l) = G.left p + most l

  small : (l : Live G) (i : ℕ) (p : W.Cursor) → at l i ≡ Some p → G.left p ≤ most l
  small [] i p e = cc
  small (None ∷ l) zero p e = cc
  small (None ∷ l) (suc i) p e = small l i p e
  small (Some q ∷ l) zero p e = let z : q ≡ p = cc in rw (← z) (omega arith)
  small (Some q ∷ l) (suc i) p e = omega (arith, small l i p e)

  pub settled : (l : Live G) (s : D.S) → Paired G l → (i : ℕ) (p : W.Cursor) → at l i ≡ Some p →
      Arbitrated l s (text G (most l) l s)
  settled l s alike i p a = record {
    winner = let w = f.winner in (w.0, (w.1.0, w.1.1, (same w.0 w.1.0 w.1.1).0 ∙ w.1.2));
    least = λ k q e. (own k q e).least;
    early = f.early;
    over = f.over;
    live = λ k q e. (own k q e).live;
    won = λ k q e h. (own k q e).whole
        (leb-true (length t) (common t (alone G q s)) (sym ((own k q e).live (length t) (omega arith)) ∙ h));
    wins = λ k q e h. wins k q e (h f.winner.0 f.winner.1.0 f.winner.1.1);
    lost = λ k q e h. lost k q e (own k q e) h;
    letters = f.letters;
    ended = λ k q e. (own k q e).side;
  }
    where
      t : List Letter
      t = text G (most l) l s

      fair : Fair G (most l) l
      fair = record { small = small l; alike = alike }

      f : Finish (most l) l s (text G (most l) l s)
      f = finish (most l) l s fair i p a

      same : (k : ℕ) (q : W.Cursor) → at l k ≡ Some q →
          (alone G q s ≡ string W D (most l) q s) × (alone_side G q s ≡ last W D (most l) q s)
      same k q e = fuel (G.left q) (most l) q s (omega arith) (small l k q e)

      own : (k : ℕ) (q : W.Cursor) → at l k ≡ Some q →
          Fate G l s k (text G (most l) l s) (alone G q s) (alone_side G q s)
      own k q e = rw ((same k q e).0, (same k q e).1) (fate G (most l) l s fair k q e)

      lost : (k : ℕ) (q : W.Cursor) → at l k ≡ Some q → Fate G l s k t (alone G q s) (alone_side G q s) →
          (alone G q s ≡ t → ⊥) →
          (c : ℕ) × FirstDifference t (alone G q s) c
          × (is_some (at (joint G l s c).live k) ≡ true) × (is_some (at (joint G l s (suc c)).live k) ≡ false)
      lost k q e g h =
          let u = alone G q s in
          let d : common t u < length t = elim (cases_lt (common t u) (length t)) [
            | inl z ↦ z
            | inr z ↦ absurd (h (g.whole z))
          ] in (
            common t u,
            first t u g.least d,
            g.live (common t u) (omega arith) ∙ le-leb (common t u) (common t u) (omega arith),
            g.live (suc (common t u)) d ∙ lt-leb (suc (common t u)) (common t u) (omega arith),
          )

      wins : (k : ℕ) (q : W.Cursor) → at l k ≡ Some q → first_or_same (alone G q s) (alone G f.winner.1.0 s) ≡ true →
          is_some (at (joint G l s (length t)).live k) ≡ true
      wins k q e h =
          let w : alone G f.winner.1.0 s ≡ t = (same f.winner.0 f.winner.1.0 f.winner.1.1).0 ∙ f.winner.1.2 in
          let z : alone G q s ≡ t = lexb_anti (alone G q s) t (rw w at h) (own k q e).least in
          let y : common t (alone G q s) ≡ length t = ap (common t) z ∙ common_whole t in
          (own k q e).live (length t) (omega arith) ∙ le-leb (length t) (common t (alone G q s)) (omega arith)
