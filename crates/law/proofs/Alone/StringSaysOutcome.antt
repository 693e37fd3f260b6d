-- Equal strings, over whatever ports, end with equal notes.
use Rattle.std.proofs.Common.{◌≡◌, ℕ, zero, suc, ◌≤◌, Bool, true, false, cond}
use Rattle.std.proofs.Common.{List, [], ◌∷◌, sym, refl, ap, ◌∙◌, subst, arith}
use Rattle.std.proofs.lemmas.Bool.{true≢false, false≢true}
use Rattle.master.specs.declared.symbol.Symbol.{Symbol}
use Rattle.master.specs.Cursor.{Play, Notes, CursorModel, symbol_of, cursor_next}
use Rattle.master.specs.Script.{transfers}
use Rattle.law.specs.Letter.{Letter, zero as low, stop, restart, one}
use Rattle.law.proofs.FarSide.{Side, ends, letter, heard, after, string, final}
use Rattle.law.proofs.Alone.CursorsStayAlike.{AlikePlay, Alike, cursor_laws}
use Rattle.law.proofs.Alone.CursorByParts.{notes_on, next_is}
use Rattle.law.proofs.Alone.SlotsRunOut.{slots_left, some_left, fewer}

-- the level that a letter carries
abbrev level_by : Letter → Bool
level_by low = false
level_by stop = false
level_by restart = true
level_by one = true

module _ (D : Side) where
  -- what is heard in a slot is said by its letter
  heard_is : (x : Symbol) (s : D.S) → heard D x s ≡ level_by (letter D x s)
  heard_is x s = grind arith

-- cursors that stay alike note the same
alike_notes : (p q : Play) (n : Notes) (h : Bool) → AlikePlay p q → symbol_of p ≡ symbol_of q →
    notes_on p n h ≡ notes_on q n h
alike_notes p q n h k e = grind arith

-- cursors that note the same, and go on to while they show the same
pub record Twins (c e : CursorModel) : Type 0 where
  pub one_way : Alike c e
  pub back : Alike e c
  pub notes_same : c.notes ≡ e.notes

still_twins : (c e : CursorModel) (b : Bool) → Twins c e → symbol_of c.play ≡ symbol_of e.play →
    Twins (cursor_next c b) (cursor_next e b)
still_twins c e b h k = record {
  one_way = cursor_laws.still_alike c e b h.one_way k;
  back = cursor_laws.still_alike e c b h.back (sym k);
  notes_same = ap (λ x. x.notes) (next_is c.play c.notes b) ∙ alike_notes c.play e.play c.notes b h.one_way k ∙
      ap (λ n. notes_on e.play n b) h.notes_same ∙ sym (ap (λ x. x.notes) (next_is e.play e.notes b));
}

module _ (D E : Side) where
  -- twins that spell the same letter show the same symbol: where one listens, both do
  twins_show : (c e : CursorModel) (s : D.S) (t : E.S) → Twins c e →
      letter D (symbol_of c.play) s ≡ letter E (symbol_of e.play) t → symbol_of c.play ≡ symbol_of e.play
  twins_show c e s t h k = grind arith

  -- twins that spell the same string alone, within n and within k slots, end with the same notes
  abbrev SameEnd : ℕ → ℕ → CursorModel → CursorModel → D.S → E.S → Type 0
  SameEnd n k c e s t = Twins c e → slots_left c ≤ n → slots_left e ≤ k →
      string transfers D n c s ≡ string transfers E k e t →
      (final transfers D n c s).notes ≡ (final transfers E k e t).notes

  pub same_end : (n k : ℕ) (c e : CursorModel) (s : D.S) (t : E.S) → SameEnd n k c e s t
  same_end zero k c e s t h l r q = absurd (omega (arith, some_left c))
  same_end (suc n) zero c e s t h l r q = absurd (omega (arith, some_left e))
  same_end (suc n) (suc k) c e s t h l r q = go (ends x) (ends y) refl refl q (same_end n k c' e' s' t')
    where
      x : Symbol
      x = symbol_of c.play

      y : Symbol
      y = symbol_of e.play

      c' : CursorModel
      c' = cursor_next c (heard D x s)

      e' : CursorModel
      e' = cursor_next e (heard E y t)

      s' : D.S
      s' = after D x s

      t' : E.S
      t' = after E y t

      go : (i j : Bool) → ends x ≡ i → ends y ≡ j →
          ◌≡◌ {A = List Letter}
          (letter D x s ∷ cond i [] (string transfers D n c' s'))
          (letter E y t ∷ cond j [] (string transfers E k e' t')) →
          SameEnd n k c' e' s' t' →
          (cond i c (final transfers D n c' s')).notes ≡ (cond j e (final transfers E k e' t')).notes
      go true true p w v ih = h.notes_same
      go true false p w v ih = absurd (true≢false (sym p ∙ ap ends (twins_show c e s t h (cc)) ∙ w))
      go false true p w v ih = absurd (false≢true (sym p ∙ ap ends (twins_show c e s t h (cc)) ∙ w))
      go false false p w v ih =
          let same : letter D x s ≡ letter E y t = cc in
          let heard_same : heard D x s ≡ heard E y t = heard_is D x s ∙ ap level_by same ∙ sym (heard_is E y t) in
          let twins = still_twins c e (heard D x s) h (twins_show c e s t h same) in
          ih (subst (λ f. Twins c' (cursor_next e f)) heard_same twins)
          (omega (arith, fewer c (heard D x s) p)) (omega (arith, fewer e (heard E y t) w)) (cc)
