-- Cursors that carried the same letters listen at the same slots, and stay alike until they show different symbols.
use Rattle.std.proofs.Common.{◌≡◌, ℕ, suc, ◌<◌, ◌≤◌, Bool, true, false, cond, ◌&&◌}
use Rattle.std.proofs.Common.{ltb, ◌⊎◌, Option, sym, refl, ◌∙◌, inl, inr, arith}
use Rattle.std.proofs.lemmas.Bool.{cases_lt, lt-ltb, le-ltb}
use Rattle.transfer.specs.Transfer.{TransferModel}
use Rattle.transfer.specs.Leg.{LegModel}
use Rattle.master.specs.declared.symbol.Symbol.{Symbol}
use Rattle.master.specs.declared.symbol.Symbol.TheVariants.{Listen, Stop}
use Rattle.master.specs.Cursor.{Play, at_end, at_restart, in_leg, CursorModel, new_cursor}
use Rattle.master.specs.Cursor.{is_write, master_sends, leg_size, symbol_in_leg, symbol_of}
use Rattle.master.specs.Script.{transfers}
use Rattle.law.proofs.Machine.Game.{Laws}
use Rattle.law.proofs.FarSide.{ends}
use Rattle.transfer.specs.Legal.{IsLegalLeg, IsLegalSecond, IsLegal}
use Rattle.law.proofs.Alone.CursorByParts.{leaves, goes_on, moves, next_is}
use Rattle.law.proofs.Alone.SlotsRunOut.{slots_left, some_left, fewer}

-- one direction, unless the direction bit is still to come
abbrev pub OneWay : LegModel → LegModel → ℕ → ℕ → Type 0
OneWay f g y b = ((y ≡ 0) × (b ≤ 7)) ⊎ (is_write f.body ≡ is_write g.body)

-- two cursors in legs at one byte and one bit
pub record Level (f g : LegModel) (m o : Option LegModel) (x y a b : ℕ) : Type 0 where
  pub same_byte : x ≡ y
  pub same_bit : a ≡ b
  pub one_way : OneWay f g x a
  pub one_legal : IsLegalLeg f × IsLegalSecond m
  pub other_legal : IsLegalLeg g × IsLegalSecond o

-- two cursors at one place
abbrev pub Same : Play → Play → Type 0
Same at_end at_end = Unit {0}
Same at_end (at_restart g) = ⊥
Same at_end (in_leg g o y b) = ⊥
Same (at_restart f) at_end = ⊥
Same (at_restart f) (at_restart g) = IsLegalLeg f × IsLegalLeg g
Same (at_restart f) (in_leg g o y b) = ⊥
Same (in_leg f m x a) at_end = ⊥
Same (in_leg f m x a) (at_restart g) = ⊥
Same (in_leg f m x a) (in_leg g o y b) = Level f g m o x y a b

-- two cursors of which neither listens, and which part in this slot
pub record Apart (p q : Play) : Type 0 where
  pub one_shows : symbol_of p ≡ Listen → ⊥
  pub other_shows : symbol_of q ≡ Listen → ⊥
  pub differ : symbol_of p ≡ symbol_of q → ⊥

abbrev pub AlikePlay : Play → Play → Type 0
AlikePlay p q = Same p q ⊎ Apart p q

abbrev pub Alike : CursorModel → CursorModel → Type 0
Alike c e = AlikePlay c.play e.play

-- the master sends a byte in both or in neither
same_own : (f g : LegModel) (y b : ℕ) → OneWay f g y b → master_sends f y ≡ master_sends g y
same_own f g y b h = grind arith

both_listen : (p q : Play) → AlikePlay p q → symbol_of p ≡ Listen → symbol_of q ≡ Listen
both_listen p q h k = grind arith

-- readers that show the same acknowledge both go on or both leave
read_on : (f g : LegModel) (y b : ℕ) → IsLegalLeg f → IsLegalLeg g → 8 ≤ b →
    is_write f.body ≡ false → is_write g.body ≡ false →
    symbol_in_leg f y b ≡ symbol_in_leg g y b → ltb y (leg_size f) ≡ ltb y (leg_size g)
read_on f g y b h k e d q r = grind arith

still_one_way : (f g : LegModel) (y b : ℕ) → b < 8 → OneWay f g y b →
    symbol_in_leg f y b ≡ symbol_in_leg g y b → OneWay f g y (suc b)
still_one_way f g y b h k e = grind arith

-- at the ninth bit the direction bit is past
late_one_way : (f g : LegModel) (y b : ℕ) → 8 ≤ b → OneWay f g y b → is_write f.body ≡ is_write g.body
late_one_way f g y b h k = grind arith

ended_alike : (t : Bool) (p q : Play) → AlikePlay p q → AlikePlay (cond t at_end p) (cond t at_end q)
ended_alike t p q h = grind arith

-- two legs, each with the one to come after it
module _ (f g : LegModel) (m o : Option LegModel)
    (hf : IsLegalLeg f × IsLegalSecond m) (hg : IsLegalLeg g × IsLegalSecond o) where
  abbrev Goes : ℕ → Bool → Bool → Type 0
  Goes y s t = AlikePlay (cond s (in_leg f m (suc y) 0) (leaves m)) (cond t (in_leg g o (suc y) 0) (leaves o))

  -- after a written byte one may go on while another leaves
  writers : (y : ℕ) (s t : Bool) → is_write f.body ≡ true → is_write g.body ≡ true → Goes y s t
  writers y s t h k = grind arith

  -- readers part at their own acknowledge, and so go on or leave together
  readers : (y : ℕ) (s t : Bool) → is_write f.body ≡ is_write g.body → s ≡ t → Goes y s t
  readers y s t h k = grind arith

  goes_alike : (y b : ℕ) → 8 ≤ b → (w : Bool) → is_write f.body ≡ w → is_write g.body ≡ w →
      symbol_in_leg f y b ≡ symbol_in_leg g y b → AlikePlay (goes_on f m y) (goes_on g o y)
  goes_alike y b h true p q e = writers y (ltb y (leg_size f)) (ltb y (leg_size g)) p q
  goes_alike y b h false p q e =
      readers y (ltb y (leg_size f)) (ltb y (leg_size g)) (p ∙ sym q) (read_on f g y b hf.0 hg.0 h p q e)

  -- the same symbol, with the same level heard, leaves them alike
  sends_alike : (y b : ℕ) (heard : Bool) → OneWay f g y b → symbol_in_leg f y b ≡ symbol_in_leg g y b →
      AlikePlay (moves (in_leg f m y b) heard) (moves (in_leg g o y b) heard)
  sends_alike y b heard c e = elim (cases_lt b 8) [
    | inl d ↦ rw (lt-ltb b 8 d) (inl (record {
      same_byte = refl;
      same_bit = refl;
      one_way = still_one_way f g y b d c e;
      one_legal = hf;
      other_legal = hg;
    }))
    | inr d ↦
        let goes = goes_alike y b d (is_write g.body) (late_one_way f g y b d c) refl e in
        rw (le-ltb b 8 d, same_own f g y b c)
        (ended_alike (master_sends g y && heard) (goes_on f m y) (goes_on g o y) goes)
  ]

-- alike that show the same and hear the same stay alike
still_alike : (p q : Play) (heard : Bool) → AlikePlay p q → symbol_of p ≡ symbol_of q →
    AlikePlay (moves p heard) (moves q heard)
still_alike p q t (inr a) e = absurd (a.differ e)
still_alike at_end at_end t (inl h) e = inl tt
still_alike at_end (at_restart g) t (inl h) e = elim h [ ]
still_alike at_end (in_leg g o y b) t (inl h) e = elim h [ ]
still_alike (at_restart f) at_end t (inl h) e = elim h [ ]
still_alike (at_restart f) (at_restart g) t (inl h) e = inl (record {
  same_byte = refl;
  same_bit = refl;
  one_way = inl (refl, omega arith);
  one_legal = (h.0, tt);
  other_legal = (h.1, tt);
})
still_alike (at_restart f) (in_leg g o y b) t (inl h) e = elim h [ ]
still_alike (in_leg f m x a) at_end t (inl h) e = elim h [ ]
still_alike (in_leg f m x a) (at_restart g) t (inl h) e = elim h [ ]
still_alike (in_leg f m x a) (in_leg g o y b) t (inl h) e =
    rw (← h.same_byte, ← h.same_bit)
    (sends_alike f g m o h.one_legal h.other_legal x a t h.one_way (rw (← h.same_byte, ← h.same_bit) at e))

not_stop : (x : Symbol) → (x ≡ Stop → ⊥) → ends x ≡ false
not_stop x h = grind arith

-- what arbitration wants of a script
pub cursor_laws : Laws transfers slots_left Alike
cursor_laws = record {
  some_left = some_left;
  fewer = λ c heard h. fewer c heard (not_stop (symbol_of c.play) h);
  both_listen = λ c e h k. both_listen c.play e.play h k;
  still_alike = λ c e heard h k.
      rw (next_is c.play c.notes heard, next_is e.play e.notes heard) (still_alike c.play e.play heard h k);
}

-- cursors at their openings are alike
pub open_alike : (t u : TransferModel) → IsLegal t → IsLegal u → Alike (new_cursor t) (new_cursor u)
open_alike t u h k = inl (record {
  same_byte = refl;
  same_bit = refl;
  one_way = inl (refl, omega arith);
  one_legal = (h.first_leg, h.second_leg);
  other_legal = (k.first_leg, k.second_leg);
})
