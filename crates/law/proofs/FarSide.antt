-- A far side, as all ports together are one, and what a script played alone against it comes to, slot by slot.
use Rattle.std.proofs.Common.{◌≡◌, ℕ, zero, suc, Bool, true, false, cond, not, List, [], ◌∷◌, Some, None, Option}
use Rattle.master.specs.declared.symbol.Symbol.{Symbol}
use Rattle.master.specs.declared.symbol.Symbol.TheVariants.{Zero, One, Listen, RepeatedStart, Stop}
use Rattle.master.specs.Script.{Script}
use Rattle.wire.specs.declared.event.Event.{Event}
use Rattle.wire.specs.declared.event.Event.TheVariants.{Rise, Fall, Start, Stop as Stopped, SteadyHigh, SteadyLow}
use Rattle.law.specs.Letter.{Letter, zero as low, stop, restart, one}

pub record Side : Type 1 where
  pub S : Type 0
  -- whether SDA is pulled in this slot
  pub pulls : S → Bool
  -- a counted bit, a start, a stop
  pub bit : S → Bool → S
  pub begin : S → S
  pub finish : S → S

-- whether the symbol is the last of a script
abbrev pub ends : Symbol → Bool
ends Zero = false
ends One = false
ends Listen = false
ends RepeatedStart = false
ends Stop = true

module _ (D : Side) where
  -- the letter that a slot spells
  abbrev pub letter : Symbol → D.S → Letter
  letter Zero s = low
  letter Stop s = stop
  letter RepeatedStart s = restart
  letter One s = one
  letter Listen s = cond (D.pulls s) low one

  -- the level that masters hear in it
  abbrev pub heard : Symbol → D.S → Bool
  heard Zero s = false
  heard Stop s = false
  heard RepeatedStart s = true
  heard One s = true
  heard Listen s = not (D.pulls s)

  -- and the side after it
  abbrev pub after : Symbol → D.S → D.S
  after Zero s = D.bit s false
  after Stop s = D.finish s
  after RepeatedStart s = D.begin s
  after One s = D.bit s true
  after Listen s = D.bit s (not (D.pulls s))

module _ (D : Side) where
  -- the side once it has taken the bit that counts, if any
  abbrev pub taken : Option Bool → D.S → D.S
  taken None s = s
  taken (Some b) s = D.bit s b

  -- what the side makes of an event of the wire, with the bit that counts at it
  abbrev pub side_after : D.S → Event → Option Bool → D.S
  side_after s Fall o = taken o s
  side_after s Start o = D.begin s
  side_after s Stopped o = D.finish s
  side_after s (Rise b) o = s
  side_after s SteadyHigh o = s
  side_after s SteadyLow o = s

module _ (W : Script) (D : Side) where
  -- within n slots: the string that a cursor carries alone, the side at its end, and the cursor that shows the stop
  abbrev pub string : ℕ → W.Cursor → D.S → List Letter
  string zero c s = []
  string (suc n) c s = letter D (W.symbol c) s ∷
      cond (ends (W.symbol c)) [] (string n (W.next c (heard D (W.symbol c) s)) (after D (W.symbol c) s))

  abbrev pub last : ℕ → W.Cursor → D.S → D.S
  last zero c s = s
  last (suc n) c s = cond (ends (W.symbol c)) (after D (W.symbol c) s)
      (last n (W.next c (heard D (W.symbol c) s)) (after D (W.symbol c) s))

  abbrev pub final : ℕ → W.Cursor → D.S → W.Cursor
  final zero c s = c
  final (suc n) c s = cond (ends (W.symbol c)) c (final n (W.next c (heard D (W.symbol c) s)) (after D (W.symbol c) s))

  -- for n slots the side pulls only where the script listens
  abbrev pub QuietFor : ℕ → W.Cursor → D.S → Type 0
  QuietFor zero c s = Unit {0}
  QuietFor (suc n) c s = ((W.symbol c ≡ Listen → ⊥) → D.pulls s ≡ false) ×
      ((W.symbol c ≡ Stop → ⊥) → QuietFor n (W.next c (heard D (W.symbol c) s)) (after D (W.symbol c) s))
