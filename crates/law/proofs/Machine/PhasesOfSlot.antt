-- The phases of a slot: the whole bus as a function of the cells, the side and the ticks gone by.
use Rattle.std.proofs.Common.{◌≡◌, ℕ, ◌-◌, ◌≤◌, min, Bool, true, false, cond, not, ◌||◌, eqb, ltb, ◌⊎◌, List, [], ◌∷◌}
use Rattle.std.proofs.Common.{Some, None, Option, map}
use Rattle.master.specs.declared.arming.Arming.{Arming}
use Rattle.master.specs.declared.arming.Arming.TheVariants.{Unarmed, Armed}
use Rattle.master.specs.declared.symbol.Symbol.{Symbol}
use Rattle.master.specs.declared.symbol.Symbol.TheVariants.{Zero, One, Listen, RepeatedStart, Stop}
use Rattle.wire.specs.declared.event.Event.{Event}
use Rattle.wire.specs.declared.levels.Levels.{Levels}
use Rattle.wire.specs.declared.wire.Signal.{Signal}
use Rattle.master.specs.MasterState.{MasterModel, idle, start_pending, sending, VerdictModel, quiet, lost, told}
use Rattle.master.specs.MasterState.{with_stage, rise_step, new_master}
use Rattle.master.specs.Script.{Script}
use Rattle.master.specs.Symbol.{pulls_sda}
use Rattle.transfer.specs.Limits.{most_count}
use Rattle.law.proofs.FarSide.{Side}
use Rattle.law.proofs.Machine.BusAsMachine.{Bus, any_scl}

abbrev pub lines : Bool → Bool → Levels
lines c d = record { scl = c; sda = d }

-- what a tick shows, with the bit that counts and whether the bus is free with both lines high
abbrev pub shown : Event → Option Bool → Bool → Signal
shown e o i = record { event = e; bit = o; free_and_high = i }

-- the order in which strings compare: 0, stop, repeated start, 1
abbrev pub rank : Symbol → ℕ
rank Zero = 0
rank Stop = 1
rank RepeatedStart = 2
rank One = 3
rank Listen = 4

-- what a survivor pulls after the rise
abbrev pub holds : Symbol → Bool
holds Zero = true
holds RepeatedStart = true
holds One = false
holds Listen = false
holds Stop = false

-- who pulls SDA right after the rise of b
abbrev pub pulled : Bool → Symbol → Bool
pulled b Zero = true
pulled b RepeatedStart = b
pulled b One = false
pulled b Listen = false
pulled b Stop = false

-- who is lost at the rise of b
abbrev pub early_lost : Bool → Symbol → Bool
early_lost b Zero = false
early_lost b Stop = false
early_lost b Listen = false
early_lost b One = not b
early_lost b RepeatedStart = not b

-- who is lost in the tick after the rise, where n is the least rank shown
abbrev pub late_lost : ℕ → Symbol → Bool
late_lost n Zero = false
late_lost n Listen = false
late_lost n RepeatedStart = false
late_lost n Stop = eqb n 0
late_lost n One = eqb n 2

module _ (W : Script) where
  -- a master of one turn: out of it, or live with its cursor for this slot;
  -- of the master only low, high and arming count
  pub data Cell : Type 0 where
    out : MasterModel W → Cell
    live : MasterModel W → W.Cursor → Cell

  abbrev pub off : MasterModel W → MasterModel W
  off m = with_stage W m idle 0 false false

  -- a master, where f says how a live one looks
  abbrev pub look : (MasterModel W → W.Cursor → MasterModel W) → Cell → MasterModel W
  look f (out m) = off m
  look f (live m p) = f m p

  abbrev pub looks : (MasterModel W → W.Cursor → MasterModel W) → List Cell → List (MasterModel W)
  looks f cs = map (look f) cs

  -- what becomes of the live ones
  abbrev pub turn : (MasterModel W → W.Cursor → Cell) → Cell → Cell
  turn h (out m) = out m
  turn h (live m p) = h m p

  abbrev pub turns : (MasterModel W → W.Cursor → Cell) → List Cell → List Cell
  turns h cs = map (turn h) cs

  -- the verdicts on the live ones, by symbol and cursor
  abbrev pub note : (Symbol → W.Cursor → VerdictModel W) → Cell → VerdictModel W
  note k (out m) = quiet
  note k (live m p) = k (W.symbol p) p

  abbrev pub notes : (Symbol → W.Cursor → VerdictModel W) → List Cell → List (VerdictModel W)
  notes k cs = map (note k) cs

  abbrev pub no_verdict : Symbol → W.Cursor → VerdictModel W
  no_verdict x p = quiet

  -- at the rise of b
  abbrev pub early : Bool → Symbol → W.Cursor → VerdictModel W
  early b x p = cond (early_lost b x) lost quiet

  abbrev pub told_if : Bool → W.Cursor → VerdictModel W
  told_if b p = cond b (told (W.outcome p)) quiet

  -- in the tick after the rise, where n is the least rank shown
  abbrev pub late : ℕ → Symbol → W.Cursor → VerdictModel W
  late n Zero p = quiet
  late n Listen p = quiet
  late n RepeatedStart p = quiet
  late n Stop p = cond (eqb n 0) lost (told_if (eqb n 1) p)
  late n One p = cond (eqb n 2) lost quiet

  -- the cursors of the live ones
  abbrev pub cursor : Cell → Option W.Cursor
  cursor (out m) = None
  cursor (live m p) = Some p

  abbrev pub cursors : List Cell → List (Option W.Cursor)
  cursors cs = map cursor cs

  abbrev pub idling : MasterModel W → W.Cursor → MasterModel W
  idling m p = off m

  abbrev pub claimed : MasterModel W → W.Cursor → MasterModel W
  claimed m p = with_stage W m (start_pending p) 0 false true

  abbrev pub opened : ℕ → MasterModel W → W.Cursor → MasterModel W
  opened e m p = with_stage W m (start_pending p) (m.high - e) (eqb (m.high - e) 0) true

  abbrev pub lowered : ℕ → MasterModel W → W.Cursor → MasterModel W
  lowered e m p = with_stage W m (sending (W.symbol p) p) (m.low - e) (ltb 0 (m.low - e)) (pulls_sda (W.symbol p))

  abbrev pub released : MasterModel W → W.Cursor → MasterModel W
  released m p = with_stage W m (sending (W.symbol p) p) 0 false (pulls_sda (W.symbol p))

  abbrev pub fresh : Bool → MasterModel W → W.Cursor → MasterModel W
  fresh b m p = (rise_step W (released m p) (W.symbol p) p b).0

  abbrev pub settled : ℕ → MasterModel W → W.Cursor → MasterModel W
  settled e m p = with_stage W m (sending (W.symbol p) p) (m.high - e) (eqb (m.high - e) 0) (holds (W.symbol p))

  -- some live symbol passes the test f
  abbrev pub some : (Symbol → Bool) → List Cell → Bool
  some f [] = false
  some f (out m ∷ cs) = some f cs
  some f (live m p ∷ cs) = f (W.symbol p) || some f cs

  -- somebody is live
  abbrev pub alive : List Cell → Bool
  alive cs = some (λ x. true) cs

  -- each live symbol has the property Q
  abbrev pub Every : (Symbol → Type 0) → List Cell → Type 0
  Every Q [] = Unit {0}
  Every Q (out m ∷ cs) = Every Q cs
  Every Q (live m p ∷ cs) = Q (W.symbol p) × Every Q cs

  pub record Times (m : MasterModel W) : Type 0 where
    pub low_from : 1 ≤ m.low
    pub low_to : m.low ≤ most_count
    pub high_from : 1 ≤ m.high
    pub high_to : m.high ≤ most_count

  abbrev pub who : Cell → MasterModel W
  who (out m) = m
  who (live m p) = m

  abbrev pub Timed : List Cell → Type 0
  Timed [] = Unit {0}
  Timed (c ∷ cs) = Times (who c) × Timed cs

  -- the least rank that a live one shows; 5 where nobody is live
  abbrev pub least : List Cell → ℕ
  least [] = 5
  least (out m ∷ cs) = least cs
  least (live m p ∷ cs) = min (rank (W.symbol p)) (least cs)

  abbrev pub stay_if : Bool → MasterModel W → W.Cursor → Cell
  stay_if true m p = live m p
  stay_if false m p = out m

  -- who shows the rank n stays
  abbrev pub stays : ℕ → MasterModel W → W.Cursor → Cell
  stays n m p = stay_if (eqb (rank (W.symbol p)) n) m p

  abbrev pub stay : ℕ → List Cell → List Cell
  stay n cs = turns (stays n) cs

  -- the next slot's cursors
  abbrev pub goes_on : Bool → MasterModel W → W.Cursor → Cell
  goes_on b m p = live m (W.next p b)

  abbrev pub advance : Bool → List Cell → List Cell
  advance b cs = turns (goes_on b) cs

  abbrev pub done_if : Bool → MasterModel W → Cell
  done_if true m = out (new_master W m.low m.high)
  done_if false m = out m

  -- after a stop: who showed it is armed no more
  abbrev pub dones : MasterModel W → W.Cursor → Cell
  dones m p = done_if (eqb (rank (W.symbol p)) 1) m

  abbrev pub finished : List Cell → List Cell
  finished cs = turns dones cs

  abbrev pub claim : MasterModel W → Arming W.Task → Cell
  claim m Unarmed = out m
  claim m (Armed t) = live m (W.begin t)

  abbrev pub claim_all : List Cell → List Cell
  claim_all cs = map (λ c. claim (who c) (who c).arming) cs

module _ (W : Script) (D : Side) where
  abbrev pub bus : Bool → Bool → Bool → List (MasterModel W) → D.S → Option Bool → ℕ → Bus W D
  bus c d y ms s k n = record {
    wire = record { last = lines c d; busy = y; latch = record { level = k } };
    masters = ms;
    side = s;
    hold = n;
  }

  abbrev pub free_bus : List (Cell W) → D.S → Bus W D
  free_bus cs s = bus true true false (looks W (idling W) cs) s None 0

  abbrev pub claimed_bus : List (Cell W) → D.S → Bus W D
  claimed_bus cs s = bus true true false (looks W (claimed W) cs) s None 0

  abbrev pub opened_bus : List (Cell W) → D.S → ℕ → Bus W D
  opened_bus cs s e = bus true false true (looks W (opened W e) cs) s None 0

  -- d: the last level of SDA; n: the hold asked for at the fall
  abbrev pub low_bus : Bool → List (Cell W) → D.S → ℕ → ℕ → Bus W D
  low_bus d cs s n e = bus false d true (looks W (lowered W e) cs) s None (n - e)

  abbrev pub fresh_bus : Bool → List (Cell W) → D.S → Bus W D
  fresh_bus b cs s = bus true b true (looks W (fresh W b) cs) s (Some b) 0

  -- d: the level of SDA; k: the bit that counts at the next fall; after a repeated start none does
  abbrev pub settled_bus : Bool → Option Bool → List (Cell W) → D.S → ℕ → Bus W D
  settled_bus d k cs s e = bus true d true (looks W (settled W e) cs) s k 0

  -- the level that the slot carries
  abbrev pub carries : List (Cell W) → D.S → Bool
  carries cs s = not (some W pulls_sda cs || D.pulls s)

  -- somebody holds SCL e ticks after the fall
  abbrev pub held : List (Cell W) → ℕ → ℕ → Bool
  held cs n e = any_scl W (looks W (lowered W e) cs) || ltb 0 (n - e)

  -- in a slot either all listen, or nobody does and the side lets SDA go
  abbrev pub Shape : List (Cell W) → D.S → Type 0
  Shape cs s = Every W (λ x. rank x ≡ 4) cs ⊎ (Every W (λ x. rank x ≤ 3) cs × (D.pulls s ≡ false))
