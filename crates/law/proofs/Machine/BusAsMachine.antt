-- The bus in ticks, over any script that contenders play and any far side: all ports together.
use Rattle.std.proofs.Common.{ℕ, ◌-◌, Bool, ltb, List, [], ◌∷◌, Some, None, Option}
use Rattle.wire.specs.declared.event.Event.{Event}
use Rattle.wire.specs.declared.event.Event.TheVariants.{Rise, Fall, Start, Stop, SteadyHigh, SteadyLow}
use Rattle.wire.specs.declared.levels.Levels.{Levels}
use Rattle.wire.specs.declared.pulls.Pulls.{Pulls}
use Rattle.wire.specs.declared.wire.Signal.{Signal}
use Rattle.wire.specs.declared.wire.Wire.{Wire}
use Rattle.master.specs.MasterState.{MasterModel, VerdictModel, master_step}
use Rattle.master.specs.Script.{Script}
use Rattle.wire.specs.Pulls.{no_pulls, pulls_or, levels_of}
use Rattle.wire.specs.Event.{event_between}
use Rattle.wire.specs.Wire.{signal, wire_after}
use Rattle.law.proofs.FarSide.{Side, side_after}

module _ (W : Script) where
  abbrev pub masters_pull : List (MasterModel W) → Pulls
  masters_pull [] = no_pulls
  masters_pull (m ∷ ms) = pulls_or m.pulls (masters_pull ms)

  abbrev pub any_scl : List (MasterModel W) → Bool
  any_scl ms = (masters_pull ms).scl

  abbrev pub any_sda : List (MasterModel W) → Bool
  any_sda ms = (masters_pull ms).sda

  abbrev pub masters_step : List (MasterModel W) → Signal → List (MasterModel W)
  masters_step [] s = []
  masters_step (m ∷ ms) s = (master_step W m s).0 ∷ masters_step ms s

  abbrev pub verdicts : List (MasterModel W) → Signal → List (VerdictModel W)
  verdicts [] s = []
  verdicts (m ∷ ms) s = (master_step W m s).1 ∷ verdicts ms s

-- the hold that a fall leaves: the side is asked only where a bit counts
abbrev pub asked : Option Bool → ℕ → ℕ
asked None h = 0
asked (Some b) h = h

abbrev pub hold_after : ℕ → Event → Option Bool → ℕ → ℕ
hold_after n Fall o h = asked o h
hold_after n SteadyLow o h = n - 1
hold_after n (Rise b) o h = n
hold_after n Start o h = n
hold_after n Stop o h = n
hold_after n SteadyHigh o h = n

module _ (W : Script) (D : Side) where
  -- hold: for how many ticks the side still pulls SCL
  pub record Bus : Type 0 where
    pub wire : Wire
    pub masters : List (MasterModel W)
    pub side : D.S
    pub hold : ℕ

  abbrev pub levels : Bus → Levels
  levels u = levels_of (pulls_or (masters_pull W u.masters) (record { scl = ltb 0 u.hold; sda = D.pulls u.side }))

  -- what the levels v make of the bus, where a hold that is asked for answers h
  abbrev pub after : Bus → Levels → ℕ → Bus
  after u v h = let s = signal u.wire v in record {
    wire = wire_after u.wire v;
    masters = masters_step W u.masters s;
    side = side_after D u.side s.event s.bit;
    hold = hold_after u.hold s.event s.bit h;
  }

  -- one tick
  abbrev pub tick : Bus → ℕ → Bus
  tick u h = after u (levels u) h

  abbrev pub tick_event : Bus → Event
  tick_event u = event_between u.wire.last (levels u)

  -- what comes of it for each master
  abbrev pub said : Bus → Levels → List (VerdictModel W)
  said u v = verdicts W u.masters (signal u.wire v)

  abbrev pub tick_verdicts : Bus → List (VerdictModel W)
  tick_verdicts u = said u (levels u)
