-- A master after an event: the rules of a contender, over any script that it plays.
use Rattle.std.specs.Prelude.{ℕ, ◌-◌, Bool, true, false, if◌then◌else◌, Option, Result, ◌==◌, nat_lt}
use Rattle.std.specs.Option.{unwrap_or}
use Rattle.transfer.specs.Transfer.{transfer_model}
use Rattle.master.specs.declared.arming.Arming.{Arming}
use Rattle.master.specs.declared.arming.Arming.TheVariants.{Unarmed, Armed}
use Rattle.master.specs.declared.state.MasterState.{MasterState}
use Rattle.master.specs.declared.state.Stage.{Stage}
use Rattle.master.specs.declared.state.Stage.TheVariants.{Idle, StartPending, Sending, StopPending}
use Rattle.master.specs.declared.symbol.Symbol.{Symbol}
use Rattle.master.specs.declared.symbol.Symbol.TheVariants as symbol
use Rattle.wire.specs.declared.event.Event.{Event}
use Rattle.wire.specs.declared.event.Event.TheVariants.{Rise, Fall, Start, Stop, SteadyHigh, SteadyLow}
use Rattle.wire.specs.declared.pulls.Pulls.{Pulls}
use Rattle.wire.specs.declared.wire.Signal.{Signal}
use Rattle.master.specs.Arming.{arming_map, answer_to_arm}
use Rattle.master.specs.Cursor.{cursor_model}
use Rattle.master.specs.Script.{Script, transfers}
use Rattle.master.specs.Symbol.{pulls_sda}
use Rattle.wire.specs.Pulls.{no_pulls}

module _ (W : Script) where
  -- no contender, or lost; before the first fall; showing a symbol; SDA let go for the stop in the last tick
  pub data StageModel : Type 0 where
    idle : StageModel
    start_pending : W.Cursor → StageModel
    sending : Symbol → W.Cursor → StageModel
    stop_pending : W.Cursor → StageModel

  pub record MasterModel : Type 0 where
    pub low : ℕ
    pub high : ℕ
    pub arming : Arming W.Task
    pub stage : StageModel
    pub count : ℕ
    pub pulls : Pulls

  pub data VerdictModel : Type 0 where
    quiet : VerdictModel
    lost : VerdictModel
    told : W.Outcome → VerdictModel

  abbrev pub new_master : ℕ → ℕ → MasterModel
  new_master low high =
      record { low = low; high = high; arming = Unarmed; stage = idle; count = 0; pulls = no_pulls }

  abbrev pub with_stage : MasterModel → StageModel → ℕ → Bool → Bool → MasterModel
  with_stage m s n scl sda =
      record m { stage = s; count = n; pulls = record { scl = scl; sda = sda } }

  -- a loser lets go of both lines, stays armed and waits
  abbrev pub losing_step : MasterModel → MasterModel × VerdictModel
  losing_step m = (with_stage m idle 0 false false, lost)

  abbrev pub quiet_step : MasterModel → MasterModel × VerdictModel
  quiet_step m = (m, quiet)

  -- its host is told, and it is disarmed
  abbrev pub telling_step : MasterModel → W.Cursor → MasterModel × VerdictModel
  telling_step m c = (new_master m.low m.high, told (W.outcome c))

  abbrev pub contending_step : MasterModel → Arming W.Task → MasterModel × VerdictModel
  contending_step m Unarmed = quiet_step m
  contending_step m (Armed t) = (with_stage m (start_pending (W.begin t)) 0 false true, quiet)

  -- at a fall SCL is pulled and the symbol shown
  abbrev pub showing_step : MasterModel → W.Cursor → MasterModel × VerdictModel
  showing_step m c =
      (with_stage m (sending (W.symbol c) c) m.low true (pulls_sda (W.symbol c)), quiet)

  abbrev pub counting_step : MasterModel → StageModel → MasterModel × VerdictModel
  counting_step m s = (with_stage m s m.high m.pulls.scl m.pulls.sda, quiet)

  -- 1 and the repeated start are lost under a low; otherwise the stop lets go of SDA and the repeated start pulls it
  abbrev pub rise_step : MasterModel → Symbol → W.Cursor → Bool → MasterModel × VerdictModel
  rise_step m symbol.Zero c b = counting_step m (sending symbol.Zero c)
  rise_step m symbol.Listen c b = counting_step m (sending symbol.Listen c)
  rise_step m symbol.One c b = if b then counting_step m (sending symbol.One c) else losing_step m
  rise_step m symbol.RepeatedStart c b =
      if b then (with_stage m (sending symbol.RepeatedStart c) m.high m.pulls.scl true, quiet)
      else losing_step m
  rise_step m symbol.Stop c b = (with_stage m (stop_pending c) m.high m.pulls.scl false, quiet)

  abbrev pub restart_step : MasterModel → Symbol → W.Cursor → MasterModel × VerdictModel
  restart_step m symbol.One c = losing_step m
  restart_step m symbol.Zero c = counting_step m (sending symbol.Zero c)
  restart_step m symbol.Listen c = counting_step m (sending symbol.Listen c)
  restart_step m symbol.RepeatedStart c = counting_step m (sending symbol.RepeatedStart c)
  restart_step m symbol.Stop c = counting_step m (sending symbol.Stop c)

  -- the clock is let go where the low count is over, and pulled where the high count is
  abbrev pub low_step : MasterModel → StageModel → MasterModel × VerdictModel
  low_step m s = (with_stage m s (m.count - 1) (nat_lt 0 (m.count - 1)) m.pulls.sda, quiet)

  abbrev pub high_step : MasterModel → StageModel → MasterModel × VerdictModel
  high_step m s = (with_stage m s (m.count - 1) (m.count - 1 == 0) m.pulls.sda, quiet)

  -- a master in a stage, at an event, with the bit that counts at it and whether the bus is free with both lines high
  abbrev pub stage_step : MasterModel → StageModel → Event → Option Bool → Bool →
      MasterModel × VerdictModel
  stage_step m idle SteadyHigh o free = if free then contending_step m m.arming else quiet_step m
  stage_step m idle (Rise b) o free = quiet_step m
  stage_step m idle Fall o free = quiet_step m
  stage_step m idle Start o free = quiet_step m
  stage_step m idle Stop o free = quiet_step m
  stage_step m idle SteadyLow o free = quiet_step m
  stage_step m (start_pending c) Start o free = counting_step m (start_pending c)
  stage_step m (start_pending c) SteadyHigh o free = high_step m (start_pending c)
  stage_step m (start_pending c) Fall o free = showing_step m c
  stage_step m (start_pending c) (Rise b) o free = counting_step m (start_pending c)
  stage_step m (start_pending c) SteadyLow o free = low_step m (start_pending c)
  stage_step m (start_pending c) Stop o free = quiet_step m
  stage_step m (sending s c) Fall o free = showing_step m (W.next c (unwrap_or o true))
  stage_step m (sending s c) SteadyLow o free = low_step m (sending s c)
  stage_step m (sending s c) (Rise b) o free = rise_step m s c b
  stage_step m (sending s c) SteadyHigh o free = high_step m (sending s c)
  stage_step m (sending s c) Start o free = restart_step m s c
  stage_step m (sending s c) Stop o free = quiet_step m
  stage_step m (stop_pending c) Stop o free = telling_step m c
  stage_step m (stop_pending c) (Rise b) o free = losing_step m
  stage_step m (stop_pending c) Fall o free = losing_step m
  stage_step m (stop_pending c) Start o free = losing_step m
  stage_step m (stop_pending c) SteadyHigh o free = losing_step m
  stage_step m (stop_pending c) SteadyLow o free = losing_step m

  abbrev pub master_step : MasterModel → Signal → MasterModel × VerdictModel
  master_step m s = stage_step m m.stage s.event s.bit s.free_and_high

  abbrev pub arm_master : MasterModel → Option W.Task → Result (Unit {0}) ℕ × MasterModel
  arm_master m want = let a = answer_to_arm m.arming want in
      (a.0, record m { arming = a.1 })

abbrev pub stage_model : Stage → StageModel transfers
stage_model Idle = idle
stage_model (StartPending c) = start_pending (cursor_model c)
stage_model (Sending s c) = sending s (cursor_model c)
stage_model (StopPending c) = stop_pending (cursor_model c)

abbrev pub master_model : MasterState → MasterModel transfers
master_model m = record {
  low = m.clock.low;
  high = m.clock.high;
  arming = arming_map transfer_model m.arming;
  stage = stage_model m.stage;
  count = m.count;
  pulls = m.pulls;
}
