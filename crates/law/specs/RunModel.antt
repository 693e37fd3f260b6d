-- A run: ticks until the bus is at rest or so many are made, and its load.
use Rattle.std.specs.Prelude.{◌≡◌, ℕ, zero, suc, ◌+◌, ◌*◌, ◌/◌, false, if◌then◌else◌, List, is_some, Ok, Err, Option, Result, ◌==◌, nat_lt}
use Rattle.std.specs.List.{count_by}
use Rattle.transfer.specs.declared.refusal.Refusal.TheVariants.{TooManyTicks}
use Rattle.transfer.specs.Refusal.{number}
use Rattle.device.specs.Device.{Behaviour}
use Rattle.host.specs.Host.{HostBehaviour}
use Rattle.master.specs.declared.mark.Mark.{Mark}
use Rattle.master.specs.Mark.{is_told}
use Rattle.law.specs.BusModel.{BusModel, HoldAnswers, Answered, tick_at, told_at, is_at_rest}
use Rattle.law.specs.Limits.{most_ticks}

abbrev pub some_count : {A : Type 0} → List (Option A) → ℕ
some_count os = count_by is_some os

-- how many were told, by the marks of a tick
abbrev pub told_count : List Mark → ℕ
told_count ms = count_by is_told ms

-- busy ticks in thousandths of all, a half rounded up; 0 for no ticks
abbrev pub load : ℕ → ℕ → ℕ
load busy ticks = if ticks == 0 then 0 else (2000 * busy + ticks) / (2 * ticks)

pub record RunModel : Type 0 where
  pub ticks : ℕ
  pub outcomes : ℕ
  pub load : ℕ

module _ (hs : List HostBehaviour) (ds : List Behaviour) where
  -- a run under way: the bus, and what was counted so far
  pub record Running : Type 0 where
    pub bus : BusModel hs ds
    pub ticks : ℕ
    pub outcomes : ℕ
    pub busy : ℕ

  abbrev pub run_start : BusModel hs ds → Running
  run_start u = record { bus = u; ticks = 0; outcomes = 0; busy = 0 }

  -- one tick more; it is busy if the bus is busy after its event
  abbrev pub run_after_tick : Running → HoldAnswers ds → Running
  run_after_tick r a = let u = (tick_at hs ds r.bus a).1 in record {
    bus = u;
    ticks = suc r.ticks;
    outcomes = r.outcomes + some_count (told_at hs ds r.bus);
    busy = r.busy + (if u.wire.busy then 1 else 0);
  }

  -- at most n ticks more, where hold in tick k of the run is answered by a k
  abbrev pub run_after_ticks : ℕ → (ℕ → HoldAnswers ds) → Running → Running
  run_after_ticks zero a r = r
  run_after_ticks (suc n) a r =
      if is_at_rest hs ds r.bus then r else run_after_ticks n a (run_after_tick r (a r.ticks))

  -- in each of these ticks the answers are ones that the devices may give
  abbrev pub RunTicksAnswered : ℕ → (ℕ → HoldAnswers ds) → Running → Type 0
  RunTicksAnswered zero a r = Unit {0}
  RunTicksAnswered (suc n) a r = is_at_rest hs ds r.bus ≡ false →
      Answered hs ds r.bus (a r.ticks) × RunTicksAnswered n a (run_after_tick r (a r.ticks))

  abbrev pub run_report : Running → RunModel
  run_report r = record { ticks = r.ticks; outcomes = r.outcomes; load = load r.busy r.ticks }

  -- more ticks than a run may make are refused
  abbrev pub run_at : BusModel hs ds → ℕ → (ℕ → HoldAnswers ds) → Result RunModel ℕ × BusModel hs ds
  run_at u n a = let r = run_after_ticks n a (run_start u) in
      if nat_lt most_ticks n then (Err (number TooManyTicks), u) else (Ok (run_report r), r.bus)

  -- in each tick of such a run the answers are ones that the devices may give
  abbrev pub RunAnswered : BusModel hs ds → ℕ → (ℕ → HoldAnswers ds) → Type 0
  RunAnswered u n a = nat_lt most_ticks n ≡ false → RunTicksAnswered n a (run_start u)
