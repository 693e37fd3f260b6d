-- A bus, and what an arm and a tick make of it.
use Rattle.std.specs.Prelude.{◌≡◌, ℕ, ◌<◌, ◌≤◌, Bool, not, ◌&&◌, List, [], ◌∷◌, replicate, Err, Option, Result}
use Rattle.std.proofs.Common.{zero-lt-suc}
use Rattle.device.specs.Device.{Behaviour}
use Rattle.host.specs.Host.{HostBehaviour}
use Rattle.transfer.specs.declared.refusal.Refusal.TheVariants.{NoSuchMaster}
use Rattle.transfer.specs.Refusal.{number}
use Rattle.transfer.specs.Outcome.{OutcomeModel}
use Rattle.law.specs.declared.tick.Tick.{Tick}
use Rattle.master.specs.declared.mark.Mark.{Mark}
use Rattle.master.specs.declared.mark.Mark.TheVariants.{Quiet}
use Rattle.wire.specs.declared.levels.Levels.{Levels}
use Rattle.wire.specs.declared.pulls.Pulls.{Pulls}
use Rattle.wire.specs.declared.wire.Signal.{Signal}
use Rattle.wire.specs.declared.wire.Wire.{Wire}
use Rattle.law.specs.Bank.{Bank, bank_map, bank_list, BankAll, bank_update, any_true}
use Rattle.law.specs.Limits.{most_masters}
use Rattle.transfer.specs.Limits.{most_count}
use Rattle.master.specs.Master.{HostedMaster, hosted_step, hosted_mark, hosted_told, hosted_pulls, hosted_is_armed}
use Rattle.master.specs.Master.{reset_hosted_master, hosted_arm}
use Rattle.port.specs.Port.{MayAnswer, PortModel, port_pulls, port_step, reset_port}
use Rattle.wire.specs.Pulls.{no_pulls, pulls_or, levels_of}
use Rattle.wire.specs.Event.{event_between}
use Rattle.wire.specs.Wire.{signal, wire_after, new_wire}

abbrev pub all_pulls : List Pulls → Pulls
all_pulls [] = no_pulls
all_pulls (p ∷ ps) = pulls_or p (all_pulls ps)

-- past the last master it is refused
abbrev pub arm_master_at : (hs : List HostBehaviour) →
    Bank HostedMaster hs → ℕ → Result (Unit {0}) ℕ × Bank HostedMaster hs
arm_master_at hs p n = bank_update (Err (number NoSuchMaster)) hosted_arm hs p n

-- an answer to hold
abbrev pub HoldAnswer : Type 0
HoldAnswer = (n : ℕ) × (n < 256)

abbrev pub HoldAnswers : List Behaviour → Type 0
HoldAnswers ds = Bank (λ d. HoldAnswer) ds

abbrev pub ports_step : (ds : List Behaviour) →
    Bank PortModel ds → Signal → HoldAnswers ds → Bank PortModel ds
ports_step [] p s hs = tt
ports_step (d ∷ ds) p s hs = (port_step d p.0 s hs.0.0, ports_step ds p.1 s hs.1)

-- where a port asks for hold, its answer is one that its device may give
abbrev pub AllMayAnswer : (ds : List Behaviour) →
    Bank PortModel ds → Signal → HoldAnswers ds → Type 0
AllMayAnswer [] p s hs = Unit {0}
AllMayAnswer (d ∷ ds) p s hs = MayAnswer d p.0 s hs.0.0 × AllMayAnswer ds p.1 s hs.1

-- no device may answer hold with anything but 0
abbrev pub NeverHold : List Behaviour → Type 0
NeverHold [] = Unit {0}
NeverHold (d ∷ ds) = ((m : d.Meaning) (h : ℕ) → d.holds m h → h ≡ 0) × NeverHold ds

-- every answer is 0
abbrev pub no_holds : (ds : List Behaviour) → HoldAnswers ds
no_holds [] = tt
no_holds (d ∷ ds) = ((0, zero-lt-suc 255), no_holds ds)

-- the marks of the masters there are, over those of none
abbrev pub marks_over : List Mark → List Mark → List Mark
marks_over [] ys = ys
marks_over (x ∷ xs) [] = []
marks_over (x ∷ xs) (y ∷ ys) = x ∷ marks_over xs ys

-- every clock count is 1 to most_count
abbrev pub ClocksInRange : (hs : List HostBehaviour) → Bank HostedMaster hs → Type 0
ClocksInRange hs ms = BankAll
    (λ h x.
    (1 ≤ x.master.low) × (x.master.low ≤ most_count) ×
    (1 ≤ x.master.high) × (x.master.high ≤ most_count))
    hs ms

module _ (hs : List HostBehaviour) (ds : List Behaviour) where
  pub record BusModel : Type 0 where
    pub wire : Wire
    pub masters : Bank HostedMaster hs
    pub ports : Bank PortModel ds

  abbrev pub new_bus : Bank HostedMaster hs → Bank PortModel ds → BusModel
  new_bus ms ps = record {
    wire = new_wire;
    masters = bank_map reset_hosted_master hs ms;
    ports = bank_map reset_port ds ps;
  }

  abbrev pub with_masters : BusModel → Result (Unit {0}) ℕ × Bank HostedMaster hs →
      Result (Unit {0}) ℕ × BusModel
  with_masters u a = (a.0, record u { masters = a.1 })

  abbrev pub arm_at : BusModel → ℕ → Result (Unit {0}) ℕ × BusModel
  arm_at u n = with_masters u (arm_master_at hs u.masters n)

  -- the levels of the next tick
  abbrev pub levels_at : BusModel → Levels
  levels_at u = levels_of (pulls_or
      (all_pulls (bank_list hosted_pulls hs u.masters))
      (all_pulls (bank_list port_pulls ds u.ports)))

  -- what the levels v make of the bus, where the ports' questions for hold are answered by a
  abbrev pub after_levels : BusModel → Levels → HoldAnswers ds → BusModel
  after_levels u v a = record {
    wire = wire_after u.wire v;
    masters = bank_map (λ h. hosted_step h (signal u.wire v)) hs u.masters;
    ports = ports_step ds u.ports (signal u.wire v) a;
  }

  abbrev pub marks_at : BusModel → Levels → List Mark
  marks_at u v = marks_over
      (bank_list (λ h. hosted_mark h (signal u.wire v)) hs u.masters)
      (replicate most_masters Quiet)

  abbrev pub tick_shown : BusModel → Levels → Tick
  tick_shown u v = record { levels = v; event = event_between u.wire.last v; marks = marks_at u v }

  -- one tick: what it shows, and the bus after it
  abbrev pub tick_at : BusModel → HoldAnswers ds → Tick × BusModel
  tick_at u a = (tick_shown u (levels_at u), after_levels u (levels_at u) a)

  -- the answers a are ones that the devices may give in the next tick
  abbrev pub Answered : BusModel → HoldAnswers ds → Type 0
  Answered u a = AllMayAnswer ds u.ports (signal u.wire (levels_at u)) a

  -- what each host is told in the next tick
  abbrev pub told_at : BusModel → List (Option OutcomeModel)
  told_at u = bank_list (λ h. hosted_told h (signal u.wire (levels_at u))) hs u.masters

  abbrev pub any_armed : BusModel → Bool
  any_armed u = any_true (bank_list hosted_is_armed hs u.masters)

  -- the bus is free and no master is armed
  abbrev pub is_at_rest : BusModel → Bool
  is_at_rest u = not u.wire.busy && not (any_armed u)
