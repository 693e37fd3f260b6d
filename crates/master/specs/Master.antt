-- A master with the host that it serves.
use Rattle.std.specs.Prelude.{◌≡◌, ℕ, Bool, Some, None, Option, Result}
use Rattle.std.specs.Option.{option_map}
use Rattle.transfer.specs.Transfer.{transfer_model}
use Rattle.transfer.specs.Outcome.{OutcomeModel}
use Rattle.host.specs.Host.{HostBehaviour}
use Rattle.host.specs.declared.host.Host.{Ghosts}
use Rattle.master.specs.declared.mark.Mark.{Mark}
use Rattle.master.specs.declared.mark.Mark.TheVariants.{Quiet, Told, Lost}
use Rattle.master.specs.declared.master.Master.{Master}
use Rattle.wire.specs.declared.pulls.Pulls.{Pulls}
use Rattle.wire.specs.declared.wire.Signal.{Signal}
use Rattle.master.specs.Arming.{is_armed}
use Rattle.master.specs.MasterState.{MasterModel, VerdictModel, quiet, lost, told, master_step, arm_master, new_master, master_model}
use Rattle.master.specs.Script.{transfers}

-- a master as the rules see it, and the meaning of its host
pub record HostedMaster (h : HostBehaviour) : Type 0 where
  pub master : MasterModel transfers
  pub meaning : h.Meaning

abbrev pub mark_of : VerdictModel transfers → Mark
mark_of quiet = Quiet
mark_of lost = Lost
mark_of (told o) = Told

-- the outcome that a host is told, if it is told one
abbrev pub told_outcome : VerdictModel transfers → Option OutcomeModel
told_outcome quiet = None
told_outcome lost = None
told_outcome (told o) = Some o

module _ (h : HostBehaviour) where
  abbrev pub meaning_after : h.Meaning → VerdictModel transfers → h.Meaning
  meaning_after m quiet = m
  meaning_after m lost = m
  meaning_after m (told o) = h.told m o

  -- a master steps, and its host is told what comes of it
  abbrev pub hosted_step : Signal → HostedMaster h → HostedMaster h
  hosted_step s x = let y = master_step transfers x.master s in
      record { master = y.0; meaning = meaning_after x.meaning y.1 }

  abbrev pub hosted_mark : Signal → HostedMaster h → Mark
  hosted_mark s x = mark_of (master_step transfers x.master s).1

  abbrev pub hosted_told : Signal → HostedMaster h → Option OutcomeModel
  hosted_told s x = told_outcome (master_step transfers x.master s).1

  abbrev pub hosted_pulls : HostedMaster h → Pulls
  hosted_pulls x = x.master.pulls

  abbrev pub hosted_is_armed : HostedMaster h → Bool
  hosted_is_armed x = is_armed x.master.arming

  -- at a clock of these counts
  abbrev pub new_hosted_master : ℕ → ℕ → h.Meaning → HostedMaster h
  new_hosted_master low high m = record { master = new_master transfers low high; meaning = m }

  abbrev pub reset_hosted_master : HostedMaster h → HostedMaster h
  reset_hosted_master x = new_hosted_master x.master.low x.master.high x.meaning

  abbrev pub with_master : HostedMaster h → Result (Unit {0}) ℕ × MasterModel transfers →
      Result (Unit {0}) ℕ × HostedMaster h
  with_master x a = (a.0, record x { master = a.1 })

  abbrev pub hosted_arm : HostedMaster h → Result (Unit {0}) ℕ × HostedMaster h
  hosted_arm x =
      with_master x (arm_master transfers x.master (option_map transfer_model (h.want x.meaning)))

-- a master as the rules see it, its host by what that means
abbrev pub hosted_master : {H : Type 0} → (host : Ghosts H) → Master H → HostedMaster host.behaviour
hosted_master host m = record { master = master_model m.state; meaning = host.meaning m.host }

-- a master has the very host of another
abbrev pub SameHost : {H : Type 0} → Master H → Master H → Type 0
SameHost m n = n.host ≡ m.host
