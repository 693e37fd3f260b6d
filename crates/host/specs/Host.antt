-- What a host means: a meaning, what it wants by it alone, and what an outcome makes of it.
use Rattle.std.specs.Prelude.{Bool, if◌then◌else◌, Some, None, Option}
use Rattle.transfer.specs.declared.draft.Transfer.{Transfer}
use Rattle.transfer.specs.Outcome.{OutcomeModel}

pub record HostBehaviour : Type 1 where
  pub Meaning : Type 0
  pub want : Meaning → Option Transfer
  pub told : Meaning → OutcomeModel → Meaning

-- the flag beside the transfer says whether it is wanted
abbrev pub wanted_transfer : Bool × Transfer → Option Transfer
wanted_transfer a = if a.0 then Some a.1 else None
