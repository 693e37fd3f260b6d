-- The once host: one transfer, wanted until any outcome of it is told.
use Rattle.std.specs.Option.{option_map}
use Rattle.std.specs.Prelude.{if◌then◌else◌, Some, None, Option, is_some}
use Rattle.transfer.specs.declared.draft.Transfer.{Transfer}
use Rattle.transfer.specs.Outcome.{OutcomeModel, outcome_model}
use Rattle.host.specs.Host.{HostBehaviour}
use Rattle.custom.specs.declared.once.Once.{Once}

pub record OnceModel : Type 0 where
  pub transfer : Transfer
  pub last : Option OutcomeModel

abbrev pub once_model : Once → OnceModel
once_model h = record { transfer = h.transfer; last = option_map outcome_model h.last }

abbrev pub once : HostBehaviour
once = record {
  Meaning = OnceModel;
  want = λ m. if is_some m.last then None else Some m.transfer;
  told = λ m o. record m { last = Some o };
}
