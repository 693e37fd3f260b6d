-- The poll host: one transfer, wanted until a done outcome of which the last byte read meets the
-- mask.
use Rattle.std.specs.Prelude.{ℕ, Bool, false, if◌then◌else◌, not, ◌||◌, List, Some, None, Option, ◌==◌, bit_and}
use Rattle.std.specs.Option.{option_map}
use Rattle.transfer.specs.declared.draft.Transfer.{Transfer}
use Rattle.transfer.specs.declared.outcome.OutcomeKind.{OutcomeKind}
use Rattle.transfer.specs.declared.outcome.OutcomeKind.TheVariants.{Done, NoAnswer, Refused}
use Rattle.transfer.specs.Bytes.{last_byte}
use Rattle.transfer.specs.Outcome.{OutcomeModel, outcome_model}
use Rattle.host.specs.declared.poll_host.PollHost.{PollHost}
use Rattle.host.specs.Host.{HostBehaviour}

pub record PollHostModel : Type 0 where
  pub transfer : Transfer
  pub mask : ℕ
  pub met : Bool
  pub last : Option OutcomeModel

abbrev pub poll_host_model : PollHost → PollHostModel
poll_host_model h = record {
  transfer = h.transfer;
  mask = h.mask;
  met = h.met;
  last = option_map outcome_model h.last;
}

abbrev pub new_poll_host : Transfer → ℕ → PollHostModel
new_poll_host t mask = record { transfer = t; mask = mask; met = false; last = None }

-- whether the mask is met by an outcome of this kind, with these bytes: in some bit of the last
-- byte
abbrev pub is_met_by_kind : OutcomeKind → List ℕ → ℕ → Bool
is_met_by_kind Done xs mask = not (bit_and (last_byte xs) mask == 0)
is_met_by_kind (NoAnswer p) xs mask = false
is_met_by_kind (Refused p) xs mask = false

abbrev pub is_met_by : ℕ → OutcomeModel → Bool
is_met_by mask o = is_met_by_kind o.kind o.bytes mask

abbrev pub poll_host : HostBehaviour
poll_host = record {
  Meaning = PollHostModel;
  want = λ m. if m.met then None else Some m.transfer;
  told = λ m o. record m { met = m.met || is_met_by m.mask o; last = Some o };
}
