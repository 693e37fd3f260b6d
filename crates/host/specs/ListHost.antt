-- The list host: up to 8 transfers, one after the other, whatever comes of them.
use Rattle.std.specs.Prelude.{ℕ, if◌then◌else◌, List, length, Some, None, Ok, Err, Option, Result, nat_le, drop, slice_get}
use Rattle.std.specs.Option.{option_map}
use Rattle.transfer.specs.declared.draft.Transfer.{Transfer}
use Rattle.transfer.specs.declared.refusal.Refusal.TheVariants.{LengthOutOfRange}
use Rattle.transfer.specs.Limits.{most_items}
use Rattle.transfer.specs.Outcome.{OutcomeModel, outcome_model}
use Rattle.transfer.specs.Refusal.{number}
use Rattle.host.specs.declared.list_host.ListHost.{ListHost}
use Rattle.host.specs.Host.{HostBehaviour}

pub record ListHostModel : Type 0 where
  -- the transfer at its place and those after it
  pub rest : List Transfer
  pub last : Option OutcomeModel

abbrev pub list_host_model : ListHost → ListHostModel
list_host_model h = record { rest = h.transfers; last = option_map outcome_model h.last }

-- it wants these transfers, and was told nothing yet
abbrev pub new_list_host : List Transfer → ListHostModel
new_list_host ts = record { rest = ts; last = None }

-- the answer to a fill, and the host after it: a new list in the place of the old
abbrev pub list_host_answer_to_fill :
    List Transfer → ListHostModel → Result (Unit {0}) ℕ × ListHostModel
list_host_answer_to_fill ts m =
    if nat_le (length ts) most_items
    then (Ok tt, new_list_host ts)
    else (Err (number LengthOutOfRange), m)

abbrev pub list_host : HostBehaviour
list_host = record {
  Meaning = ListHostModel;
  want = λ m. slice_get m.rest 0;
  told = λ m o. record { rest = drop 1 m.rest; last = Some o };
}
