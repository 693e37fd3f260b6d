-- What is filled as it is made, with most_items at most; more are refused.
use Rattle.std.specs.Prelude.{ℕ, if◌then◌else◌, List, length, Ok, Err, Result, nat_le}
use Rattle.transfer.specs.declared.draft.Transfer.{Transfer}
use Rattle.transfer.specs.declared.refusal.Refusal.TheVariants.{LengthOutOfRange}
use Rattle.transfer.specs.Limits.{most_items}
use Rattle.transfer.specs.Refusal.{number}
use Rattle.host.specs.ListHost.{ListHostModel, new_list_host}

abbrev pub full_list : List Transfer → Result ListHostModel ℕ
full_list ts =
    if nat_le (length ts) most_items then Ok (new_list_host ts) else Err (number LengthOutOfRange)

abbrev pub full_queue : List ℕ → Result (List ℕ) ℕ
full_queue xs = if nat_le (length xs) most_items then Ok xs else Err (number LengthOutOfRange)
