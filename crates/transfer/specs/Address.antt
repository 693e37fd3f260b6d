-- Which numbers are addresses, and to which of them a port answers.
use Rattle.std.specs.Prelude.{ℕ, Bool, if◌then◌else◌, ◌&&◌, Ok, Err, Result, ◌==◌, nat_le}
use Rattle.transfer.specs.declared.refusal.Refusal.TheVariants.{AddressOutOfRange}
use Rattle.transfer.specs.Limits.{least_address, most_address}
use Rattle.transfer.specs.Refusal.{number}

-- the numbers below and above are reserved
abbrev pub checked_address : ℕ → Result ℕ ℕ
checked_address n =
    if nat_le least_address n && nat_le n most_address then Ok n else Err (number AddressOutOfRange)

-- whether a port of this address answers to the address asked for
abbrev pub answers_to : ℕ → ℕ → Bool
answers_to mine asked = mine == asked
