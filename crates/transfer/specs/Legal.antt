-- Legal transfers: no reserved address, no more bytes than a leg may have, a read of at least one.
use Rattle.std.specs.Prelude.{◌≤◌, length, Some, None, Option}
use Rattle.transfer.specs.Transfer.{TransferModel}
use Rattle.transfer.specs.Leg.{BodyModel, writes, reads, LegModel}
use Rattle.transfer.specs.Limits.{least_address, most_address, most_bytes}
use Rattle.transfer.specs.Octets.{IsOctets}

abbrev pub IsLegalBody : BodyModel → Type 0
IsLegalBody (writes xs) = IsOctets xs × (length xs ≤ most_bytes)
IsLegalBody (reads n) = (1 ≤ n) × (n ≤ most_bytes)

pub record IsLegalLeg (g : LegModel) : Type 0 where
  pub least : least_address ≤ g.address
  pub most : g.address ≤ most_address
  pub within : IsLegalBody g.body

abbrev pub IsLegalSecond : Option LegModel → Type 0
IsLegalSecond None = Unit {0}
IsLegalSecond (Some g) = IsLegalLeg g

pub record IsLegal (t : TransferModel) : Type 0 where
  pub first_leg : IsLegalLeg t.first
  pub second_leg : IsLegalSecond t.second
