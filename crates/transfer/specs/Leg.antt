-- A leg by its address, and by the bytes that it writes or how many it reads.
use Rattle.std.specs.Prelude.{ℕ, ◌+◌, ◌*◌, Bool, true, false, List, [], length}
use Rattle.transfer.specs.declared.leg.Body.{Body}
use Rattle.transfer.specs.declared.leg.Body.TheVariants.{Write, Read}
use Rattle.transfer.specs.declared.leg.Direction.{Direction}
use Rattle.transfer.specs.declared.leg.Direction.TheVariants as direction
use Rattle.transfer.specs.declared.leg.Leg.{Leg}
use Rattle.transfer.specs.Bytes.{bytes_in}

-- the bit after an address calls for a read where it is 1
abbrev pub direction_of : Bool → Direction
direction_of true = direction.Read
direction_of false = direction.Write

pub data BodyModel : Type 0 where
  writes : List ℕ → BodyModel
  reads : ℕ → BodyModel

pub record LegModel : Type 0 where
  pub address : ℕ
  pub body : BodyModel

abbrev pub body_model : Body → BodyModel
body_model (Write w) = writes (bytes_in w)
body_model (Read r) = reads r.count

abbrev pub leg_model : Leg → LegModel
leg_model g = record { address = g.address.number; body = body_model g.body }

abbrev pub write_leg : ℕ → List ℕ → LegModel
write_leg a xs = record { address = a; body = writes xs }

abbrev pub read_leg : ℕ → ℕ → LegModel
read_leg a n = record { address = a; body = reads n }

-- how every leg begins
abbrev pub empty_write : ℕ → LegModel
empty_write a = write_leg a []

-- the byte that calls for a leg: the address, and a lowest bit of 1 for a read
abbrev pub address_byte : ℕ → BodyModel → ℕ
address_byte a (writes xs) = a * 2
address_byte a (reads n) = a * 2 + 1

abbrev pub body_direction : BodyModel → Direction
body_direction (writes xs) = direction.Write
body_direction (reads n) = direction.Read

-- how many bytes follow the address
abbrev pub body_size : BodyModel → ℕ
body_size (writes xs) = length xs
body_size (reads n) = n
