-- Every transfer of the code is legal.
use Rattle.std.proofs.Common.{ℕ, zero, suc, List, [], ◌∷◌, take, Some, None, Option, arith, length-take}
use Rattle.std.specs.Option.{option_map}
use Rattle.transfer.specs.declared.draft.Transfer.{Transfer}
use Rattle.transfer.specs.declared.leg.Body.{Body}
use Rattle.transfer.specs.declared.leg.Body.TheVariants.{Write, Read}
use Rattle.transfer.specs.declared.leg.Leg.{Leg}
use Rattle.transfer.specs.Transfer.{transfer_model}
use Rattle.transfer.specs.Leg.{body_model, leg_model}
use Rattle.transfer.specs.Octets.{IsOctets}
use Rattle.transfer.specs.Legal.{IsLegalBody, IsLegalLeg, IsLegalSecond, IsLegal}

octets_take : (n : ℕ) (xs : List ℕ) → IsOctets xs → IsOctets (take n xs)
octets_take zero xs h k = omega arith
octets_take (suc n) [] h k = omega arith
octets_take (suc n) (x ∷ xs) h zero = h 0
octets_take (suc n) (x ∷ xs) h (suc k) = octets_take n xs (λ j. h (suc j)) k

legal_body : (b : Body) → IsLegalBody (body_model b)
legal_body (Write w) = (octets_take w.len w.bytes (w.octets (omega arith)), simp length-take (omega arith))
legal_body (Read r) = (r.some, r.fits)

legal_leg : (g : Leg) → IsLegalLeg (leg_model g)
legal_leg g = record { least = g.address.least; most = g.address.most; within = legal_body g.body }

legal_second : (o : Option Leg) → IsLegalSecond (option_map leg_model o)
legal_second None = tt
legal_second (Some g) = legal_leg g

pub legal_transfer : (t : Transfer) → IsLegal (transfer_model t)
legal_transfer t = record { first_leg = legal_leg t.first; second_leg = legal_second t.second }
