-- The number and the message of each refusal, and the answer of a call that may refuse.
use Rattle.std.specs.Prelude.{ℕ, List, Ok, Err, Result, codes}
use Rattle.transfer.specs.declared.refusal.Refusal.{Refusal}
use Rattle.transfer.specs.declared.refusal.Refusal.TheVariants.{AddressOutOfRange, ClockOutOfRange, TwoLegsAlready}
use Rattle.transfer.specs.declared.refusal.Refusal.TheVariants.{LengthOutOfRange, NoSuchMaster, ArmedAlready}
use Rattle.transfer.specs.declared.refusal.Refusal.TheVariants.{NothingWanted, TooManyTicks}

abbrev pub number : Refusal → ℕ
number AddressOutOfRange = 1
number ClockOutOfRange = 2
number TwoLegsAlready = 3
number LengthOutOfRange = 4
number NoSuchMaster = 5
number ArmedAlready = 6
number NothingWanted = 7
number TooManyTicks = 8

abbrev pub message : Refusal → List ℕ
message AddressOutOfRange = codes "address not from 8 to 119"
message ClockOutOfRange = codes "clock count not from 1 to 255"
message TwoLegsAlready = codes "a transfer has two legs at most"
message LengthOutOfRange =
    codes "length out of range: a write has at most 16 bytes, a read 1 to 16, a list or a queue at most 8 items"
message NoSuchMaster = codes "no master of this number"
message ArmedAlready = codes "master armed already"
message NothingWanted = codes "host wants nothing"
message TooManyTicks = codes "more than 1000000 ticks asked for"

-- what was made, by its model, or the number of the refusal
abbrev pub answer : {T U : Type 0} → (T → U) → Result T Refusal → Result U ℕ
answer model (Ok x) = Ok (model x)
answer model (Err e) = Err (number e)
