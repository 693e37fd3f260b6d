-- What a wire says in bytes, the text of a byte, and the decoder after an event.
use Rattle.std.specs.Prelude.{ℕ, suc, Bool, true, false, if◌then◌else◌, Some, None, Option, List, ◌++◌, codes, nat_lt}
use Rattle.text.specs.Digits.{hex_digits}
use Rattle.wire.specs.declared.byte_progress.ByteProgress.{ByteProgress}
use Rattle.wire.specs.declared.decoder.Acknowledge.{Acknowledge}
use Rattle.wire.specs.declared.decoder.Acknowledge.TheVariants as acknowledge
use Rattle.wire.specs.declared.decoder.Decoded.{Decoded}
use Rattle.wire.specs.declared.decoder.Decoded.TheVariants as decoded
use Rattle.wire.specs.declared.decoder.DecodedByte.{DecodedByte}
use Rattle.wire.specs.declared.decoder.Decoder.{Decoder}
use Rattle.wire.specs.declared.event.Event.{Event}
use Rattle.wire.specs.declared.event.Event.TheVariants.{Rise, Fall, Start, Stop, SteadyHigh, SteadyLow}
use Rattle.wire.specs.ByteProgress.{shift_in, progress}
use Rattle.wire.specs.Latch.{latch_after, counted_bit}

-- low is A, high is N
abbrev pub acknowledge_of : Bool → Acknowledge
acknowledge_of false = acknowledge.A
acknowledge_of true = acknowledge.N

abbrev pub letter_of : Acknowledge → List ℕ
letter_of acknowledge.A = codes "A"
letter_of acknowledge.N = codes "N"

-- two hexadecimal digits, a space, and A or N
abbrev pub byte_text : DecodedByte → List ℕ
byte_text b = hex_digits b.value ++ (codes " " ++ letter_of b.acknowledge)

abbrev pub no_bits : ByteProgress
no_bits = progress 0 0

abbrev pub new_decoder : Decoder
new_decoder = record { latch = record { level = None }; byte = no_bits }

-- a byte is eight bits, the highest first, and the ninth acknowledges it
abbrev pub take_bit : ByteProgress → Bool → Decoded × ByteProgress
take_bit p b =
    if nat_lt p.bits 8
    then (decoded.Nothing, progress (suc p.bits) (shift_in p.value b))
    else (decoded.Byte (record { value = p.value; acknowledge = acknowledge_of b }), no_bits)

-- an event, with the bit that counts at it; a start or a stop begins afresh
abbrev pub byte_step : ByteProgress → Event → Option Bool → Decoded × ByteProgress
byte_step p Start o = (decoded.Start, no_bits)
byte_step p Stop o = (decoded.Stop, no_bits)
byte_step p Fall None = (decoded.Nothing, p)
byte_step p Fall (Some b) = take_bit p b
byte_step p (Rise x) o = (decoded.Nothing, p)
byte_step p SteadyHigh o = (decoded.Nothing, p)
byte_step p SteadyLow o = (decoded.Nothing, p)

abbrev pub decoder_step : Decoder → Event → Decoded × Decoder
decoder_step s e =
    let w = byte_step s.byte e (counted_bit s.latch.level e) in
    (w.0, record { latch = record { level = latch_after s.latch.level e }; byte = w.1 })
