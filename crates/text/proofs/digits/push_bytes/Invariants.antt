use Rattle.std.proofs.Common.{◌≡◌, ◌+◌, ◌*◌, ◌++◌, length, take}
use Rattle.text.specs.Digits.{bytes_text}
use Rattle.text.proofs.digits.push_bytes.Given as goal

abbrev pub invariant-loop-byte : goal.invariant-loop-byte
invariant-loop-byte g l =
    (l.text.bytes ≡ l.initial.text.bytes ++ bytes_text (take l.byte-index l.bytes))
    × (length l.text.bytes ≡ length l.initial.text.bytes + 3 * l.byte-index)
