-- Bytes in a place of fixed size, by those that it holds.
use Rattle.std.specs.Prelude.{ℕ, ◌-◌, List, length, take, slice_index}
use Rattle.transfer.specs.declared.bytes.Bytes.{Bytes}

abbrev pub bytes_in : {n : ℕ} → Bytes n → List ℕ
bytes_in b = take b.len b.bytes

-- the last byte; none counts as 0
abbrev pub last_byte : List ℕ → ℕ
last_byte xs = slice_index xs (length xs - 1)
