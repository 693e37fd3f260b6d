-- Lists of bytes.
use Rattle.std.specs.Prelude.{ℕ, ◌<◌, List, slice_index}

abbrev pub IsOctets : List ℕ → Type 0
IsOctets xs = (k : ℕ) → slice_index xs k < 256
