-- The limits of the devices, each of them chosen.
use Rattle.std.specs.Prelude.{ℕ}

-- how many registers a register file has
abbrev pub register_count : ℕ
register_count = 16
