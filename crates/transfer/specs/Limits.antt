-- The limits of what is sent, each of them chosen or drawn from those above it.
use Rattle.std.specs.Prelude.{ℕ, ◌-◌, ◌*◌, ◌^◌}

-- how many of the seven-bit addresses are reserved at either end
abbrev pub reserved_count : ℕ
reserved_count = 8

abbrev pub least_address : ℕ
least_address = reserved_count

abbrev pub most_address : ℕ
most_address = 2 ^ 7 - 1 - reserved_count

-- how many bytes a leg writes or reads at most
abbrev pub most_bytes : ℕ
most_bytes = 16

-- how many legs a transfer has at most
abbrev pub most_legs : ℕ
most_legs = 2

-- how many bytes a transfer reads at most
abbrev pub most_bytes_read : ℕ
most_bytes_read = most_legs * most_bytes

-- the highest count of a clock, and the highest answer to hold, both in ticks
abbrev pub most_count : ℕ
most_count = 255

-- how many transfers a list has at most, and how many bytes a queue
abbrev pub most_items : ℕ
most_items = 8
