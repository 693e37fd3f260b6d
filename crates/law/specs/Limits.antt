-- The limits of a bus, each of them a choice or drawn from others.
use Rattle.std.specs.Prelude.{ℕ, ◌+◌, ◌-◌, ◌*◌}
use Rattle.transfer.specs.Limits.{most_bytes, most_legs, most_count}

abbrev pub most_masters : ℕ
most_masters = 8

abbrev pub most_ports : ℕ
most_ports = 16

-- how many ticks one run may be asked for
abbrev pub most_ticks : ℕ
most_ticks = 1000000

-- a byte has its eight bits, and its acknowledge behind them
abbrev pub bits_of_byte : ℕ
bits_of_byte = 8

abbrev pub letters_of_byte : ℕ
letters_of_byte = bits_of_byte + 1

-- the longest leg: the byte that calls for it, and all that it may write or read
abbrev pub letters_of_leg : ℕ
letters_of_leg = letters_of_byte * (1 + most_bytes)

-- the longest string: the longest legs, a repeated start between two, and the stop
abbrev pub most_letters : ℕ
most_letters = most_legs * letters_of_leg + (most_legs - 1) + 1

-- the longest low: the low count of a clock, or a hold, and the tick in which SCL rises
abbrev pub ticks_of_low : ℕ
ticks_of_low = most_count + 1

-- the longest high, after the rise: the tick of a repeated start, the high count from there, and
-- the tick in which SCL falls
abbrev pub ticks_of_high : ℕ
ticks_of_high = 1 + most_count + 1

abbrev pub ticks_of_letter : ℕ
ticks_of_letter = ticks_of_low + ticks_of_high

-- the longest opening: the tick in which masters begin to contend, that of the start, the high
-- count, and the tick of the first fall
abbrev pub ticks_of_opening : ℕ
ticks_of_opening = 1 + 1 + most_count + 1

-- a turn takes no more, at the slowest clocks and holds too
abbrev pub ticks_of_turn : ℕ
ticks_of_turn = ticks_of_opening + most_letters * ticks_of_letter

-- no so many ticks with a master armed pass without an outcome: they are more than ticks_of_turn
abbrev pub most_ticks_of_turn : ℕ
most_ticks_of_turn = 160000
