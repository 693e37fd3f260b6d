-- The symbols that a contender shows.
use Rattle.std.specs.Prelude.{Bool, true, false}
use Rattle.master.specs.declared.symbol.Symbol.{Symbol}
use Rattle.master.specs.declared.symbol.Symbol.TheVariants.{Zero, One, Listen, RepeatedStart, Stop}

abbrev pub bit_symbol : Bool → Symbol
bit_symbol true = One
bit_symbol false = Zero

-- 0 and the stop pull SDA; 1, the repeated start and listen let it go
abbrev pub pulls_sda : Symbol → Bool
pulls_sda Zero = true
pulls_sda One = false
pulls_sda Listen = false
pulls_sda RepeatedStart = false
pulls_sda Stop = true
