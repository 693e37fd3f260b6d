-- The numbers that a line has.
use Rattle.std.specs.Prelude.{ℕ, ◌<◌, ◌^◌, List}
use Rattle.std.specs.Str.Parse.{IsNumeral, digits_value, without_leading_plus}

abbrev pub value_of : List ℕ → ℕ
value_of word = digits_value 10 (without_leading_plus word)

-- the word is a number of so many bits in base ten, where a plus may stand first
abbrev pub IsNumber : ℕ → List ℕ → Type 0
IsNumber bits word = IsNumeral 10 (without_leading_plus word) × (value_of word < 2 ^ bits)
