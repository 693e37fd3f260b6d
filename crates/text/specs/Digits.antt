-- Hexadecimal digits, a byte as two of them, and bytes.
use Rattle.std.specs.Prelude.{ℕ, ◌+◌, ◌/◌, ◌%◌, if◌then◌else◌, List, [], ◌∷◌, ◌++◌, codes, nat_lt}
use Rattle.std.specs.List.{flat_map}

-- 0 to 9 from code 48 on, and A to F from code 65 on
abbrev pub digit_code : ℕ → ℕ
digit_code d = if nat_lt d 10 then 48 + d else 55 + d

-- the upper four bits, then the lower four
abbrev pub hex_digits : ℕ → List ℕ
hex_digits b = digit_code (b / 16) ∷ digit_code (b % 16) ∷ []

-- a space and two hexadecimal digits
abbrev pub byte_item : ℕ → List ℕ
byte_item b = codes " " ++ hex_digits b

-- each byte as its item, in order
abbrev pub bytes_text : List ℕ → List ℕ
bytes_text xs = flat_map byte_item xs
