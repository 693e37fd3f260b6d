-- What it is for a text to be the decimal of a number.
use Rattle.std.specs.Prelude.{◌≡◌, ℕ, List, length, slice_index_or}
use Rattle.std.specs.Str.Parse.{IsNumeral, digits_value}

-- digits of this value, at least one, and no leading zero
pub record IsDecimal (n : ℕ) (text : List ℕ) : Type 0 where
  pub digits : IsNumeral 10 text
  pub value : digits_value 10 text ≡ n
  -- a zero in front stands alone
  pub lead : slice_index_or text 0 0 ≡ 48 → length text ≡ 1
