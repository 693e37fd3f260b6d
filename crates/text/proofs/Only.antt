-- A number has one decimal, which is what `{}` writes of it.
use Rattle.std.proofs.Common.{◌≡◌, ℕ, zero, suc, ◌^◌, ◌<◌, List, length, decimal, sym, ap, ◌∙◌, arith}
use Rattle.std.specs.Prelude.{slice_index_or}
use Rattle.std.proofs.lemmas.Fmt.{decimal_is_IsNumeral, decimal_digit, first_decimal, decimal-digits_value}
use Rattle.std.proofs.lemmas.Str.Parse.{numerals_by_value, tells_digits}
use Rattle.std.specs.Str.Parse.{AllDigits}
use Rattle.text.specs.Decimal.{IsDecimal}

lead : (n : ℕ) → n < 2 ^ 64 → slice_index_or (decimal n) 0 0 ≡ 48 → length (decimal n) ≡ 1
lead zero fits e = ap length (decimal_digit 0 (omega arith))
lead (suc n) fits e = absurd (omega (arith, first_decimal (suc n) (omega arith) fits))

pub is_decimal : (n : ℕ) → n < 2 ^ 64 → IsDecimal n (decimal n)
is_decimal n fits =
    let k = decimal_is_IsNumeral n fits in
    record { digits = k.0; value = k.1; lead = lead n fits }

pub only_one : (n : ℕ) (text : List ℕ) → n < 2 ^ 64 → IsDecimal n text → text ≡ decimal n
only_one n text fits d =
    let own = numerals_by_value (AllDigits 10) tells_digits in
    sym (ap decimal (sym d.value) ∙ decimal-digits_value own text d.digits.1 d.digits.0 d.lead (omega (arith, d.value)))
