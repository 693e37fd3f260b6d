-- A byte is its eight bits, shifted in from the highest on, and a bit of the joint byte is 1 where both bytes have 1.
use Rattle.std.proofs.Common.{◌≡◌, ℕ, zero, suc, ◌+◌, ◌-◌, ◌*◌, ◌/◌, ◌%◌, ◌^◌, ◌<◌, ◌≤◌}
use Rattle.std.proofs.Common.{true, ◌&&◌, eqb, ltb, refl, pow-suc, div-le_self, arith}
use native.Mathlib.Nat.{div-div-eq-div-mul}
use lib.Bits.{bit_and, and_shr, and_step}
use Rattle.std.proofs.lemmas.Bool.Decides.{nat_tests}
use Rattle.wire.specs.ByteProgress.{bit_at, bit_value, shift_in}

worth_odd : (m : ℕ) → bit_value (eqb (m % 2) 1) ≡ m % 2
worth_odd m = grind (arith, nat_tests)

halves : (x k : ℕ) → x / 2 ^ suc k ≡ x / 2 ^ k / 2
halves x k = rw (div-div-eq-div-mul x (2 ^ k) 2, pow-suc 2 k)

-- shifting the last bit in gives the byte back
shift : (y : ℕ) → y ≤ 255 → y / 2 % 128 * 2 + bit_value (eqb (y % 2) 1) ≡ y
shift y h = rw (worth_odd y) (omega arith)

-- the bits from the highest to bit k, where those before it are shifted on
pub shifted_digit : (x k : ℕ) → x < 256 → shift_in (x / 2 ^ suc k) (bit_at x k) ≡ x / 2 ^ k
shifted_digit x k h = rw (halves x k) (shift (x / 2 ^ k) (omega (arith, div-le_self x (2 ^ k))))

-- 255 has 1 at each bit
pub ones : (k : ℕ) → ltb k 8 ≡ true → bit_at 255 (7 - k) ≡ true
ones zero e = refl
ones (suc zero) e = refl
ones (suc (suc zero)) e = refl
ones (suc (suc (suc zero))) e = refl
ones (suc (suc (suc (suc zero)))) e = refl
ones (suc (suc (suc (suc (suc zero))))) e = refl
ones (suc (suc (suc (suc (suc (suc zero)))))) e = refl
ones (suc (suc (suc (suc (suc (suc (suc zero))))))) e = refl
ones (suc (suc (suc (suc (suc (suc (suc (suc k)))))))) e = grind (arith, nat_tests)

odd_and : (a b : ℕ) → eqb (bit_and a b % 2) 1 ≡ (eqb (a % 2) 1 && eqb (b % 2) 1)
odd_and a b = rw (and_step a b) (grind (arith, nat_tests))

-- a bit of the and of two bytes is the and of their bits
pub digit_and : (a b k : ℕ) → bit_at (bit_and a b) k ≡ (bit_at a k && bit_at b k)
digit_and a b k = rw (and_shr a b k) (odd_and (a / 2 ^ k) (b / 2 ^ k))
