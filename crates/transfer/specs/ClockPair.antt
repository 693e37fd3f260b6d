-- Which counts a clock pair may have.
use Rattle.std.specs.Prelude.{ℕ, Bool, if◌then◌else◌, ◌&&◌, Ok, Err, Result, nat_le}
use Rattle.transfer.specs.declared.refusal.Refusal.TheVariants.{ClockOutOfRange}
use Rattle.transfer.specs.Limits.{most_count}
use Rattle.transfer.specs.Refusal.{number}

abbrev pub is_count : ℕ → Bool
is_count n = nat_le 1 n && nat_le n most_count

abbrev pub checked_counts : ℕ → ℕ → Result (ℕ × ℕ) ℕ
checked_counts low high =
    if is_count low && is_count high then Ok (low, high) else Err (number ClockOutOfRange)
