-- A byte as bits, the highest first.
use Rattle.std.specs.Prelude.{ℕ, ◌+◌, ◌*◌, ◌/◌, ◌%◌, ◌^◌, Bool, true, false, ◌==◌}
use Rattle.wire.specs.declared.byte_progress.ByteProgress.{ByteProgress}

-- the bit at place k, from 0 for the lowest
abbrev pub bit_at : ℕ → ℕ → Bool
bit_at x k = (x / 2 ^ k) % 2 == 1

abbrev pub bit_value : Bool → ℕ
bit_value true = 1
bit_value false = 0

-- eight bits, of which the highest falls out as another comes in
abbrev pub shift_in : ℕ → Bool → ℕ
shift_in x b = x % 128 * 2 + bit_value b

-- a byte under way, n of its bits passed
abbrev pub progress : ℕ → ℕ → ByteProgress
progress n v = record { bits = n; value = v }
