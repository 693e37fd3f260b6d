-- The counter: it is read and not written. A byte taken is how many were taken before, modulo 256,
-- and hold answers that number modulo 4.
use Rattle.std.specs.Prelude.{◌≡◌, ℕ, ◌+◌, ◌%◌, Bool, true, false}
use Rattle.device.specs.Device.{Behaviour}
use Rattle.transfer.specs.declared.leg.Direction.{Direction}
use Rattle.transfer.specs.declared.leg.Direction.TheVariants.{Write, Read}
use Rattle.custom.specs.declared.counter.Counter.{Counter}

-- how many bytes were taken
abbrev pub counter_model : Counter → ℕ
counter_model c = c.takes

abbrev pub select_answer : Direction → Bool
select_answer Write = false
select_answer Read = true

abbrev pub counter : Behaviour
counter = record {
  Meaning = ℕ;
  select = λ m d. (select_answer d, m);
  put = λ m x. (false, m);
  take = λ m. (m, (m + 1) % 256);
  finish = λ m. m;
  holds = λ m h. h ≡ m % 4;
}
