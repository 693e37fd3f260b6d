-- The event queue: bytes that are read once, the oldest first.
use Rattle.std.specs.Prelude.{◌≡◌, ℕ, Bool, false, List, drop, is_some, slice_get}
use Rattle.std.specs.Option.{unwrap_or}
use Rattle.transfer.specs.declared.leg.Direction.{Direction}
use Rattle.transfer.specs.declared.leg.Direction.TheVariants.{Write, Read}
use Rattle.device.specs.declared.event_queue.EventQueue.{EventQueue}
use Rattle.device.specs.Device.{Behaviour}

abbrev pub queue_model : EventQueue → List ℕ
queue_model q = q.bytes

-- a read is answered exactly if a byte is left
abbrev pub select_answer : List ℕ → Direction → Bool
select_answer xs Write = false
select_answer xs Read = is_some (slice_get xs 0)

-- what an empty queue gives: all bits high, as on a bus where nobody pulls SDA
abbrev pub no_byte : ℕ
no_byte = 255

abbrev pub event_queue : Behaviour
event_queue = record {
  Meaning = List ℕ;
  select = λ m d. (select_answer m d, m);
  put = λ m x. (false, m);
  take = λ m. (unwrap_or (slice_get m 0) no_byte, drop 1 m);
  finish = λ m. m;
  holds = λ m h. h ≡ 0;
}
