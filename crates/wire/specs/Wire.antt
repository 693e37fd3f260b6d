-- The lines in use: what every part sees of a tick, and the lines after it.
use Rattle.std.specs.Prelude.{Bool, true, false, not, ◌&&◌, None}
use Rattle.wire.specs.declared.levels.Levels.{Levels}
use Rattle.wire.specs.declared.event.Event.{Event}
use Rattle.wire.specs.declared.event.Event.TheVariants.{Rise, Fall, Start, Stop, SteadyHigh, SteadyLow}
use Rattle.wire.specs.declared.wire.Signal.{Signal}
use Rattle.wire.specs.declared.wire.Wire.{Wire}
use Rattle.wire.specs.Event.{event_between}
use Rattle.wire.specs.Latch.{latch_after, counted_bit}

-- before the first tick
abbrev pub new_wire : Wire
new_wire = record {
  last = record { scl = true; sda = true };
  busy = false;
  latch = record { level = None };
}

-- the bus is busy from a start to the next stop
abbrev pub busy_after : Bool → Event → Bool
busy_after b Start = true
busy_after b Stop = false
busy_after b (Rise x) = b
busy_after b Fall = b
busy_after b SteadyHigh = b
busy_after b SteadyLow = b

-- what every part sees of a tick with these levels
abbrev pub signal : Wire → Levels → Signal
signal w v = record {
  event = event_between w.last v;
  bit = counted_bit w.latch.level (event_between w.last v);
  free_and_high = not w.busy && (v.scl && v.sda);
}

abbrev pub wire_after : Wire → Levels → Wire
wire_after w v = record {
  last = v;
  busy = busy_after w.busy (event_between w.last v);
  latch = record { level = latch_after w.latch.level (event_between w.last v) };
}
