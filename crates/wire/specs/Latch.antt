-- Which bit counts at an event, and which is kept.
use Rattle.std.specs.Prelude.{Bool, Some, None, Option}
use Rattle.wire.specs.declared.event.Event.{Event}
use Rattle.wire.specs.declared.event.Event.TheVariants.{Rise, Fall, Start, Stop, SteadyHigh, SteadyLow}

-- the level that a rise carries is kept for the next fall, unless a start or a stop comes between
abbrev pub latch_after : Option Bool → Event → Option Bool
latch_after o (Rise x) = Some x
latch_after o Fall = None
latch_after o Start = None
latch_after o Stop = None
latch_after o SteadyHigh = o
latch_after o SteadyLow = o

-- the bit that counts in a tick with this event
abbrev pub counted_bit : Option Bool → Event → Option Bool
counted_bit o (Rise x) = None
counted_bit o Fall = o
counted_bit o Start = None
counted_bit o Stop = None
counted_bit o SteadyHigh = None
counted_bit o SteadyLow = None
