-- The event between two levels in a row.
use Rattle.std.specs.Prelude.{Bool, true, false}
use Rattle.wire.specs.declared.levels.Levels.{Levels}
use Rattle.wire.specs.declared.event.Event.{Event}
use Rattle.wire.specs.declared.event.Event.TheVariants.{Rise, Fall, Start, Stop, SteadyHigh, SteadyLow}

-- SCL before and now, SDA before and now
abbrev pub line_event : Bool → Bool → Bool → Bool → Event
line_event false true a b = Rise b
line_event true false a b = Fall
line_event false false a b = SteadyLow
line_event true true true false = Start
line_event true true false true = Stop
line_event true true true true = SteadyHigh
line_event true true false false = SteadyHigh

abbrev pub event_between : Levels → Levels → Event
event_between a b = line_event a.scl b.scl a.sda b.sda
