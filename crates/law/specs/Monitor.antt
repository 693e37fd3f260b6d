-- What a monitor of the wire notes of the open turn.
use Rattle.std.specs.Prelude.{ℕ, zero, suc, Bool, true, false, ◌||◌, List, [], ◌∷◌, ◌++◌, Some, None, Option}
use Rattle.master.specs.declared.mark.Mark.{Mark}
use Rattle.master.specs.Mark.{is_lost}
use Rattle.wire.specs.declared.event.Event.{Event}
use Rattle.wire.specs.declared.event.Event.TheVariants.{Rise, Fall, Start, Stop, SteadyHigh, SteadyLow}
use Rattle.wire.specs.Latch.{latch_after, counted_bit}
use Rattle.law.specs.Letter.{Letter, stop, restart, bit_letter}

pub record Monitor : Type 0 where
  -- the falls so far
  pub falls : ℕ
  -- whether the last of its rises and falls is a rise and no stop has come since
  pub risen : Bool
  -- which masters were marked lost
  pub marked : List Bool
  pub latch : Option Bool
  -- the letters of the bits that counted, of the repeated starts and of the stop
  pub spelled : List Letter

-- before anything of a turn is noted, with nobody marked
abbrev pub new_monitor : List Bool → Monitor
new_monitor vs = record { falls = 0; risen = false; marked = vs; latch = None; spelled = [] }

abbrev pub letters_of_bit : Option Bool → List Letter
letters_of_bit None = []
letters_of_bit (Some b) = bit_letter b ∷ []

-- a start before the first fall is the turn's own and spells nothing; a later one is repeated
abbrev pub monitor_after_start : ℕ → Monitor → Monitor
monitor_after_start zero w = w
monitor_after_start (suc n) w = record w { latch = None; spelled = w.spelled ++ (restart ∷ []) }

abbrev pub monitor_after_event : Monitor → Event → Monitor
monitor_after_event w Fall = record {
  falls = suc w.falls;
  risen = false;
  marked = w.marked;
  latch = latch_after w.latch Fall;
  spelled = w.spelled ++ letters_of_bit (counted_bit w.latch Fall);
}
monitor_after_event w (Rise b) = record w { risen = true; latch = latch_after w.latch (Rise b) }
monitor_after_event w Start = monitor_after_start w.falls w
monitor_after_event w Stop =
    record w { risen = false; latch = latch_after w.latch Stop; spelled = w.spelled ++ (stop ∷ []) }
monitor_after_event w SteadyHigh = w
monitor_after_event w SteadyLow = w

abbrev pub marked_after : List Bool → List Mark → List Bool
marked_after [] ks = []
marked_after (v ∷ vs) [] = v ∷ vs
marked_after (v ∷ vs) (k ∷ ks) = (v || is_lost k) ∷ marked_after vs ks

abbrev pub monitor_after_marks : Monitor → List Mark → Monitor
monitor_after_marks w ks = record w { marked = marked_after w.marked ks }
