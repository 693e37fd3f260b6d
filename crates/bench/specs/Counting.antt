-- Ticks in which masters are armed again whenever the bus is at rest, and the outcomes told in them.
use Rattle.std.specs.Prelude.{◌≡◌, ℕ, zero, suc, ◌+◌, ◌-◌, ◌^◌, min, if◌then◌else◌, List}
use Rattle.device.specs.Device.{Behaviour}
use Rattle.host.specs.Host.{HostBehaviour}
use Rattle.law.specs.BusModel.{BusModel, HoldAnswers, Answered, tick_at, is_at_rest}
use Rattle.law.specs.RunModel.{told_count}
use Rattle.support.specs.ArmAll.{all_armed}
use Rattle.wire.specs.declared.event.Event.{Event}
use Rattle.wire.specs.declared.event.Event.TheVariants.{Rise, Fall, Start, Stop, SteadyHigh, SteadyLow}

-- outcomes are counted at stops; the count stays at the highest number of 64 bits
abbrev pub count_after : Event → ℕ → ℕ → ℕ
count_after (Rise sda) count told = count
count_after Fall count told = count
count_after Start count told = count
count_after Stop count told = min (count + told) (2 ^ 64 - 1)
count_after SteadyHigh count told = count
count_after SteadyLow count told = count

module _ (hs : List HostBehaviour) (ds : List Behaviour) (masters : ℕ) where
  -- masters are armed at rest
  abbrev pub bus_readied : BusModel hs ds → BusModel hs ds
  bus_readied u = if is_at_rest hs ds u then all_armed hs ds masters u else u

  -- one tick: what is counted after it, and the bus
  abbrev pub round_of : ℕ → BusModel hs ds → HoldAnswers ds → ℕ × BusModel hs ds
  round_of count u h = let a = tick_at hs ds (bus_readied u) h in
      (count_after a.0.event count (told_count a.0.marks), a.1)

  -- from u so many ticks lead to v, and count so many outcomes, for some answers to hold that the devices may give
  abbrev pub Works : ℕ → BusModel hs ds → ℕ → BusModel hs ds → Type 0
  Works zero u count v = (count ≡ 0) × (v ≡ u)
  Works (suc n) u count v =
      (before : ℕ) × (w : BusModel hs ds) × (h : HoldAnswers ds) × Works n u before w ×
      Answered hs ds (bus_readied w) h × ((count, v) ≡ round_of before w h)
