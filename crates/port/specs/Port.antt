-- A port after an event, and what it asks its device: select, put, take, finish and hold.
use Rattle.std.specs.Prelude.{◌≡◌, ℕ, suc, ◌<◌, ◌-◌, ◌/◌, ◌%◌, Bool, true, false, if◌then◌else◌, not, ◌&&◌, Some, None}
use Rattle.std.specs.Prelude.{Option, ◌==◌, nat_lt, List, [], ◌∷◌}
use Rattle.transfer.specs.declared.leg.Direction.{Direction}
use Rattle.transfer.specs.declared.leg.Direction.TheVariants.{Write, Read}
use Rattle.transfer.specs.Address.{answers_to}
use Rattle.transfer.specs.Leg.{direction_of}
use Rattle.device.specs.Device.{Behaviour, Step, select, put, take, finish}
use Rattle.device.specs.declared.device.Device.{Ghosts}
use Rattle.port.specs.declared.port.Mode.{Mode}
use Rattle.port.specs.declared.port.Mode.TheVariants.{Out, Addressing, Writing, Acknowledging, Reading}
use Rattle.port.specs.declared.port.Port.{Port}
use Rattle.wire.specs.declared.event.Event.{Event}
use Rattle.wire.specs.declared.event.Event.TheVariants.{Rise, Fall, Start, Stop, SteadyHigh, SteadyLow}
use Rattle.wire.specs.declared.pulls.Pulls.{Pulls}
use Rattle.wire.specs.declared.wire.Signal.{Signal}
use Rattle.wire.specs.ByteProgress.{bit_at, shift_in, progress}

pub record PortModel (b : Behaviour) : Type 0 where
  pub address : ℕ
  pub meaning : b.Meaning
  -- the device said yes to select and is not finished yet
  pub owed : Bool
  pub mode : Mode
  -- how many more steady-low ticks SCL is pulled
  pub hold : ℕ

-- a port pulls for a yes, and for each 0 of a byte that it shows
abbrev pub mode_pulls : Mode → Bool
mode_pulls Out = false
mode_pulls (Addressing x) = false
mode_pulls (Writing x) = false
mode_pulls (Acknowledging d) = true
mode_pulls (Reading x) = nat_lt x.bits 8 && not (bit_at x.value (7 - x.bits))

-- for some answer to hold
abbrev pub ForSomeHold : (ℕ → Type 0) → Type 0
ForSomeHold P = (h : ℕ) × (h < 256) × P h

module _ (b : Behaviour) where
  abbrev pub port_pulls : PortModel b → Pulls
  port_pulls p = record { scl = nat_lt 0 p.hold; sda = mode_pulls p.mode }

  abbrev pub with_mode : PortModel b → Mode → PortModel b
  with_mode p m = record p { mode = m }

  abbrev pub port_after_select : PortModel b → Direction → Bool × b.Meaning → PortModel b
  port_after_select p d a =
      record p { meaning = a.1; owed = a.0; mode = if a.0 then Acknowledging d else Out }

  -- the eighth bit of an address
  abbrev pub port_after_address : PortModel b → ℕ → Direction → PortModel b
  port_after_address p asked d =
      if answers_to p.address asked then port_after_select p d (b.select p.meaning d)
      else with_mode p Out

  -- the eighth bit of a written byte
  abbrev pub port_after_put : PortModel b → Bool × b.Meaning → PortModel b
  port_after_put p a = record p { meaning = a.1; mode = if a.0 then Acknowledging Write else Out }

  -- SCL is pulled for h steady-low ticks more
  abbrev pub with_hold : PortModel b → ℕ → PortModel b
  with_hold p h = record p { hold = h }

  -- the ninth bit in a write, where hold answers h
  abbrev pub port_after_write_acknowledge : PortModel b → ℕ → PortModel b
  port_after_write_acknowledge p h = with_hold (with_mode p (Writing (progress 0 0))) h

  abbrev pub port_after_take : PortModel b → ℕ × b.Meaning → PortModel b
  port_after_take p a = record p { meaning = a.1; mode = Reading (progress 0 a.0) }

  -- the ninth bit in a read: an N puts the port out, and at an A it takes a byte
  abbrev pub port_after_read_acknowledge : PortModel b → Bool → ℕ × b.Meaning → ℕ → PortModel b
  port_after_read_acknowledge p true a h = with_mode p Out
  port_after_read_acknowledge p false a h = with_hold (port_after_take p a) h

  -- a bit counts
  abbrev pub port_after_bit : PortModel b → Mode → Bool → ℕ → PortModel b
  port_after_bit p Out x h = p
  port_after_bit p (Addressing y) x h = let v = shift_in y.value x in
      if nat_lt y.bits 7 then with_mode p (Addressing (progress (suc y.bits) v))
      else port_after_address p (v / 2) (direction_of (v % 2 == 1))
  port_after_bit p (Writing y) x h = let v = shift_in y.value x in
      if nat_lt y.bits 7 then with_mode p (Writing (progress (suc y.bits) v))
      else port_after_put p (b.put p.meaning v)
  port_after_bit p (Acknowledging Write) x h = port_after_write_acknowledge p h
  port_after_bit p (Acknowledging Read) x h = port_after_read_acknowledge p x (b.take p.meaning) h
  port_after_bit p (Reading y) x h =
      if nat_lt y.bits 8 then with_mode p (Reading (progress (suc y.bits) y.value))
      else port_after_read_acknowledge p x (b.take p.meaning) h

  -- a device that said yes to select is finished once, at the next start or stop
  abbrev pub port_after_finish : PortModel b → Mode → PortModel b
  port_after_finish p m =
      let after = if p.owed then b.finish p.meaning else p.meaning in
      record p { meaning = after; owed = false; mode = m }

  -- a port at an event, with the bit that counts at it and the answer of hold
  abbrev pub port_after_event : PortModel b → Event → Option Bool → ℕ → PortModel b
  port_after_event p Start o h = port_after_finish p (Addressing (progress 0 0))
  port_after_event p Stop o h = port_after_finish p Out
  port_after_event p Fall None h = p
  port_after_event p Fall (Some x) h = port_after_bit p p.mode x h
  port_after_event p SteadyLow o h = with_hold p (p.hold - 1)
  port_after_event p SteadyHigh o h = p
  port_after_event p (Rise x) o h = p

  abbrev pub port_step : PortModel b → Signal → ℕ → PortModel b
  port_step p s h = port_after_event p s.event s.bit h

  abbrev pub new_port : ℕ → b.Meaning → PortModel b
  new_port a m = record { address = a; meaning = m; owed = false; mode = Out; hold = 0 }

-- as at its making
abbrev pub reset_port : (b : Behaviour) → PortModel b → PortModel b
reset_port b p = new_port b p.address p.meaning

-- a port as the rules see it, its device by what that means
abbrev pub port_model : {D : Type 0} → (device : Ghosts D) → Port D → PortModel device.behaviour
port_model device p = record {
  address = p.address.number;
  meaning = device.meaning p.device;
  owed = p.owes_finish;
  mode = p.mode;
  hold = p.hold;
}

-- a port has the very device of another
abbrev pub SameDevice : {D : Type 0} → Port D → Port D → Type 0
SameDevice p q = q.device ≡ p.device

-- whether it asks for how long to hold where a bit counts: at a ninth bit that leaves it in
abbrev pub asks_hold_at_bit : Mode → Bool → Bool
asks_hold_at_bit Out x = false
asks_hold_at_bit (Addressing y) x = false
asks_hold_at_bit (Writing y) x = false
asks_hold_at_bit (Acknowledging Write) x = true
asks_hold_at_bit (Acknowledging Read) x = not x
asks_hold_at_bit (Reading y) x = not (nat_lt y.bits 8) && not x

abbrev pub asks_hold_at_event : Mode → Event → Option Bool → Bool
asks_hold_at_event m Start o = false
asks_hold_at_event m Stop o = false
asks_hold_at_event m Fall None = false
asks_hold_at_event m Fall (Some x) = asks_hold_at_bit m x
asks_hold_at_event m SteadyLow o = false
asks_hold_at_event m SteadyHigh o = false
asks_hold_at_event m (Rise x) o = false

module _ (b : Behaviour) where
  -- a device that said yes to select is finished
  abbrev pub finish_steps : PortModel b → List Step
  finish_steps p = if p.owed then finish ∷ [] else []

  abbrev pub select_steps : PortModel b → ℕ → Direction → List Step
  select_steps p asked d =
      if answers_to p.address asked then select d (b.select p.meaning d).0 ∷ [] else []

  -- at an A it takes a byte
  abbrev pub take_steps : PortModel b → Bool → List Step
  take_steps p true = []
  take_steps p false = take (b.take p.meaning).0 ∷ []

  -- where a bit counts
  abbrev pub steps_at_bit : PortModel b → Mode → Bool → List Step
  steps_at_bit p Out x = []
  steps_at_bit p (Addressing y) x = let v = shift_in y.value x in
      if nat_lt y.bits 7 then [] else select_steps p (v / 2) (direction_of (v % 2 == 1))
  steps_at_bit p (Writing y) x = let v = shift_in y.value x in
      if nat_lt y.bits 7 then [] else put v (b.put p.meaning v).0 ∷ []
  steps_at_bit p (Acknowledging Write) x = []
  steps_at_bit p (Acknowledging Read) x = take_steps p x
  steps_at_bit p (Reading y) x = if nat_lt y.bits 8 then [] else take_steps p x

  abbrev pub steps_at_event : PortModel b → Event → Option Bool → List Step
  steps_at_event p Start o = finish_steps p
  steps_at_event p Stop o = finish_steps p
  steps_at_event p Fall None = []
  steps_at_event p Fall (Some x) = steps_at_bit p p.mode x
  steps_at_event p SteadyLow o = []
  steps_at_event p SteadyHigh o = []
  steps_at_event p (Rise x) o = []

  -- the steps that a port asks of its device, in their order and with their answers
  abbrev pub steps_asked : PortModel b → Signal → List Step
  steps_asked p s = steps_at_event p s.event s.bit

  abbrev pub asks_hold : PortModel b → Signal → Bool
  asks_hold p s = asks_hold_at_event p.mode s.event s.bit

  -- where hold is asked, h is an answer that the device may give, as it stands after every other question of the tick
  abbrev pub MayAnswer : PortModel b → Signal → ℕ → Type 0
  MayAnswer p s h = asks_hold p s ≡ true → b.holds (port_step b p s h).meaning h

module _ {D : Type 0} (device : Ghosts D) where
  -- these steps took a device from x to z, then hold with the answer h where it was asked, and nothing else
  abbrev pub AskedBy : D → List Step → Bool → ℕ → D → Type 0
  AskedBy x [] false h z = z ≡ x
  AskedBy x [] true h z = device.holds_to x h z
  AskedBy x (s ∷ ss) v h z = (y : D) × device.steps_to x s y × AskedBy y ss v h z

  -- what a tick makes of the device of a port, where hold answers h
  abbrev pub PortAsked : Port D → Signal → ℕ → Port D → Type 0
  PortAsked p s h q = let m = port_model device p in
      let b = device.behaviour in
      AskedBy p.device (steps_asked b m s) (asks_hold b m s) h q.device

  -- the device of a port was asked hold, once, and the port keeps its answer
  abbrev pub HoldAsked : Port D → Port D → Type 0
  HoldAsked p q = ForSomeHold (λ h.
      device.behaviour.holds (device.meaning q.device) h × AskedBy p.device [] true h q.device ×
      (port_model device q ≡ with_hold device.behaviour (port_model device p) h))
