-- A bus as the rules see it; what a tick and a run make of one, and by which calls its devices went from one value to another.
use Rattle.std.specs.Prelude.{◌≡◌, ℕ, zero, suc, true, false, List, Result, nat_lt}
use Rattle.transfer.specs.Refusal.{answer}
use Rattle.transfer.specs.declared.refusal.Refusal.{Refusal}
use Rattle.device.specs.Device.{Behaviour}
use Rattle.host.specs.Host.{HostBehaviour}
use Rattle.wire.specs.Wire.{signal}
use Rattle.wire.specs.declared.wire.Signal.{Signal}
use Rattle.law.specs.declared.tick.Tick.{Tick}
use Rattle.law.specs.BusModel.{BusModel, HoldAnswers, Answered, levels_at, tick_at, is_at_rest}
use Rattle.law.specs.Limits.{most_ticks}
use Rattle.law.specs.RunModel.{Running, run_start, run_after_tick, RunAnswered, run_at}
use Rattle.exchange.specs.declared.masters.Masters as masters
use Rattle.exchange.specs.declared.ports.Ports as ports
use Rattle.exchange.specs.declared.bus.Bus.{Bus}
use Rattle.exchange.specs.declared.run.Run.{Run}
use Rattle.exchange.specs.Run.{run_model}

-- a bus as the rules see it, its banks by what they stand for
abbrev pub bus_model : {M P : Type 0} {masters : masters.Ghosts M} {ports : ports.Ghosts P} →
    Bus M P masters ports → BusModel masters.hosts ports.devices
bus_model {masters = masters} {ports = ports} u =
    record { wire = u.wire; masters = masters.model u.masters; ports = ports.model u.ports }

module _ (hs : List HostBehaviour) (ds : List Behaviour) {P : Type 0}
    (asked : P → Signal → HoldAnswers ds → P → Type 0) where
  -- by the calls of the next tick, where hold is answered by a, the ports went from p to q
  abbrev pub TickAsked : BusModel hs ds → HoldAnswers ds → P → P → Type 0
  TickAsked u a p q = asked p (signal u.wire (levels_at hs ds u)) a q

  -- by those of at most n ticks more of a run, where hold in its tick k is answered by a k; at rest there are none
  abbrev pub RunTicksAsked : ℕ → (ℕ → HoldAnswers ds) → Running hs ds → P → P → Type 0
  RunTicksAsked zero a r p q = q ≡ p
  RunTicksAsked (suc n) a r p q =
      (is_at_rest hs ds r.bus ≡ true → q ≡ p) ×
      (is_at_rest hs ds r.bus ≡ false → (next : P) ×
      TickAsked r.bus (a r.ticks) p next ×
      RunTicksAsked n a (run_after_tick hs ds r (a r.ticks)) next q)

  -- by those of a whole run; one that is refused makes none
  abbrev pub RunAsked : BusModel hs ds → ℕ → (ℕ → HoldAnswers ds) → P → P → Type 0
  RunAsked u n a p q =
      (nat_lt most_ticks n ≡ true → q ≡ p) ×
      (nat_lt most_ticks n ≡ false → RunTicksAsked n a (run_start hs ds u) p q)

module _ {M P : Type 0} {masters : masters.Ghosts M} {ports : ports.Ghosts P} where
  -- one tick of u shows t and leaves v, for some answers to hold that the devices may give
  abbrev pub TicksTo : Bus M P masters ports → Tick → Bus M P masters ports → Type 0
  TicksTo u t v =
      (a : HoldAnswers ports.devices) ×
      Answered masters.hosts ports.devices (bus_model u) a ×
      ((t, bus_model v) ≡ tick_at masters.hosts ports.devices (bus_model u) a) ×
      TickAsked masters.hosts ports.devices ports.asked (bus_model u) a u.ports v.ports

  -- a run of at most n ticks from u answers r and leaves v, likewise
  abbrev pub RunsTo : Bus M P masters ports → ℕ → Result Run Refusal → Bus M P masters ports →
      Type 0
  RunsTo u n r v =
      (a : ℕ → HoldAnswers ports.devices) ×
      RunAnswered masters.hosts ports.devices (bus_model u) n a ×
      ((answer run_model r, bus_model v) ≡ run_at masters.hosts ports.devices (bus_model u) n a) ×
      RunAsked masters.hosts ports.devices ports.asked (bus_model u) n a u.ports v.ports
