-- Where no turn is open nothing is asked of a device.
use Rattle.std.proofs.Common.{◌≡◌, Bool, List, [], ◌∷◌, Option, sym, refl, ap, ap₂, ◌∙◌, arith}
use Rattle.device.specs.Device.{Behaviour, Step}
use Rattle.host.specs.Host.{HostBehaviour}
use Rattle.port.specs.declared.port.Mode.{Mode}
use Rattle.port.specs.Port.{steps_asked, steps_at_event, steps_at_bit, PortModel}
use Rattle.wire.specs.declared.event.Event.{Event}
use Rattle.wire.specs.declared.wire.Signal.{Signal}
use Rattle.wire.specs.Wire.{signal}
use Rattle.law.specs.Bank.{Bank, bank_map, bank_list}
use Rattle.law.specs.Book.{closed}
use Rattle.law.specs.BusModel.{levels_at}
use Rattle.law.specs.TransferResult.{AddressedDevice}
use Rattle.law.specs.Use.{Use, steps_at, no_steps}
use Rattle.law.proofs.Alone.PortsAsSide.{unheld, idle_port, idle_ports}
use Rattle.law.proofs.Asked.PointsOfUse.{AtRest}

module _ (b : Behaviour) where
  bit_unheld : (p : PortModel b) (m : Mode) (x : Bool) → steps_at_bit b (unheld b p) m x ≡ steps_at_bit b p m x
  bit_unheld p m x = grind arith

  asks_unheld : (p : PortModel b) (e : Event) (o : Option Bool) →
      steps_at_event b (unheld b p) e o ≡ steps_at_event b p e o
  asks_unheld p e o = grind (arith, bit_unheld p p.mode)

  asks_idle : (d : AddressedDevice b) (e : Event) (o : Option Bool) → steps_at_event b (idle_port b d) e o ≡ []
  asks_idle d e o = grind arith

module _ (s : Signal) where
  abbrev all_asked : (ds : List Behaviour) → Bank PortModel ds → List (List Step)
  all_asked ds p = bank_list (λ b q. steps_asked b q s) ds p

  all_unheld : (ds : List Behaviour) (p : Bank PortModel ds) → all_asked ds (bank_map unheld ds p) ≡ all_asked ds p
  all_unheld [] p = refl
  all_unheld (b ∷ ds) p = ap₂ ◌∷◌ (asks_unheld b p.0 s.event s.bit) (all_unheld ds p.1)

  all_idle : (ds : List Behaviour) (d : Bank AddressedDevice ds) (p : Bank PortModel ds) →
      all_asked ds (idle_ports ds d) ≡ bank_list (λ b q. []) ds p
  all_idle [] d p = refl
  all_idle (b ∷ ds) d p = ap₂ ◌∷◌ (asks_idle b d.0 s.event s.bit) (all_idle ds d.1 p.1)

pub nothing_at_rest : (hs : List HostBehaviour) (ds : List Behaviour) (x : Use hs ds) → AtRest hs ds x →
    x.book.turn ≡ closed → steps_at hs ds x.bus ≡ no_steps hs ds x.bus
nothing_at_rest hs ds x rests f =
    let s = signal x.bus.wire (levels_at hs ds x.bus) in
    sym (all_unheld s ds x.bus.ports)
    ∙ (ap (all_asked s ds) (rests f) ∙ all_idle s ds x.book.devices x.bus.ports)
