-- What no step changes in a device, no tick changes in the device of a port.
use Rattle.std.proofs.Common.{ℕ, ◌/◌, ◌%◌, Bool, true, false, cond, Option, Some, None, ◌==◌, nat_lt}
use Rattle.device.specs.Device.{Behaviour}
use Rattle.port.specs.declared.port.Mode.{Mode}
use Rattle.port.specs.declared.port.Mode.TheVariants.{Out, Addressing, Writing, Acknowledging, Reading}
use Rattle.transfer.specs.Address.{answers_to}
use Rattle.port.specs.Port.{PortModel, with_mode, port_after_select, port_after_address, port_after_put}
use Rattle.port.specs.Port.{port_after_read_acknowledge, port_after_bit, port_after_event}
use Rattle.transfer.specs.declared.leg.Direction.{Direction}
use Rattle.transfer.specs.declared.leg.Direction.TheVariants.{Write, Read}
use Rattle.transfer.specs.Leg.{direction_of}
use Rattle.wire.specs.declared.event.Event.{Event}
use Rattle.wire.specs.declared.event.Event.TheVariants.{Rise, Fall, Start, Stop, SteadyHigh, SteadyLow}
use Rattle.wire.specs.ByteProgress.{shift_in}

module _ (b : Behaviour) (Q : b.Meaning → Type 0) (select : (m : b.Meaning) (d : Direction) → Q m → Q (b.select m d).1)
    (put : (m : b.Meaning) (x : ℕ) → Q m → Q (b.put m x).1) (take : (m : b.Meaning) → Q m → Q (b.take m).1)
    (finish : (m : b.Meaning) → Q m → Q (b.finish m)) where
  either : (v : Bool) (p q : PortModel b) → Q p.meaning → Q q.meaning → Q (cond v p q).meaning
  either true p q first second = first
  either false p q first second = second

  either_meaning : (v : Bool) (m n : b.Meaning) → Q m → Q n → Q (cond v m n)
  either_meaning true m n first second = first
  either_meaning false m n first second = second

  module _ (p : PortModel b) (kept : Q p.meaning) (h : ℕ) where
    kept_taking : (x : Bool) → Q (port_after_read_acknowledge b p x (b.take p.meaning) h).meaning
    kept_taking true = kept
    kept_taking false = take p.meaning kept

    kept_at_bit : (m : Mode) (x : Bool) → Q (port_after_bit b p m x h).meaning
    kept_at_bit Out x = kept
    kept_at_bit (Addressing y) x =
        let v = shift_in y.value x in
        let d = direction_of (v % 2 == 1) in
        either (nat_lt y.bits 7) _ (port_after_address b p (v / 2) d) kept
        (either (answers_to p.address (v / 2)) (port_after_select b p d (b.select p.meaning d)) (with_mode b p Out)
        (select p.meaning d kept) kept)
    kept_at_bit (Writing y) x = let v = shift_in y.value x in either (nat_lt y.bits 7) _
        (port_after_put b p (b.put p.meaning v)) kept (put p.meaning v kept)
    kept_at_bit (Acknowledging Write) x = kept
    kept_at_bit (Acknowledging Read) x = kept_taking x
    kept_at_bit (Reading y) x = either (nat_lt y.bits 8) _ (port_after_read_acknowledge b p x (b.take p.meaning) h) kept (kept_taking x)

    pub kept_on : (e : Event) (o : Option Bool) → Q (port_after_event b p e o h).meaning
    kept_on Start o = either_meaning p.owed (b.finish p.meaning) p.meaning (finish p.meaning kept) kept
    kept_on Stop o = either_meaning p.owed (b.finish p.meaning) p.meaning (finish p.meaning kept) kept
    kept_on Fall None = kept
    kept_on Fall (Some x) = kept_at_bit p.mode x
    kept_on SteadyLow o = kept
    kept_on SteadyHigh o = kept
    kept_on (Rise x) o = kept
