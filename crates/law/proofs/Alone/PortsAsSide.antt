-- All ports as the far side that a script is played against, and how it follows the ports at each event.
use Rattle.std.proofs.Common.{◌≡◌, ℕ, Bool, List, [], ◌∷◌, Option, refl, arith}
use Rattle.device.specs.Device.{Behaviour}
use Rattle.port.specs.declared.port.Mode.{Mode}
use Rattle.port.specs.declared.port.Mode.TheVariants.{Out, Addressing}
use Rattle.wire.specs.declared.event.Event.{Event}
use Rattle.wire.specs.declared.wire.Signal.{Signal}
use Rattle.law.specs.Bank.{Bank, bank_map, bank_list}
use Rattle.law.specs.BusModel.{all_pulls, HoldAnswers, ports_step}
use Rattle.port.specs.Port.{PortModel, mode_pulls, port_pulls, port_after_bit, port_after_finish, new_port}
use Rattle.law.specs.TransferResult.{AddressedDevice}
use Rattle.wire.specs.ByteProgress.{progress}
use Rattle.law.proofs.FarSide.{Side, side_after}
use Rattle.law.proofs.Alone.StepsOfBanks.{any}

-- a port between slots: how long it holds SCL is no part of a slot
abbrev pub unheld : (b : Behaviour) → PortModel b → PortModel b
unheld b p = record { address = p.address; meaning = p.meaning; owed = p.owed; mode = p.mode; hold = 0 }

-- what a bit, a start and a stop make of a port
abbrev pub counting : Bool → (b : Behaviour) → PortModel b → PortModel b
counting x b p = port_after_bit b p p.mode x 0

abbrev pub starting : (b : Behaviour) → PortModel b → PortModel b
starting b p = port_after_finish b p (Addressing (progress 0 0))

abbrev pub stopping : (b : Behaviour) → PortModel b → PortModel b
stopping b p = port_after_finish b p Out

abbrev pub pulling : (b : Behaviour) → PortModel b → Bool
pulling b p = mode_pulls p.mode

abbrev pub ports_side : List Behaviour → Side
ports_side ds = record {
  S = Bank PortModel ds;
  pulls = λ s. any pulling ds s;
  bit = λ s x. bank_map (counting x) ds s;
  begin = λ s. bank_map starting ds s;
  finish = λ s. bank_map stopping ds s;
}

-- the ports of these devices between turns
abbrev pub idle_port : (b : Behaviour) → AddressedDevice b → PortModel b
idle_port b d = new_port b d.address d.meaning

abbrev pub idle_ports : (ds : List Behaviour) → Bank AddressedDevice ds → Bank PortModel ds
idle_ports ds d = bank_map idle_port ds d

-- a bit counts alike whatever a port holds, and whatever hold answers
unheld_counts : (b : Behaviour) (p : PortModel b) (m : Mode) (x : Bool) (h : ℕ) →
    unheld b (port_after_bit b p m x h) ≡ port_after_bit b (unheld b p) m x 0
unheld_counts b p m x h = grind arith

follows : (ds : List Behaviour) (s : Bank PortModel ds) (e : Event) (o : Option Bool) (i : Bool) (a : HoldAnswers ds) →
    bank_map unheld ds (ports_step ds s (record { event = e; bit = o; free_and_high = i }) a) ≡
    side_after (ports_side ds) (bank_map unheld ds s) e o
follows [] s e o i a = grind arith
follows (b ∷ ds) s e o i a = grind (arith, unheld_counts b s.0 s.0.mode, follows ds s.1 e o i a.1)

-- at every signal the ports, but for what they hold, go as the side does
pub side_follows : (ds : List Behaviour) (s : Bank PortModel ds) (v : Signal) (a : HoldAnswers ds) →
    bank_map unheld ds (ports_step ds s v a) ≡ side_after (ports_side ds) (bank_map unheld ds s) v.event v.bit
side_follows ds s v a = follows ds s v.event v.bit v.free_and_high a

-- the ports pull SDA exactly if the side does
pub side_pulls : (ds : List Behaviour) (s : Bank PortModel ds) →
    (all_pulls (bank_list port_pulls ds s)).sda ≡ (ports_side ds).pulls (bank_map unheld ds s)
side_pulls [] s = refl
side_pulls (b ∷ ds) s = grind (arith, side_pulls ds)
