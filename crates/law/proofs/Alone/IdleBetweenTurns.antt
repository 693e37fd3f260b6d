-- The ports between turns: they pull nothing, and a transfer alone finds them so and leaves them so.
use Rattle.std.proofs.Common.{◌≡◌, ℕ, ◌≤◌, false, List, sym, refl, ap, ◌∙◌, subst}
use Rattle.transfer.specs.Transfer.{TransferModel}
use Rattle.device.specs.Device.{Behaviour}
use Rattle.law.specs.Bank.{Bank}
use Rattle.law.specs.TransferResult.{AddressedDevice, transfer_result}
use Rattle.master.specs.Cursor.{new_cursor}
use Rattle.port.specs.Port.{PortModel}
use Rattle.master.specs.Script.{transfers}
use Rattle.law.proofs.FarSide.{last, QuietFor}
use Rattle.law.proofs.Alone.StepsOfBanks.{none_each}
use Rattle.law.proofs.Alone.PlayedIsCarried.{carried_alone, agrees}
use Rattle.transfer.specs.Legal.{IsLegal}
use Rattle.law.proofs.Alone.PortsAsSide.{pulling, ports_side, idle_port, idle_ports}
use Rattle.law.proofs.Alone.SlotsRunOut.{slots_left}

module _ (ds : List Behaviour) where
  -- the ports of some devices between turns
  pub record Idle (s : Bank PortModel ds) : Type 0 where
    pub devices : Bank AddressedDevice ds
    pub ports_are : s ≡ idle_ports ds devices

  pub idle_pulls_nothing : (s : Bank PortModel ds) → Idle s → (ports_side ds).pulls s ≡ false
  idle_pulls_nothing s h = rw h.ports_are (none_each idle_port pulling (λ b p. refl) ds h.devices)

  -- a transfer that begins at such ports finds them pull only where it listens
  pub quiet_from_idle : (t : TransferModel) (s : Bank PortModel ds) (m : ℕ) → IsLegal t → Idle s →
      QuietFor transfers (ports_side ds) m (new_cursor t) ((ports_side ds).begin s)
  quiet_from_idle t s m k h =
      subst (λ u. QuietFor transfers (ports_side ds) m (new_cursor t) ((ports_side ds).begin u)) (sym h.ports_are)
      ((agrees ds t h.devices k).quiet m)

  -- and leaves such ports
  pub idle_at_last : (t : TransferModel) (s : Bank PortModel ds) (n : ℕ) → IsLegal t →
      slots_left (new_cursor t) ≤ n → Idle s →
      Idle (last transfers (ports_side ds) n (new_cursor t) ((ports_side ds).begin s))
  idle_at_last t s n k b h = record {
    devices = (transfer_result ds t h.devices).devices;
    ports_are =
        ap (λ u. last transfers (ports_side ds) n (new_cursor t) ((ports_side ds).begin u)) h.ports_are
        ∙ (carried_alone ds t h.devices n k b).same_devices;
  }
