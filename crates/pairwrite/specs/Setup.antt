-- The bus of the run before it is armed.
use Rattle.std.specs.Prelude.{◌≡◌, ℕ, List, [], ◌∷◌}
use Rattle.transfer.specs.declared.draft.Transfer.{Transfer}
use Rattle.transfer.specs.Transfer.{transfer_model}
use Rattle.device.specs.Device.{Behaviour}
use Rattle.device.specs.RegisterFile.{register_file, new_registers}
use Rattle.host.specs.Host.{HostBehaviour}
use Rattle.host.specs.ListHost.{ListHostModel, list_host}
use Rattle.master.specs.Master.{new_hosted_master}
use Rattle.port.specs.Port.{new_port}
use Rattle.law.specs.BusModel.{BusModel, new_bus}
use Rattle.host.specs.ListHost.{new_list_host}
use Rattle.support.specs.Sent.{registers_address, register_write}

-- one transfer, a write of the byte to a register
abbrev pub Wants : ℕ → ListHostModel → Type 0
Wants byte m =
    (t : Transfer) × (transfer_model t ≡ register_write registers_address byte) ×
    (m ≡ new_list_host (t ∷ []))

abbrev pub pair_hosts : List HostBehaviour
pair_hosts = list_host ∷ list_host ∷ []

abbrev pub pair_devices : List Behaviour
pair_devices = register_file ∷ []

-- clock counts 1 and 1 for the first master, 2 and 1 for the second
abbrev pub pair_of : ListHostModel → ListHostModel → BusModel pair_hosts pair_devices
pair_of m n =
    let first = new_hosted_master list_host 1 1 m in
    let second = new_hosted_master list_host 2 1 n in
    new_bus pair_hosts pair_devices
    (first, (second, tt)) (new_port register_file registers_address new_registers, tt)
