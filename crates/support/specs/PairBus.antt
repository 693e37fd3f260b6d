-- A bus of two masters and a register file, before a master is armed.
use Rattle.std.specs.Prelude.{ℕ, [], ◌∷◌}
use Rattle.device.specs.RegisterFile.{register_file, new_registers}
use Rattle.host.specs.Host.{HostBehaviour}
use Rattle.master.specs.Master.{new_hosted_master}
use Rattle.port.specs.Port.{new_port}
use Rattle.law.specs.BusModel.{BusModel, new_bus}
use Rattle.support.specs.declared.pair.Clocks.{Clocks}

abbrev pub new_pair_bus : (h : HostBehaviour) → ℕ → Clocks → h.Meaning → h.Meaning →
    BusModel (h ∷ h ∷ []) (register_file ∷ [])
new_pair_bus h address clocks m n =
    let first = new_hosted_master h clocks.first.low clocks.first.high m in
    let second = new_hosted_master h clocks.second.low clocks.second.high n in
    new_bus (h ∷ h ∷ []) (register_file ∷ [])
    (first, (second, tt)) (new_port register_file address new_registers, tt)
