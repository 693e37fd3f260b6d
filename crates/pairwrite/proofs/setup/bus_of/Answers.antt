use Rattle.std.proofs.Common.{◌≡◌, ℕ, [], ◌∷◌, Ok, refl}
use Rattle.transfer.specs.Transfer.{TransferModel, transfer_model, checked_write}
use Rattle.device.specs.RegisterFile.{register_file, new_registers}
use Rattle.host.specs.ListHost.{ListHostModel, list_host, list_host_model}
use Rattle.master.specs.Master.{new_hosted_master}
use Rattle.host.specs.ListHost.{new_list_host}
use Rattle.support.specs.Sent.{register_write}
use Rattle.law.specs.BusModel.{BusModel, new_bus}
use Rattle.port.specs.Port.{new_port}
use Rattle.pairwrite.specs.Setup.{pair_hosts, pair_devices, pair_of}
use Rattle.support.proofs.Made.{ok_same, unwrapped}
use Rattle.pairwrite.proofs.setup.bus_of.Goals as goal

write_is : (t : TransferModel) (a byte : ℕ) → Ok t ≡ checked_write a (3 ∷ byte ∷ []) → a ≡ 80 → t ≡ register_write 80 byte
write_is t a byte e at_80 = cc

pair_is : (u : BusModel pair_hosts pair_devices) (a : ℕ) (x y : ℕ × ℕ) (m n m' n' : ListHostModel) →
    u ≡ new_bus pair_hosts pair_devices
    (new_hosted_master list_host x.0 x.1 m, (new_hosted_master list_host y.0 y.1 n, tt)) (new_port register_file a new_registers, tt) →
    a ≡ 80 → x ≡ (1, 1) → y ≡ (2, 1) → m ≡ m' → n ≡ n' → u ≡ pair_of m' n'
pair_is u a x y m n m' n' e at_80 quick slow first second = cc

pub returns : goal.returns
returns c =
    let t = c.unwrap-first.result in
    let u = c.unwrap-second.result in
    let at_80 = ok_same (unwrapped (λ a. a.number) _ _ _ c.new.ensures c.unwrap-address.ensures) in (
      new_list_host (t ∷ []),
      new_list_host (u ∷ []),
      (t, write_is _ _ _ (unwrapped transfer_model _ _ _ c.write.ensures c.unwrap-first.ensures) at_80, refl),
      (u, write_is _ _ _ (unwrapped transfer_model _ _ _ c.write-2.ensures c.unwrap-second.ensures) at_80, refl),
      pair_is _ _ _ _ _ _ _ _ c.pair_bus.ensures at_80
          (ok_same (unwrapped (λ k. (k.low, k.high)) _ _ _ c.new-2.ensures c.unwrap.ensures))
          (ok_same (unwrapped (λ k. (k.low, k.high)) _ _ _ c.new-3.ensures c.unwrap-2.ensures))
          (ok_same (unwrapped list_host_model _ _ _ c.list_of.ensures c.unwrap-3.ensures))
          (ok_same (unwrapped list_host_model _ _ _ c.list_of-2.ensures c.unwrap-4.ensures)),
    )
