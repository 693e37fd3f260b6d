use Rattle.std.proofs.Common.{◌≡◌, ℕ, List, [], ◌∷◌, Ok}
use Rattle.transfer.specs.Transfer.{TransferModel, transfer_model, checked_read}
use Rattle.device.specs.EventQueue.{event_queue, queue_model}
use Rattle.host.specs.ListHost.{ListHostModel, list_host, list_host_model}
use Rattle.law.specs.BusModel.{BusModel, new_bus}
use Rattle.master.specs.Master.{HostedMaster, new_hosted_master}
use Rattle.port.specs.Port.{PortModel, new_port}
use Rattle.examples.specs.Setup.{reader, two_queues, queue_bus_of}
use Rattle.host.specs.ListHost.{new_list_host}
use Rattle.support.specs.Sent.{event_read}
use Rattle.support.proofs.Made.{ok_same, unwrapped}
use Rattle.examples.proofs.setup.queue_bus.Goals as goal

read_is : (t : TransferModel) (a : ℕ) → Ok t ≡ checked_read a 1 → a ≡ 81 → t ≡ event_read
read_is t a e at_81 = cc

queues_are : (u : BusModel reader two_queues) (x : HostedMaster list_host) (p q : PortModel event_queue) (a : ℕ) (clock : ℕ × ℕ)
    (m n : ListHostModel) (one other : List ℕ) →
    u ≡ new_bus reader two_queues (x, tt) (p, (q, tt)) → x ≡ new_hosted_master list_host clock.0 clock.1 m →
    p ≡ new_port event_queue a one → q ≡ new_port event_queue a other →
    a ≡ 81 → clock ≡ (1, 1) → m ≡ n → one ≡ 0x3C ∷ [] → other ≡ 0x5A ∷ [] → u ≡ queue_bus_of n
queues_are u x p q a clock m n one other e reads first second at_81 quick is one_is other_is = cc

pub returns : goal.returns
returns c =
    let t = c.unwrap-read.result in
    let at_81 = ok_same (unwrapped (λ a. a.number) _ _ _ c.new.ensures c.unwrap-events.ensures) in (
      t,
      read_is _ _ (unwrapped transfer_model _ _ _ c.read.ensures c.unwrap-read.ensures) at_81,
      queues_are _ _ _ _ _ _ _ (new_list_host (t ∷ [])) _ _ c.new-3.ensures.made c.new-reader.ensures.made c.new-first.ensures.made
          c.new-second.ensures.made
          at_81 (ok_same (unwrapped (λ k. (k.low, k.high)) _ _ _ c.new-2.ensures c.unwrap.ensures))
          (ok_same (unwrapped list_host_model _ _ _ c.list_of.ensures c.unwrap-2.ensures))
          (ok_same (unwrapped queue_model _ _ _ c.queue_of.ensures c.unwrap-3.ensures))
          (ok_same (unwrapped queue_model _ _ _ c.queue_of-2.ensures c.unwrap-4.ensures)),
    )
