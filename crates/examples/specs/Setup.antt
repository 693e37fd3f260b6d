-- The clocks of the examples, and the bus of two queues before it is armed.
use Rattle.std.specs.Prelude.{◌≡◌, ℕ, List, [], ◌∷◌}
use Rattle.transfer.specs.declared.draft.Transfer.{Transfer}
use Rattle.transfer.specs.Transfer.{transfer_model}
use Rattle.device.specs.Device.{Behaviour}
use Rattle.device.specs.EventQueue.{event_queue}
use Rattle.host.specs.Host.{HostBehaviour}
use Rattle.host.specs.ListHost.{ListHostModel, list_host}
use Rattle.master.specs.Master.{new_hosted_master}
use Rattle.port.specs.Port.{new_port}
use Rattle.law.specs.BusModel.{BusModel, new_bus}
use Rattle.support.specs.declared.pair.Clocks.{Clocks}
use Rattle.host.specs.ListHost.{new_list_host}
use Rattle.support.specs.Sent.{events_address, event_read}

-- the low and the high count of each master
abbrev pub counts : Clocks → (ℕ × ℕ) × (ℕ × ℕ)
counts c = ((c.first.low, c.first.high), (c.second.low, c.second.high))

abbrev pub all_counts : List ((ℕ × ℕ) × (ℕ × ℕ))
all_counts = ((1, 1), (1, 1)) ∷ ((1, 1), (2, 1)) ∷ ((3, 2), (1, 4)) ∷ ((255, 255), (1, 1)) ∷ []

abbrev pub reader : List HostBehaviour
reader = list_host ∷ []

abbrev pub two_queues : List Behaviour
two_queues = event_queue ∷ event_queue ∷ []

-- clock counts 1 and 1, and a byte in each queue, both at one address
abbrev pub queue_bus_of : ListHostModel → BusModel reader two_queues
queue_bus_of m =
    let first = new_port event_queue events_address (0x3C ∷ []) in
    let second = new_port event_queue events_address (0x5A ∷ []) in
    new_bus reader two_queues (new_hosted_master list_host 1 1 m, tt) (first, (second, tt))

abbrev pub IsQueues : BusModel reader two_queues → Type 0
IsQueues u =
    (t : Transfer) × (transfer_model t ≡ event_read) × (u ≡ queue_bus_of (new_list_host (t ∷ [])))
