-- What the parts of the head are made of, before a master is armed.
use Rattle.std.specs.Prelude.{◌≡◌, ℕ, false, List, [], ◌∷◌, None}
use Rattle.transfer.specs.declared.draft.Transfer.{Transfer}
use Rattle.transfer.specs.Transfer.{TransferModel, transfer_model, write_to, write_then_read}
use Rattle.device.specs.Device.{Behaviour}
use Rattle.device.specs.Busy.{BusyModel, new_busy, busy_over}
use Rattle.device.specs.EventQueue.{event_queue}
use Rattle.device.specs.RegisterFile.{register_file, new_registers}
use Rattle.device.specs.Slow.{SlowModel, slow_over}
use Rattle.host.specs.Host.{HostBehaviour}
use Rattle.host.specs.ListHost.{ListHostModel, list_host}
use Rattle.host.specs.PollHost.{PollHostModel, poll_host}
use Rattle.law.specs.BusModel.{BusModel, new_bus}
use Rattle.master.specs.Master.{HostedMaster, new_hosted_master}
use Rattle.port.specs.Port.{new_port}
use Rattle.host.specs.ListHost.{new_list_host}
use Rattle.support.specs.Sent.{registers_address, events_address, register, event_read, register_write}

-- no port has this address
abbrev pub nobodys_address : ℕ
nobodys_address = 0x22

-- the logger writes two registers, and then reads them back
abbrev pub log_write : TransferModel
log_write = write_to registers_address (register ∷ 0x7F ∷ 0x80 ∷ [])

abbrev pub log_read : TransferModel
log_read = write_then_read registers_address (register ∷ []) 2

abbrev pub service_write : TransferModel
service_write = register_write registers_address 0x7F

-- an empty write, to see whether somebody answers
abbrev pub probe_write : TransferModel
probe_write = write_to nobodys_address []

-- two transfers, one after the other
abbrev pub Lists : TransferModel → TransferModel → ListHostModel → Type 0
Lists a b m =
    (t : Transfer) × (u : Transfer) × (transfer_model t ≡ a) × (transfer_model u ≡ b) ×
    (m ≡ new_list_host (t ∷ u ∷ []))

-- the highest bit of an event
abbrev pub alarm_mask : ℕ
alarm_mask = 0x80

-- one transfer, until the highest bit of the last byte read is set
abbrev pub Polls : TransferModel → PollHostModel → Type 0
Polls a m =
    (t : Transfer) × (transfer_model t ≡ a) ×
    (m ≡ record { transfer = t; mask = alarm_mask; met = false; last = None })

-- a new master at this clock, with a host that wants so
abbrev pub ListsAt : ℕ → ℕ → TransferModel → TransferModel → HostedMaster list_host → Type 0
ListsAt low high a b x =
    (m : ListHostModel) × Lists a b m × (x ≡ new_hosted_master list_host low high m)

abbrev pub PollsAt : ℕ → ℕ → TransferModel → HostedMaster poll_host → Type 0
PollsAt low high a x =
    (m : PollHostModel) × Polls a m × (x ≡ new_hosted_master poll_host low high m)

-- not busy yet, and busy for one select after a write
abbrev pub idle_registers : BusyModel register_file
idle_registers = new_busy register_file 1 new_registers

-- it holds the clock for 5 ticks
abbrev pub slow_queue : SlowModel event_queue
slow_queue = record { number = 5; below = 0x91 ∷ 0x85 ∷ [] }

abbrev pub quick_queue : List ℕ
quick_queue = 0x31 ∷ []

abbrev pub head_hosts : List HostBehaviour
head_hosts = list_host ∷ poll_host ∷ list_host ∷ []

abbrev pub head_devices : List Behaviour
head_devices = busy_over register_file ∷ slow_over event_queue ∷ event_queue ∷ []

-- the two queues have one address
abbrev pub head_of : ListHostModel → PollHostModel → ListHostModel →
    BusModel head_hosts head_devices
head_of a b c =
    let logger = new_hosted_master list_host 2 2 a in
    let alarm_unit = new_hosted_master poll_host 1 3 b in
    let service_port = new_hosted_master list_host 3 1 c in
    let registers = new_port (busy_over register_file) registers_address idle_registers in
    let slow = new_port (slow_over event_queue) events_address slow_queue in
    let quick = new_port event_queue events_address quick_queue in
    new_bus head_hosts head_devices
    (logger, (alarm_unit, (service_port, tt))) (registers, (slow, (quick, tt)))

-- each master at its clock, each host with what it wants, each device as it is made
abbrev pub IsHead : BusModel head_hosts head_devices → Type 0
IsHead u =
    (a : ListHostModel) × (b : PollHostModel) × (c : ListHostModel) ×
    Lists log_write log_read a × Polls event_read b × Lists service_write probe_write c ×
    (u ≡ head_of a b c)
