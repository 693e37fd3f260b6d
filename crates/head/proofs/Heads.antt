-- The head put together from its parts.
use Rattle.std.proofs.Common.{◌≡◌, ℕ, List}
use Rattle.device.specs.Busy.{BusyModel, new_busy, busy_over}
use Rattle.device.specs.EventQueue.{event_queue}
use Rattle.device.specs.RegisterFile.{RegisterFileModel, register_file, new_registers}
use Rattle.device.specs.Slow.{SlowModel, slow_over}
use Rattle.host.specs.Host.{HostBehaviour}
use Rattle.host.specs.ListHost.{ListHostModel, list_host}
use Rattle.host.specs.PollHost.{PollHostModel, poll_host}
use Rattle.law.specs.BusModel.{BusModel, new_bus}
use Rattle.master.specs.Master.{HostedMaster, new_hosted_master}
use Rattle.port.specs.Port.{PortModel, new_port}
use Rattle.head.specs.Setup.{idle_registers, slow_queue, quick_queue, head_hosts, head_devices, head_of}

-- a master whose clock counts and host are known
pub serves : (h : HostBehaviour) (x : HostedMaster h) (counts known : ℕ × ℕ) (m n : h.Meaning) →
    x ≡ new_hosted_master h counts.0 counts.1 m → counts ≡ known → m ≡ n → x ≡ new_hosted_master h known.0 known.1 n
serves h x counts known m n e at is = cc

-- the register file's layer, by the file below it
pub idle_is : (m : BusyModel register_file) (f : RegisterFileModel) → m ≡ new_busy register_file 1 f → f ≡ new_registers →
    m ≡ idle_registers
idle_is m f e is_new = cc

pub head_is : (u : BusModel head_hosts head_devices) (x : HostedMaster list_host) (y : HostedMaster poll_host) (z : HostedMaster list_host)
    (p : PortModel (busy_over register_file)) (q : PortModel (slow_over event_queue)) (r : PortModel event_queue) (registers events : ℕ)
    (file : BusyModel register_file) (slow : SlowModel event_queue) (quick : List ℕ) (a : ListHostModel) (b : PollHostModel)
    (c : ListHostModel) →
    u ≡ new_bus head_hosts head_devices (x, (y, (z, tt))) (p, (q, (r, tt))) →
    x ≡ new_hosted_master list_host 2 2 a → y ≡ new_hosted_master poll_host 1 3 b → z ≡ new_hosted_master list_host 3 1 c →
    p ≡ new_port (busy_over register_file) registers file → q ≡ new_port (slow_over event_queue) events slow →
    r ≡ new_port event_queue events quick →
    registers ≡ 80 → events ≡ 81 → file ≡ idle_registers → slow ≡ slow_queue → quick ≡ quick_queue →
    u ≡ head_of a b c
head_is u x y z p q r registers events file slow quick a b c e first second third port slow_port quick_port at_80 at_81 idle slow_is
    quick_is = cc
