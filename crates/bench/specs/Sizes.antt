-- The buses that are measured: their sizes, and their parts before a master is armed.
use Rattle.std.specs.Prelude.{◌≡◌, ℕ, zero, suc, Bool, true, false, ◌||◌, List, replicate, None, Some, Option, ◌==◌}
use Rattle.device.specs.Device.{Behaviour}
use Rattle.device.specs.RegisterFile.{register_file, new_registers}
use Rattle.host.specs.Host.{HostBehaviour}
use Rattle.host.specs.PollHost.{poll_host}
use Rattle.law.specs.Bank.{Bank}
use Rattle.law.specs.BusModel.{BusModel, new_bus}
use Rattle.master.specs.Master.{HostedMaster}
use Rattle.port.specs.Port.{PortModel, new_port}
use Rattle.support.specs.Sent.{registers_address}
use Rattle.bench.specs.Counting.{Works}
use Rattle.bench.specs.Writer.{WritesForEver}

abbrev pub is_masters : ℕ → Bool
is_masters n = n == 1 || n == 2 || n == 4 || n == 8

abbrev pub is_ports : ℕ → Bool
is_ports n = n == 1 || n == 4 || n == 16

-- so many masters, each with a poll host, and so many register files
abbrev pub hosts : ℕ → List HostBehaviour
hosts n = replicate n poll_host

abbrev pub devices : ℕ → List Behaviour
devices n = replicate n register_file

-- masters that write to the first register file
abbrev pub WritesQuick : HostedMaster poll_host → Type 0
WritesQuick x = WritesForEver 1 1 registers_address 0x12 x

abbrev pub WritesSlow : HostedMaster poll_host → Type 0
WritesSlow x = WritesForEver 2 1 registers_address 0x10 x

-- by turns a quick and a slow one
abbrev pub AtOdds : Bool → (n : ℕ) → Bank HostedMaster (hosts n) → Type 0
AtOdds quick zero b = Unit {0}
AtOdds true (suc n) b = WritesQuick b.0 × AtOdds false n b.1
AtOdds false (suc n) b = WritesSlow b.0 × AtOdds true n b.1

abbrev pub file_at : ℕ → PortModel register_file
file_at address = new_port register_file address new_registers

-- register files at this address and those after it
abbrev pub files : ℕ → (n : ℕ) → Bank PortModel (devices n)
files address zero = tt
files address (suc n) = (file_at address, files (suc address) n)

-- the outcomes that so many ticks told, with these masters and so many register files; none where there is no bus of this
-- size
abbrev pub MeasuredWith : (hs : List HostBehaviour) → Bank HostedMaster hs → ℕ → ℕ → ℕ →
    Option ℕ → Type 0
MeasuredWith hs b masters ports ticks r =
    (is_ports ports ≡ false → r ≡ None) ×
    (is_ports ports ≡ true → (v : BusModel hs (devices ports)) × (count : ℕ) ×
    Works hs (devices ports) masters ticks
    (new_bus hs (devices ports) b (files registers_address ports)) count v ×
    (r ≡ Some count))

-- the same with so many masters at odds
abbrev pub Measured : ℕ → ℕ → ℕ → Option ℕ → Type 0
Measured masters ports ticks r =
    (is_masters masters ≡ false → r ≡ None) ×
    (is_masters masters ≡ true → (b : Bank HostedMaster (hosts masters)) ×
    AtOdds true masters b × MeasuredWith (hosts masters) b masters ports ticks r)
