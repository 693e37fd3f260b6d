-- What the program prints.
use Rattle.std.specs.Prelude.{◌≡◌, ℕ, zero, suc, Bool, true, false, if◌then◌else◌, List, [], ◌∷◌, ◌++◌, codes, decimal}
use Rattle.std.specs.Prelude.{map, Option, Some, None}
use Rattle.std.specs.List.{flat_map}
use Rattle.transfer.specs.declared.draft.Transfer.{Transfer}
use Rattle.transfer.specs.Transfer.{TransferModel, transfer_model, write_to, read_from, write_then_read}
use Rattle.transfer.specs.Outcome.{OutcomeModel, outcome_text}
use Rattle.device.specs.Device.{Behaviour}
use Rattle.device.specs.RegisterFile.{register_file}
use Rattle.host.specs.Host.{HostBehaviour}
use Rattle.host.specs.ListHost.{list_host}
use Rattle.law.specs.declared.tick.Tick.{Tick}
use Rattle.law.specs.BusModel.{BusModel, no_holds, tick_at}
use Rattle.law.specs.Limits.{most_ticks_of_turn}
use Rattle.law.specs.RunModel.{run_at}
use Rattle.listing.specs.Marks.{told_text}
use Rattle.support.specs.ArmAll.{all_armed}
use Rattle.host.specs.ListHost.{new_list_host}
use Rattle.support.specs.PairBus.{new_pair_bus}
use Rattle.support.specs.Sent.{registers_address, register}
use Rattle.support.specs.declared.pair.Clocks.{Clocks}
use Rattle.wire.specs.declared.event.Event.{Event}
use Rattle.wire.specs.declared.event.Event.TheVariants.{Rise, Fall, Start, Stop, SteadyHigh, SteadyLow}
use Rattle.examples.specs.Setup.{counts, all_counts, reader, two_queues, IsQueues}

abbrev pub two_hosts : List HostBehaviour
two_hosts = list_host ∷ list_host ∷ []

abbrev pub one_file : List Behaviour
one_file = register_file ∷ []

abbrev pub is_stop : Event → Bool
is_stop Stop = true
is_stop Start = false
is_stop Fall = false
is_stop (Rise b) = false
is_stop SteadyHigh = false
is_stop SteadyLow = false

-- the first stop within n ticks
unfoldable pub stop_within : ℕ → BusModel two_hosts one_file → Option Tick
stop_within zero u = None
stop_within (suc n) u = let t = tick_at two_hosts one_file u (no_holds one_file) in
    if is_stop t.0.event then Some t.0 else stop_within n t.1

-- the first stop once both masters are armed, within a turn
abbrev pub first_stop : BusModel two_hosts one_file → Option Tick
first_stop u = stop_within most_ticks_of_turn (all_armed two_hosts one_file 2 u)

-- the masters told at a stop
abbrev pub told_at : Option Tick → List ℕ
told_at None = []
told_at (Some t) = told_text t.marks

abbrev pub clocks_text : Clocks → List ℕ
clocks_text c =
    decimal c.first.low ++ (codes " " ++ (decimal c.first.high ++ (codes " and " ++
    (decimal c.second.low ++ (codes " " ++ decimal c.second.high)))))

-- two masters with a transfer each, and who is told at their first stop
abbrev pub example_line : List ℕ → Transfer → Transfer → Clocks → List ℕ
example_line name one other c =
    let first = new_list_host (one ∷ []) in
    let second = new_list_host (other ∷ []) in
    let u = new_pair_bus list_host registers_address c first second in
    name ++ (codes ", clocks " ++ (clocks_text c ++ (codes ": told" ++
    (told_at (first_stop u) ++ codes "\n"))))

-- the same at each choice of clocks
abbrev pub Example : List ℕ → TransferModel → TransferModel → List ℕ → Type 0
Example name a b text =
    (one : Transfer) × (other : Transfer) × (transfer_model one ≡ a) × (transfer_model other ≡ b) ×
    (clocks : List Clocks) × (map counts clocks ≡ all_counts) ×
    (text ≡ flat_map (example_line name one other) clocks)

-- the register alone, which sets the pointer of the register file
abbrev pub pointer_write : TransferModel
pointer_write = write_to registers_address (register ∷ [])

abbrev pub high_write : TransferModel
high_write = write_to registers_address (register ∷ 0x80 ∷ [])

abbrev pub zero_write : TransferModel
zero_write = write_to registers_address (register ∷ 0 ∷ [])

abbrev pub equal_write : TransferModel
equal_write = write_to registers_address (register ∷ 0x12 ∷ [])

abbrev pub register_read : TransferModel
register_read = write_then_read registers_address (register ∷ []) 1

abbrev pub read_of : ℕ → TransferModel
read_of n = read_from registers_address n

-- the text of all examples, one after the other
abbrev pub Examples : List ℕ → Type 0
Examples text =
    (a : List ℕ) × (b : List ℕ) × (c : List ℕ) × (d : List ℕ) × (e : List ℕ) × (f : List ℕ) ×
    Example (codes "stop over one") pointer_write high_write a ×
    Example (codes "zero over stop") zero_write pointer_write b ×
    Example (codes "stop over restart") pointer_write register_read c ×
    Example (codes "restart over one") register_read high_write d ×
    Example (codes "more over fewer") (read_of 3) (read_of 2) e ×
    Example (codes "equal writes") equal_write equal_write f ×
    (text ≡ a ++ (b ++ (c ++ (d ++ (e ++ f)))))

-- a bus of the two queues after a run of n ticks at most, once its master is armed
unfoldable pub queues_after_run : ℕ → BusModel reader two_queues → BusModel reader two_queues
queues_after_run n u =
    (run_at reader two_queues (all_armed reader two_queues 1 u) n (λ k. no_holds two_queues)).1

abbrev pub joined_line : Option OutcomeModel → List ℕ
joined_line None = []
joined_line (Some o) = codes "joined queues: " ++ (outcome_text o ++ codes "\n")

-- what the master was told last
abbrev pub Joined : List ℕ → Type 0
Joined text = (u : BusModel reader two_queues) × IsQueues u ×
    (text ≡ joined_line (queues_after_run most_ticks_of_turn u).masters.0.meaning.last)
