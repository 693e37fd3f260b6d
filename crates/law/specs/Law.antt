-- The law over every use of a bus, in the words of turns, strings and the turn book.
use Rattle.std.specs.Prelude.{◌≡◌, ℕ, suc, ◌+◌, ◌<◌, ◌≤◌, Bool, true, false, not, ◌↔◌, List, map, replicate, length}
use Rattle.std.specs.Prelude.{is_some, Some, None, Ok, slice_index_or}
use Rattle.std.specs.List.{count_by}
use Rattle.device.specs.Device.{Behaviour}
use Rattle.host.specs.Host.{HostBehaviour}
use Rattle.master.specs.declared.mark.Mark.TheVariants.{Quiet, Lost}
use Rattle.wire.specs.declared.event.Event.TheVariants.{Stop}
use Rattle.master.specs.Master.{HostedMaster, hosted_pulls}
use Rattle.port.specs.Port.{PortModel}
use Rattle.wire.specs.Pulls.{no_pulls}
use Rattle.law.specs.Bank.{Bank, bank_map, bank_list, any_true}
use Rattle.law.specs.Book.{entry_is_armed, opened, book_arm, book_told, contender_results, least_result}
use Rattle.law.specs.BusModel.{HoldAnswers, marks_over, arm_at, levels_at, tick_at, told_at}
use Rattle.law.specs.Letter.{Letter, zero as low, rank, first_or_same}
use Rattle.law.specs.Limits.{most_masters, most_ticks, most_ticks_of_turn}
use Rattle.law.specs.RunModel.{RunModel, run_at}
use Rattle.master.specs.Mark.{is_told}
use Rattle.law.specs.TransferResult.{TransferResult}
use Rattle.law.specs.Use.{Call, runs, Use, event_at, marks_of, monitor_with_event, use_after_call, use_after}
use Rattle.law.specs.Use.{addressed_device, new_use, armed_now, ticks_of_call, ticks_of, in_ticks}

abbrev pub true_count : List Bool → ℕ
true_count vs = count_by (λ v. v) vs

-- index c is the first at which u differs from t, and there t comes first
pub record FirstDifference (t u : List Letter) (c : ℕ) : Type 0 where
  pub in_t : c < length t
  pub in_u : c < length u
  pub same : (k : ℕ) → k < c → slice_index_or t k low ≡ slice_index_or u k low
  pub less : rank (slice_index_or t c low) < rank (slice_index_or u c low)

module _ (hs : List HostBehaviour) (ds : List Behaviour) where
  -- what holds at every point
  pub record Point (x : Use hs ds) : Type 0 where
    -- hosts stand as in the book at every point, devices whenever the bus is free
    pub hosts :
        bank_map (λ h y. y.meaning) hs x.bus.masters ≡ bank_map (λ h y. y.meaning) hs x.book.entries
    pub devices : x.bus.wire.busy ≡ false →
        bank_map addressed_device ds x.bus.ports ≡ x.book.devices
    pub armed : armed_now hs ds x ≡ bank_list entry_is_armed hs x.book.entries
    -- accepted arms are outcomes told and masters armed
    pub counts : x.accepted ≡ x.told + true_count (armed_now hs ds x)
    -- who was marked lost in the open turn pulls neither line
    pub silent : x.book.turn ≡ opened →
        (i : ℕ) → slice_index_or x.monitor.marked i false ≡ true →
        slice_index_or (bank_list hosted_pulls hs x.bus.masters) i no_pulls ≡ no_pulls

  -- what a mark of a loss in the next tick says of master i
  pub record Loses (x : Use hs ds) (i : ℕ) : Type 0 where
    pub turn : x.book.turn ≡ opened
    pub own : TransferResult ds
    pub contends : slice_index_or (contender_results hs ds x.book) i None ≡ Some own
    pub before : slice_index_or x.monitor.marked i false ≡ false
    pub best : TransferResult ds
    pub leads : least_result ds (contender_results hs ds x.book) ≡ Some best
    -- its string first differs from the least in the symbol that is shown, which has risen
    pub letter : ℕ
    pub shown : (monitor_with_event hs ds x.monitor x.book (event_at hs ds x.bus)).falls ≡ suc letter
    pub risen : (monitor_with_event hs ds x.monitor x.book (event_at hs ds x.bus)).risen ≡ true
    pub first : FirstDifference best.letters own.letters letter

  -- what the stop in the next tick says of a contender i: told are those never marked lost, and
  -- those whose string comes first
  pub record StopTells (x : Use hs ds) (i : ℕ) (own : TransferResult ds) : Type 0 where
    pub unmarked : is_some (slice_index_or (told_at hs ds x.bus) i None) ≡
        not (slice_index_or x.monitor.marked i false)
    pub first : (is_some (slice_index_or (told_at hs ds x.bus) i None) ≡ true) ↔
        ((j : ℕ) (other : TransferResult ds) →
        slice_index_or (contender_results hs ds x.book) j None ≡ Some other →
        first_or_same own.letters other.letters ≡ true)

  -- what holds of the next tick
  pub record TickLaw (x : Use hs ds) : Type 0 where
    pub tells : told_at hs ds x.bus ≡ book_told hs ds x.book (event_at hs ds x.bus)
    -- it shows the levels, the event and the marks of which this law speaks; a number without a
    -- master has the mark Quiet
    pub shows : (a : HoldAnswers ds) → (tick_at hs ds x.bus a).0 ≡ record {
      levels = levels_at hs ds x.bus;
      event = event_at hs ds x.bus;
      marks = marks_over (marks_of hs ds x.bus) (replicate most_masters Quiet);
    }
    -- a mark tells of an outcome exactly where one is told
    pub marks : map is_told (marks_of hs ds x.bus) ≡ map is_some (told_at hs ds x.bus)
    pub loses : (i : ℕ) → slice_index_or (marks_of hs ds x.bus) i Quiet ≡ Lost → Loses x i
    pub stops : event_at hs ds x.bus ≡ Stop → x.book.turn ≡ opened →
        (i : ℕ) (own : TransferResult ds) →
        slice_index_or (contender_results hs ds x.book) i None ≡ Some own → StopTells x i own
    -- what was spelled is the least string
    pub spells : event_at hs ds x.bus ≡ Stop → x.book.turn ≡ opened →
        (best : TransferResult ds) → least_result ds (contender_results hs ds x.book) ≡ Some best →
        (monitor_with_event hs ds x.monitor x.book (event_at hs ds x.bus)).spelled ≡ best.letters

  pub record Law (x : Use hs ds) : Type 0 where
    pub point : Point x
    pub tick : TickLaw x
    -- an arm answers as the book's
    pub arm : (n : ℕ) → (arm_at hs ds x.bus n).0 ≡ (book_arm hs ds x.book n).0
    -- a run counts the outcomes told in it
    pub run : (n : ℕ) (a : ℕ → HoldAnswers ds) → n ≤ most_ticks →
        (r : RunModel) → (run_at hs ds x.bus n a).0 ≡ Ok r →
        ((use_after_call hs ds x (runs n a)).told ≡ x.told + r.outcomes) ×
        (ticks_of_call hs ds x (runs n a) ≡ r.ticks)
    -- and leaves the bus of this use, also where it is refused
    pub run_leaves : (n : ℕ) (a : ℕ → HoldAnswers ds) →
        (run_at hs ds x.bus n a).1 ≡ (use_after_call hs ds x (runs n a)).bus
    -- calls may be made tick by tick, with the same use after as many ticks, so that the law holds
    -- within a run too
    pub runs_are_ticks : (cs : List (Call hs ds)) →
        (use_after hs ds x cs ≡ use_after hs ds x (in_ticks hs ds x cs)) ×
        (ticks_of hs ds x cs ≡ ticks_of hs ds x (in_ticks hs ds x cs))
    -- from a point with a master armed so many ticks tell an outcome, whatever calls they come from
    pub lively : any_true (armed_now hs ds x) ≡ true →
        (cs : List (Call hs ds)) → most_ticks_of_turn ≤ ticks_of hs ds x cs →
        x.told < (use_after hs ds x cs).told

  -- the law at every point of every use of a bus from its making
  abbrev pub EveryUse : Bank HostedMaster hs → Bank PortModel ds → Type 0
  EveryUse ms ps = (cs : List (Call hs ds)) → Law (use_after hs ds (new_use hs ds ms ps) cs)
