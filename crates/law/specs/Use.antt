-- A bus in use: its calls, and beside it the turn book, the monitor and what the ports asked.
use Rattle.std.specs.Prelude.{ℕ, zero, suc, ◌+◌, Bool, false, if◌then◌else◌, List, [], ◌∷◌, ◌++◌, is_ok, Result, nat_lt}
use Rattle.std.specs.List.{fold}
use Rattle.device.specs.Device.{Behaviour, Step}
use Rattle.host.specs.Host.{HostBehaviour}
use Rattle.master.specs.declared.arming.Arming.TheVariants.{Unarmed}
use Rattle.master.specs.declared.mark.Mark.{Mark}
use Rattle.master.specs.Master.{HostedMaster, hosted_is_armed, hosted_mark}
use Rattle.port.specs.Port.{PortModel, steps_asked}
use Rattle.wire.specs.declared.event.Event.{Event}
use Rattle.wire.specs.Event.{event_between}
use Rattle.wire.specs.Wire.{signal}
use Rattle.law.specs.Bank.{Bank, bank_map, bank_list}
use Rattle.law.specs.Book.{Entry, closed, is_open, Book, book_arm, book_after}
use Rattle.law.specs.BusModel.{BusModel, HoldAnswers, new_bus, arm_at, levels_at, tick_at, told_at, is_at_rest}
use Rattle.law.specs.Limits.{most_ticks}
use Rattle.law.specs.Monitor.{Monitor, new_monitor, monitor_after_event, monitor_after_marks}
use Rattle.law.specs.RunModel.{some_count}
use Rattle.law.specs.TransferResult.{AddressedDevice}

-- each list with what is new behind it
abbrev pub lists_appended : List (List Step) → List (List Step) → List (List Step)
lists_appended [] ys = []
lists_appended (x ∷ xs) [] = x ∷ xs
lists_appended (x ∷ xs) (y ∷ ys) = (x ++ y) ∷ lists_appended xs ys

-- as the book begins
abbrev pub new_entry : (h : HostBehaviour) → HostedMaster h → Entry h
new_entry h x = record { meaning = x.meaning; arming = Unarmed; contends = false }

abbrev pub addressed_device : (b : Behaviour) → PortModel b → AddressedDevice b
addressed_device b p = record { address = p.address; meaning = p.meaning }

module _ (hs : List HostBehaviour) (ds : List Behaviour) where
  pub data Call : Type 0 where
    arms : ℕ → Call
    -- with the answers to hold in it
    ticks : HoldAnswers ds → Call
    -- with the answers in each of its ticks
    runs : ℕ → (ℕ → HoldAnswers ds) → Call

  pub record Use : Type 0 where
    pub bus : BusModel hs ds
    pub book : Book hs ds
    pub monitor : Monitor
    -- the steps that each port asked of its device in the open turn
    pub asked : List (List Step)
    -- how many arms were accepted, and how many outcomes told
    pub accepted : ℕ
    pub told : ℕ

  -- what the next tick shows
  abbrev pub event_at : BusModel hs ds → Event
  event_at u = event_between u.wire.last (levels_at hs ds u)

  abbrev pub marks_of : BusModel hs ds → List Mark
  marks_of u = bank_list (λ h. hosted_mark h (signal u.wire (levels_at hs ds u))) hs u.masters

  -- what each port asks of its device in the next tick
  abbrev pub steps_at : BusModel hs ds → List (List Step)
  steps_at u = bank_list (λ b p. steps_asked b p (signal u.wire (levels_at hs ds u))) ds u.ports

  abbrev pub no_steps : BusModel hs ds → List (List Step)
  no_steps u = bank_list (λ b p. []) ds u.ports

  -- a turn that opens is monitored from its first tick on
  abbrev pub monitor_with_event : Monitor → Book hs ds → Event → Monitor
  monitor_with_event w b e =
      if is_open b.turn then monitor_after_event w e
      else if is_open (book_after hs ds b e).turn
      then new_monitor (bank_list (λ h x. false) hs b.entries)
      else monitor_after_event w e

  -- what was asked in a turn, once the next tick is made; it begins anew where no turn is open
  abbrev pub steps_then : Use → List (List Step)
  steps_then x = lists_appended
      (if is_open x.book.turn then x.asked else no_steps x.bus)
      (steps_at x.bus)

  abbrev pub use_after_arm : Use → Result (Unit {0}) ℕ × BusModel hs ds → ℕ → Use
  use_after_arm x a n = record x {
    bus = a.1;
    book = (book_arm hs ds x.book n).1;
    accepted = x.accepted + (if is_ok a.0 then 1 else 0);
  }

  abbrev pub use_after_tick : Use → HoldAnswers ds → Use
  use_after_tick x a = record x {
    bus = (tick_at hs ds x.bus a).1;
    book = book_after hs ds x.book (event_at x.bus);
    monitor = monitor_after_marks (monitor_with_event x.monitor x.book (event_at x.bus)) (marks_of x.bus);
    asked = steps_then x;
    told = x.told + some_count (told_at hs ds x.bus);
  }

  -- at most n ticks of a run, the first of them its tick k
  abbrev pub use_after_ticks : ℕ → ℕ → (ℕ → HoldAnswers ds) → Use → Use
  use_after_ticks zero k a x = x
  use_after_ticks (suc n) k a x =
      if is_at_rest hs ds x.bus then x else use_after_ticks n (suc k) a (use_after_tick x (a k))

  abbrev pub use_after_call : Use → Call → Use
  use_after_call x (arms n) = use_after_arm x (arm_at hs ds x.bus n) n
  use_after_call x (ticks a) = use_after_tick x a
  use_after_call x (runs n a) = if nat_lt most_ticks n then x else use_after_ticks n 0 a x

  abbrev pub use_after : Use → List Call → Use
  use_after x cs = fold use_after_call x cs

  -- the making of a bus: the book begins with the meanings of the parts
  abbrev pub new_use : Bank HostedMaster hs → Bank PortModel ds → Use
  new_use ms ps = record {
    bus = new_bus hs ds ms ps;
    book = record {
      entries = bank_map new_entry hs ms;
      devices = bank_map addressed_device ds ps;
      turn = closed;
    };
    monitor = new_monitor [];
    asked = bank_list (λ b p. []) ds ps;
    accepted = 0;
    told = 0;
  }

  abbrev pub armed_now : Use → List Bool
  armed_now x = bank_list hosted_is_armed hs x.bus.masters

  -- how many ticks are made
  abbrev pub ticks_of_run : ℕ → ℕ → (ℕ → HoldAnswers ds) → Use → ℕ
  ticks_of_run zero k a x = 0
  ticks_of_run (suc n) k a x =
      if is_at_rest hs ds x.bus then 0 else suc (ticks_of_run n (suc k) a (use_after_tick x (a k)))

  abbrev pub ticks_of_call : Use → Call → ℕ
  ticks_of_call x (arms n) = 0
  ticks_of_call x (ticks a) = 1
  ticks_of_call x (runs n a) = if nat_lt most_ticks n then 0 else ticks_of_run n 0 a x

  abbrev pub ticks_of : Use → List Call → ℕ
  ticks_of x [] = 0
  ticks_of x (c ∷ cs) = ticks_of_call x c + ticks_of (use_after_call x c) cs

  -- so many ticks, one by one
  abbrev pub one_by_one : ℕ → ℕ → (ℕ → HoldAnswers ds) → List Call
  one_by_one zero k a = []
  one_by_one (suc n) k a = ticks (a k) ∷ one_by_one n (suc k) a

  -- the same calls, with the ticks of each run in its place
  abbrev pub call_in_ticks : Use → Call → List Call
  call_in_ticks x (arms n) = arms n ∷ []
  call_in_ticks x (ticks a) = ticks a ∷ []
  call_in_ticks x (runs n a) = one_by_one (ticks_of_call x (runs n a)) 0 a

  abbrev pub in_ticks : Use → List Call → List Call
  in_ticks x [] = []
  in_ticks x (c ∷ cs) = call_in_ticks x c ++ in_ticks (use_after_call x c) cs
