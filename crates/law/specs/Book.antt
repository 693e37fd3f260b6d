-- The turn book: who is armed, who contends, and what each host and device means, by turns alone.
use Rattle.std.specs.Prelude.{ℕ, Bool, true, false, if◌then◌else◌, List, [], ◌∷◌, map, Some, None, Err, Option, Result}
use Rattle.std.specs.Option.{option_map}
use Rattle.transfer.specs.declared.refusal.Refusal.TheVariants.{NoSuchMaster}
use Rattle.transfer.specs.Refusal.{number}
use Rattle.transfer.specs.declared.draft.Transfer.{Transfer}
use Rattle.transfer.specs.Transfer.{TransferModel, transfer_model}
use Rattle.transfer.specs.Outcome.{OutcomeModel}
use Rattle.device.specs.Device.{Behaviour}
use Rattle.host.specs.Host.{HostBehaviour}
use Rattle.master.specs.declared.arming.Arming.{Arming}
use Rattle.master.specs.declared.arming.Arming.TheVariants.{Unarmed}
use Rattle.wire.specs.declared.event.Event.{Event}
use Rattle.wire.specs.declared.event.Event.TheVariants.{Rise, Fall, Start, Stop, SteadyHigh, SteadyLow}
use Rattle.master.specs.Arming.{is_armed, answer_to_arm}
use Rattle.law.specs.Bank.{Bank, bank_map, bank_list, bank_update, any_true}
use Rattle.law.specs.TransferResult.{AddressedDevice, TransferResult, transfer_result}
use Rattle.law.specs.Letter.{same_string, first_or_same}

-- a master's line in the book
pub record Entry (h : HostBehaviour) : Type 0 where
  pub meaning : h.Meaning
  -- whether it is armed; what it then sends is what its host wants
  pub arming : Arming (Unit {0})
  -- a contender of the open turn
  pub contends : Bool

module _ (h : HostBehaviour) where
  abbrev pub entry_is_armed : Entry h → Bool
  entry_is_armed x = is_armed x.arming

  abbrev pub entry_arm : Entry h → Result (Unit {0}) ℕ × Entry h
  entry_arm x = let a = answer_to_arm x.arming (option_map (λ t. tt) (h.want x.meaning)) in
      (a.0, record x { arming = a.1 })

  -- a turn opens for the masters armed
  abbrev pub entry_contending : Entry h → Entry h
  entry_contending x = record x { contends = entry_is_armed x }

  abbrev pub wanted_if : Bool → Option Transfer → Option TransferModel
  wanted_if true want = option_map transfer_model want
  wanted_if false want = None

  -- what a contender wants sent
  abbrev pub contender_transfer : Entry h → Option TransferModel
  contender_transfer x = wanted_if x.contends (h.want x.meaning)

  -- who is told is disarmed; the turn is over for all
  abbrev pub entry_after_turn : Entry h → Option OutcomeModel → Entry h
  entry_after_turn x None = record x { contends = false }
  entry_after_turn x (Some o) = record {
    meaning = h.told x.meaning o;
    arming = Unarmed;
    contends = false;
  }

-- past the last master it is refused
abbrev pub arm_entry_at : (hs : List HostBehaviour) →
    Bank Entry hs → ℕ → Result (Unit {0}) ℕ × Bank Entry hs
arm_entry_at hs p n = bank_update (Err (number NoSuchMaster)) entry_arm hs p n

-- what each master is told, in their order
abbrev pub entries_after_turn : (hs : List HostBehaviour) →
    Bank Entry hs → List (Option OutcomeModel) → Bank Entry hs
entries_after_turn [] p ts = tt
entries_after_turn (h ∷ hs) p [] = (entry_after_turn h p.0 None, entries_after_turn hs p.1 [])
entries_after_turn (h ∷ hs) p (t ∷ ts) = (entry_after_turn h p.0 t, entries_after_turn hs p.1 ts)

module _ (ds : List Behaviour) where
  -- of two carried alone, the one whose string comes first
  abbrev pub first_of_two : TransferResult ds → Option (TransferResult ds) → TransferResult ds
  first_of_two c None = c
  first_of_two c (Some d) = if first_or_same c.letters d.letters then c else d

  -- the one with the least string
  abbrev pub least_result : List (Option (TransferResult ds)) → Option (TransferResult ds)
  least_result [] = None
  least_result (None ∷ cs) = least_result cs
  least_result (Some c ∷ cs) = Some (first_of_two c (least_result cs))

  -- all with the least string are told, one outcome each
  abbrev pub outcome_if_least : TransferResult ds → Option (TransferResult ds) → Option OutcomeModel
  outcome_if_least best None = None
  outcome_if_least best (Some c) =
      if same_string c.letters best.letters then Some c.outcome else None

  abbrev pub outcomes_of_turn : Option (TransferResult ds) → List (Option (TransferResult ds)) →
      List (Option OutcomeModel)
  outcomes_of_turn None cs = map (λ c. None) cs
  outcomes_of_turn (Some best) cs = map (outcome_if_least best) cs

  -- the devices take the steps of the least string once
  abbrev pub devices_after : Option (TransferResult ds) →
      Bank AddressedDevice ds → Bank AddressedDevice ds
  devices_after None d = d
  devices_after (Some best) d = best.devices

-- whether a turn is open
pub data Turn : Type 0 where
  closed opened : Turn

abbrev pub is_open : Turn → Bool
is_open closed = false
is_open opened = true

module _ (hs : List HostBehaviour) (ds : List Behaviour) where
  pub record Book : Type 0 where
    pub entries : Bank Entry hs
    pub devices : Bank AddressedDevice ds
    pub turn : Turn

  abbrev pub book_arm : Book → ℕ → Result (Unit {0}) ℕ × Book
  book_arm b n = let a = arm_entry_at hs b.entries n in (a.0, record b { entries = a.1 })

  -- each contender's want carried alone from the devices
  abbrev pub contender_results : Book → List (Option (TransferResult ds))
  contender_results b = bank_list
      (λ h x. option_map (λ t. transfer_result ds t b.devices) (contender_transfer h x))
      hs b.entries

  abbrev pub nobody_told : Book → List (Option OutcomeModel)
  nobody_told b = bank_list (λ h x. None) hs b.entries

  -- a turn opens for the masters armed, if any
  abbrev pub book_after_opening : Book → Turn → Book
  book_after_opening b opened = b
  book_after_opening b closed =
      if any_true (bank_list entry_is_armed hs b.entries)
      then record b { entries = bank_map entry_contending hs b.entries; turn = opened }
      else b

  abbrev pub told_at_stop : Book → Turn → List (Option OutcomeModel)
  told_at_stop b opened =
      outcomes_of_turn ds (least_result ds (contender_results b)) (contender_results b)
  told_at_stop b closed = nobody_told b

  abbrev pub book_after_stop : Book → Turn → Book
  book_after_stop b opened = record {
    entries = entries_after_turn hs b.entries (told_at_stop b opened);
    devices = devices_after ds (least_result ds (contender_results b)) b.devices;
    turn = closed;
  }
  book_after_stop b closed = b

  -- whom a tick with this event tells, and what
  abbrev pub book_told : Book → Event → List (Option OutcomeModel)
  book_told b Stop = told_at_stop b b.turn
  book_told b (Rise x) = nobody_told b
  book_told b Fall = nobody_told b
  book_told b Start = nobody_told b
  book_told b SteadyHigh = nobody_told b
  book_told b SteadyLow = nobody_told b

  -- the book after a tick with this event
  abbrev pub book_after : Book → Event → Book
  book_after b SteadyHigh = book_after_opening b b.turn
  book_after b Stop = book_after_stop b b.turn
  book_after b (Rise x) = b
  book_after b Fall = b
  book_after b Start = b
  book_after b SteadyLow = b
