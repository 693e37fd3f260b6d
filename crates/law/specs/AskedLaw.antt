-- What ports asked of their devices in a turn, and what that has to do with strings and outcomes.
use Rattle.std.specs.Prelude.{◌≡◌, ℕ, zero, suc, ◌+◌, ◌*◌, ◌<◌, ◌≤◌, true, false, if◌then◌else◌, ◌&&◌, ◌⊎◌, ◌≢◌, List}
use Rattle.std.specs.Prelude.{[], ◌∷◌, ◌++◌, map, length, take as first, is_some, Some, None, Option, nat_lt, slice_get}
use Rattle.std.specs.Prelude.{slice_index, slice_index_or}
use Rattle.std.specs.Option.{option_to_list}
use Rattle.transfer.specs.declared.leg.Direction.TheVariants.{Write, Read}
use Rattle.transfer.specs.declared.outcome.OutcomeKind.TheVariants.{Done}
use Rattle.transfer.specs.Transfer.{TransferModel}
use Rattle.transfer.specs.Leg.{BodyModel, writes, reads, LegModel, body_size}
use Rattle.transfer.specs.Outcome.{OutcomeModel}
use Rattle.device.specs.Device.{Behaviour, Step, select, put, take, finish}
use Rattle.host.specs.Host.{HostBehaviour}
use Rattle.wire.specs.declared.event.Event.TheVariants.{Fall, Stop}
use Rattle.transfer.specs.Address.{answers_to}
use Rattle.port.specs.Port.{PortModel}
use Rattle.master.specs.Master.{HostedMaster}
use Rattle.law.specs.Bank.{Bank, bank_list}
use Rattle.law.specs.Book.{contender_transfer, closed, opened}
use Rattle.law.specs.BusModel.{told_at}
use Rattle.law.specs.TransferResult.{AddressedDevice, joint_byte, transfer_result}
use Rattle.transfer.specs.Leg.{read_leg}
use Rattle.law.specs.Limits.{bits_of_byte, letters_of_byte}
use Rattle.law.specs.Letter.{Letter}
use Rattle.law.specs.Use.{Call, Use, event_at, monitor_with_event, steps_at, no_steps, steps_then, new_use, use_after}

-- a device's meaning, and the steps that were asked of it
pub record StepsNoted (b : Behaviour) : Type 0 where
  pub meaning : b.Meaning
  pub steps : List Step

module _ (b : Behaviour) where
  abbrev pub with_step : StepsNoted b → Step → b.Meaning → StepsNoted b
  with_step m s n = record { meaning = n; steps = m.steps ++ (s ∷ []) }

  -- the same device, which also notes each step with its answer
  abbrev pub noting_steps : Behaviour
  noting_steps = record {
    Meaning = StepsNoted b;
    select = λ m d. let a = b.select m.meaning d in (a.0, with_step m (select d a.0) a.1);
    put = λ m x. let a = b.put m.meaning x in (a.0, with_step m (put x a.0) a.1);
    take = λ m. let a = b.take m.meaning in (a.0, with_step m (take a.0) a.1);
    finish = λ m. with_step m finish (b.finish m.meaning);
    holds = λ m h. b.holds m.meaning h;
  }

  -- with nothing noted yet
  abbrev pub nothing_noted : AddressedDevice b → AddressedDevice noting_steps
  nothing_noted d = record {
    address = d.address;
    meaning = record { meaning = d.meaning; steps = [] };
  }

abbrev pub all_noting_steps : List Behaviour → List Behaviour
all_noting_steps ds = map noting_steps ds

abbrev pub all_nothing_noted : (ds : List Behaviour) →
    Bank AddressedDevice ds → Bank AddressedDevice (all_noting_steps ds)
all_nothing_noted [] d = tt
all_nothing_noted (b ∷ ds) d = (nothing_noted b d.0, all_nothing_noted ds d.1)

abbrev pub all_steps : (ds : List Behaviour) →
    Bank AddressedDevice (all_noting_steps ds) → List (List Step)
all_steps [] d = []
all_steps (b ∷ ds) d = d.0.meaning.steps ∷ all_steps ds d.1

-- the steps that are asked of each device where a transfer is carried alone
abbrev pub steps_alone : (ds : List Behaviour) →
    TransferModel → Bank AddressedDevice ds → List (List Step)
steps_alone ds t d =
    all_steps ds (transfer_result (all_noting_steps ds) t (all_nothing_noted ds d)).devices

-- leg number k of a transfer
abbrev pub leg_of : TransferModel → ℕ → Option LegModel
leg_of t zero = Some t.first
leg_of t (suc zero) = t.second
leg_of t (suc (suc k)) = None

-- where in the string of a transfer the acknowledge stands that follows the call of leg k and m
-- bytes written in it
abbrev pub acknowledge_at : TransferModel → ℕ → ℕ → ℕ
acknowledge_at t zero m = letters_of_byte * m + bits_of_byte
acknowledge_at t (suc k) m =
    letters_of_byte * suc (body_size t.first.body) + suc (letters_of_byte * m + bits_of_byte)

abbrev pub EndsWith : List Step → List Step → Type 0
EndsWith ss end = (front : List Step) × (ss ≡ front ++ end)

-- these are the steps of a device that said yes to the call of a leg and to each of the first m
-- bytes written in it; called for a read, it gives a first byte in the tick in which the A for the
-- call is heard
abbrev pub Acknowledged : BodyModel → ℕ → List Step → Type 0
Acknowledged (writes xs) m ss = EndsWith ss (select Write true ∷ map (λ x. put x true) (first m xs))
Acknowledged (reads n) m ss = (x : ℕ) × EndsWith ss (select Read true ∷ take x ∷ [])

-- of some port with this address the steps are such
abbrev pub AtSomePort : List ℕ → List (List Step) → ℕ → (List Step → Type 0) → Type 0
AtSomePort [] rs a Such = ⊥
AtSomePort (o ∷ os) [] a Such = ⊥
AtSomePort (o ∷ os) (r ∷ rs) a Such = ((answers_to o a ≡ true) × Such r) ⊎ AtSomePort os rs a Such

-- the steps up to the next select
abbrev pub before_select : List Step → List Step
before_select [] = []
before_select (select r v ∷ ss) = []
before_select (put x v ∷ ss) = put x v ∷ before_select ss
before_select (take x ∷ ss) = take x ∷ before_select ss
before_select (finish ∷ ss) = finish ∷ before_select ss

-- what follows each select
abbrev pub steps_of_calls : List Step → List (List Step)
steps_of_calls [] = []
steps_of_calls (select r v ∷ ss) = before_select ss ∷ steps_of_calls ss
steps_of_calls (put x v ∷ ss) = steps_of_calls ss
steps_of_calls (take x ∷ ss) = steps_of_calls ss
steps_of_calls (finish ∷ ss) = steps_of_calls ss

-- the bytes handed over in these steps
abbrev pub bytes_handed : List Step → List ℕ
bytes_handed [] = []
bytes_handed (select r v ∷ ss) = bytes_handed ss
bytes_handed (put x v ∷ ss) = bytes_handed ss
bytes_handed (take x ∷ ss) = x ∷ bytes_handed ss
bytes_handed (finish ∷ ss) = bytes_handed ss

-- how often a port with address o is called before leg k
abbrev pub called_before : TransferModel → ℕ → ℕ → ℕ
called_before t k o = if nat_lt 0 k && answers_to o t.first.address then 1 else 0

-- the bytes that each port's device handed over in a leg at address a, if a port with address o was
-- called (n o) times before that leg; none of a port that does not answer to a
abbrev pub handed_over : ℕ → (ℕ → ℕ) → List ℕ → List (List Step) → List (List ℕ)
handed_over a n [] rs = []
handed_over a n (o ∷ os) [] = []
handed_over a n (o ∷ os) (r ∷ rs) =
    (if answers_to o a then bytes_handed (slice_index_or (steps_of_calls r) (n o) []) else []) ∷
    handed_over a n os rs

-- of some lists the items at y
abbrev pub all_at : ℕ → List (List ℕ) → List ℕ
all_at y [] = []
all_at y (xs ∷ xss) = option_to_list (slice_get xs y) ++ all_at y xss

-- some bytes were handed over, and this one has the 1 bits that all of them have
pub record JoinedFrom (xs : List ℕ) (x : ℕ) : Type 0 where
  pub any : xs ≢ []
  pub byte : x ≡ joint_byte xs

-- how many bytes a leg writes, and how many it reads
abbrev pub body_writes : BodyModel → ℕ
body_writes (writes xs) = length xs
body_writes (reads n) = 0

abbrev pub body_reads : BodyModel → ℕ
body_reads (writes xs) = 0
body_reads (reads n) = n

-- how many bytes are read before leg k
abbrev pub read_before : TransferModel → ℕ → ℕ
read_before t zero = 0
read_before t (suc k) = body_reads t.first.body

module _ (hs : List HostBehaviour) (ds : List Behaviour) where
  abbrev pub addresses : Use hs ds → List ℕ
  addresses x = bank_list (λ b p. p.address) ds x.bus.ports

  -- master i contends for this transfer
  abbrev pub Contends : Use hs ds → ℕ → TransferModel → Type 0
  Contends x i t = slice_index_or (bank_list contender_transfer hs x.book.entries) i None ≡ Some t

  -- it is not marked lost so far, or nobody else contends
  abbrev pub StillIn : Use hs ds → ℕ → TransferModel → Type 0
  StillIn x i t = Contends x i t ×
      ((slice_index_or x.monitor.marked i false ≡ false) ⊎
      ((j : ℕ) (u : TransferModel) → Contends x j u → j ≡ i))

  -- in the next tick, a fall, a contender hears A after the call of leg k and m bytes written in
  -- it: for the call where m is 0, and otherwise for the last of these bytes
  pub record HearsA (x : Use hs ds) (t : TransferModel) (k : ℕ) (g : LegModel) (m : ℕ) : Type 0
    where
      pub turn : x.book.turn ≡ opened
      pub fall : event_at hs ds x.bus ≡ Fall
      pub leg : leg_of t k ≡ Some g
      pub bytes : m ≤ body_writes g.body
      pub so_far : List Letter
      pub place : length so_far ≡ acknowledge_at t k m
      pub acknowledge :
          (monitor_with_event hs ds x.monitor x.book Fall).spelled ≡ so_far ++ (Letter.zero ∷ [])

  -- what holds of the steps asked
  pub record AskedLaw (x : Use hs ds) : Type 0 where
    -- a call or a written byte that is heard acknowledged has reached a device: a port with the
    -- leg's address selected its device in this leg, in the leg's direction, and put the bytes up
    -- to this one, and the device said yes each time
    pub reached : (i : ℕ) (t : TransferModel) → StillIn x i t →
        (k : ℕ) (g : LegModel) (m : ℕ) → HearsA x t k g m →
        AtSomePort (addresses x) (steps_then hs ds x) g.address (Acknowledged g.body m)
    -- for a byte that a done outcome reports somebody handed one over, and it has the 1 bits that
    -- all had who did
    pub reported : (i : ℕ) (t : TransferModel) (o : OutcomeModel) → Contends x i t →
        slice_index_or (told_at hs ds x.bus) i None ≡ Some o → o.kind ≡ Done →
        (k a n : ℕ) → leg_of t k ≡ Some (read_leg a n) → (y : ℕ) → y < n →
        JoinedFrom
        (all_at y (handed_over a (called_before t k) (addresses x) (steps_then hs ds x)))
        (slice_index o.bytes (read_before t k + y))
    -- so it is the byte of the one device that did, if one alone did
    pub alone : (byte : ℕ) → byte < 256 → joint_byte (byte ∷ []) ≡ byte
    -- at the stop of a turn the steps asked in it are those of a transfer that is told, carried
    -- alone: once, however many are told
    pub once : event_at hs ds x.bus ≡ Stop → x.book.turn ≡ opened →
        (i : ℕ) (t : TransferModel) → Contends x i t →
        is_some (slice_index_or (told_at hs ds x.bus) i None) ≡ true →
        steps_then hs ds x ≡ steps_alone ds t x.book.devices
    -- and where no turn is open nothing is asked
    pub resting : x.book.turn ≡ closed → steps_at hs ds x.bus ≡ no_steps hs ds x.bus

  -- at every point of every use of a bus from its making
  abbrev pub EveryAsked : Bank HostedMaster hs → Bank PortModel ds → Type 0
  EveryAsked ms ps = (cs : List (Call hs ds)) → AskedLaw (use_after hs ds (new_use hs ds ms ps) cs)
