-- What all hosts together want and hear, and that transfers and ports are such as the machine asks for.
use Rattle.std.proofs.Common.{◌≡◌, ℕ, zero, suc, List, [], ◌∷◌, Some, None, Option, subst, le_refl}
use Rattle.std.specs.Option.{option_map}
use Rattle.transfer.specs.declared.draft.Transfer.{Transfer}
use Rattle.transfer.specs.Transfer.{TransferModel, transfer_model}
use Rattle.transfer.specs.Outcome.{OutcomeModel}
use Rattle.device.specs.Device.{Behaviour}
use Rattle.host.specs.Host.{HostBehaviour}
use Rattle.law.specs.Bank.{Bank, bank_list}
use Rattle.master.specs.Script.{transfers}
use Rattle.law.proofs.Alone.CursorsStayAlike.{open_alike}
use Rattle.law.proofs.Alone.IdleBetweenTurns.{Idle, idle_pulls_nothing, quiet_from_idle, idle_at_last}
use Rattle.transfer.specs.Legal.{IsLegal}
use Rattle.law.proofs.Alone.SealedIsLegal.{legal_transfer}
use Rattle.law.proofs.Alone.SlotsRunOut.{slots_left, at_most}
use Rattle.law.proofs.Machine.Arbitration.{at}
use Rattle.law.proofs.Machine.BookOfMachine.{Plays}
use Rattle.law.proofs.Bus.TransfersAsGame.{game}

abbrev pub Meanings : List HostBehaviour → Type 0
Meanings hs = Bank (λ h. h.Meaning) hs

-- what a host wants, as a model
abbrev pub want_of : (h : HostBehaviour) → h.Meaning → Option TransferModel
want_of h m = option_map transfer_model (h.want m)

abbrev pub wants_of : (hs : List HostBehaviour) → Meanings hs → List (Option TransferModel)
wants_of hs m = bank_list want_of hs m

abbrev pub hears_one : (h : HostBehaviour) → h.Meaning → Option OutcomeModel → h.Meaning
hears_one h m None = m
hears_one h m (Some o) = h.told m o

abbrev pub hears_all : (hs : List HostBehaviour) → Meanings hs → List (Option OutcomeModel) → Meanings hs
hears_all [] m ts = tt
hears_all (h ∷ hs) m [] = (m.0, hears_all hs m.1 [])
hears_all (h ∷ hs) m (t ∷ ts) = (hears_one h m.0 t, hears_all hs m.1 ts)

legal_want : (w : Option Transfer) (t : TransferModel) → option_map transfer_model w ≡ Some t → IsLegal t
legal_want None t e = cc
legal_want (Some v) t e = let same : transfer_model v ≡ t = cc in subst IsLegal same (legal_transfer v)

pub legal_wants : (hs : List HostBehaviour) (m : Meanings hs) (i : ℕ) (t : TransferModel) → at (wants_of hs m) i ≡ Some t → IsLegal t
legal_wants [] m i t e = cc
legal_wants (h ∷ hs) m zero t e = legal_want (h.want m.0) t e
legal_wants (h ∷ hs) m (suc i) t e = legal_wants hs m.1 i t e

pub plays : (ds : List Behaviour) → Plays (game ds) IsLegal (Idle ds)
plays ds = record {
  alike = open_alike;
  short = at_most;
  quiet = λ t s k h n. quiet_from_idle ds t s n k h;
  calm = idle_pulls_nothing ds;
  rests = λ t s k h. idle_at_last ds t s (slots_left (transfers.begin t)) k (le_refl (slots_left (transfers.begin t))) h;
}
