-- At each point of a use: the law, what the ports are at rest, and what a contender still in has carried so far.
use Rattle.std.proofs.Common.{◌≡◌, ℕ, ◌⊎◌, List, [], ◌∷◌, ◌++◌, length, refl, ap, subst, inl, inr}
use Rattle.transfer.specs.Transfer.{TransferModel}
use Rattle.device.specs.Device.{Behaviour}
use Rattle.host.specs.Host.{HostBehaviour}
use Rattle.master.specs.Cursor.{new_cursor}
use Rattle.master.specs.Master.{HostedMaster}
use Rattle.master.specs.Script.{transfers}
use Rattle.port.specs.Port.{PortModel}
use Rattle.law.specs.AskedLaw.{StillIn}
use Rattle.law.specs.Bank.{Bank, bank_map}
use Rattle.law.specs.Book.{closed, opened}
use Rattle.law.specs.BusModel.{ClocksInRange}
use Rattle.law.specs.Law.{Law}
use Rattle.law.specs.Use.{Call, Use, use_after_call, use_after, new_use}
use Rattle.law.proofs.FarSide.{string, last}
use Rattle.law.proofs.Alone.PortsAsSide.{unheld, ports_side, idle_ports}
use Rattle.law.proofs.Alone.PlayedIsCarried.{opened_ports}
use Rattle.law.proofs.Machine.InvariantSays.{stands_at_rest}
use Rattle.law.proofs.Bus.BookAsMachine.{contenders, turn_if}
use Rattle.law.proofs.Bus.EveryUseLawful.{every_use_lawful, every_use_stands}
use Rattle.law.proofs.Bus.UseKeepsInvariant.{seen_use, StandsAt}
use Rattle.law.proofs.Bus.TransfersAsGame.{game}
use Rattle.law.proofs.Asked.UnmarkedAsAlone.{ForNow, carried_so_far}

module _ (hs : List HostBehaviour) (ds : List Behaviour) where
  -- the ports, but for what they hold, are those of the book's devices
  abbrev pub AtRest : Use hs ds → Type 0
  AtRest x = x.book.turn ≡ closed → bank_map unheld ds x.bus.ports ≡ idle_ports ds x.book.devices

  -- so far the turn is the transfer carried alone
  pub record SoFarAlone (x : Use hs ds) (t : TransferModel) : Type 0 where
    pub slots_gone : ℕ
    pub letters : x.monitor.spelled ≡
        string transfers (ports_side ds) slots_gone (new_cursor t) (opened_ports ds x.book.devices)
    pub many : length x.monitor.spelled ≡ slots_gone
    pub ports : bank_map unheld ds x.bus.ports ≡
        last transfers (ports_side ds) slots_gone (new_cursor t) (opened_ports ds x.book.devices)

  -- what the invariant says of a use
  pub record Standing (x : Use hs ds) : Type 0 where
    pub at_rest : AtRest x
    -- before the first letter nothing is said
    pub so_far : x.book.turn ≡ opened → (i : ℕ) (t : TransferModel) → StillIn hs ds x i t →
        (x.monitor.spelled ≡ []) ⊎ SoFarAlone x t

  so_far_alone : (x : Use hs ds) (t : TransferModel) →
      ForNow transfers (ports_side ds) (seen_use hs ds x) t →
      (x.monitor.spelled ≡ []) ⊎ SoFarAlone x t
  so_far_alone x t (inl e) = inl e
  so_far_alone x t (inr f) =
      inr (record { slots_gone = f.slots_gone; letters = f.letters; many = f.many; ports = f.side })

  standing : (x : Use hs ds) → StandsAt hs ds x → Standing x
  standing x st =
      let l = contenders hs x.book.entries in
      record {
        at_rest = λ e. stands_at_rest (game ds) st.1 (ap (λ v. turn_if v l) e);
        so_far = λ e i t h. so_far_alone x t
            (carried_so_far (game ds) st.1 l (ap (λ v. turn_if v l) e) i t h.0 h.1);
      }

  one_more : (x : Use hs ds) (cs : List (Call hs ds)) (c : Call hs ds) →
      use_after hs ds x (cs ++ (c ∷ [])) ≡ use_after_call hs ds (use_after hs ds x cs) c
  one_more x [] c = refl
  one_more x (b ∷ cs) c = one_more (use_after_call hs ds x b) cs c

-- after these calls, and after one more
module _ (hs : List HostBehaviour) (ds : List Behaviour) (ms : Bank HostedMaster hs) (ps : Bank PortModel ds) where
  abbrev pub after_calls : List (Call hs ds) → Use hs ds
  after_calls cs = use_after hs ds (new_use hs ds ms ps) cs

  pub then_one : (cs : List (Call hs ds)) (c : Call hs ds) →
      after_calls (cs ++ (c ∷ [])) ≡ use_after_call hs ds (after_calls cs) c
  then_one cs c = one_more hs ds (new_use hs ds ms ps) cs c

  module _ (clocked : ClocksInRange hs ms) (cs : List (Call hs ds)) where
    pub law_holds : Law hs ds (after_calls cs)
    law_holds = every_use_lawful hs ds ms ps clocked cs

    pub stands_holds : Standing hs ds (after_calls cs)
    stands_holds = standing hs ds (after_calls cs) (every_use_stands hs ds ms ps clocked cs)

  module _ (clocked : ClocksInRange hs ms) (cs : List (Call hs ds)) (c : Call hs ds) where
    pub law_then : Law hs ds (use_after_call hs ds (after_calls cs) c)
    law_then = subst (Law hs ds) (then_one cs c) (law_holds clocked (cs ++ (c ∷ [])))

    pub stands_then : Standing hs ds (use_after_call hs ds (after_calls cs) c)
    stands_then = subst (Standing hs ds) (then_one cs c) (stands_holds clocked (cs ++ (c ∷ [])))
