-- The worked examples hold: each is computed.
use Rattle.std.proofs.Common.{◌≡◌, ℕ, List, [], ◌∷◌, Some, None, Option, refl, ap, ◌∙◌, ap₂}
use Rattle.transfer.specs.declared.draft.Transfer.{Transfer}
use Rattle.transfer.specs.Transfer.{TransferModel, transfer_model}
use Rattle.transfer.specs.Outcome.{OutcomeModel}
use Rattle.device.specs.Device.{Behaviour}
use Rattle.device.specs.Busy.{busy_over}
use Rattle.device.specs.RegisterFile.{RegisterFileModel, new_registers, register_file}
use Rattle.master.specs.declared.arming.Arming.{Arming}
use Rattle.master.specs.declared.arming.Arming.TheVariants.{Unarmed, Armed}
use Rattle.law.specs.Bank.{Bank}
use Rattle.law.specs.Book.{Entry, least_result, outcomes_of_turn, devices_after, entries_after_turn}
use Rattle.law.specs.TransferResult.{AddressedDevice, TransferResult, transfer_result}
use Rattle.law.specs.WorkedExamples.{RefusedExamples, StringExamples, TurnExamples, Exhibits, WorkedExamples}
use Rattle.law.specs.WorkedExamples.{two_hosts, open_book, EndOfTurn, Wins, device_at_50, write_of, read_of}
use Rattle.law.specs.WorkedExamples.{write_then_read_of, done_with, registers_at, busy_registers, stored_at_3}

module _ (b : Behaviour) (m : b.Meaning) where
  -- both carried alone, who is told what, and the device after it
  abbrev contest : TransferModel → TransferModel → List (Option (TransferResult (b ∷ [])))
  contest a c = Some (transfer_result (b ∷ []) a (device_at_50 b m)) ∷
      Some (transfer_result (b ∷ []) c (device_at_50 b m)) ∷ []

  abbrev tells : TransferModel → TransferModel → List (Option OutcomeModel)
  tells a c = outcomes_of_turn (b ∷ []) (least_result (b ∷ []) (contest a c)) (contest a c)

  abbrev device_after : TransferModel → TransferModel → Bank AddressedDevice (b ∷ [])
  device_after a c = devices_after (b ∷ []) (least_result (b ∷ []) (contest a c)) (device_at_50 b m)

  -- the hosts' entries once they were told this
  abbrev entries_told : Transfer → Transfer → List (Option OutcomeModel) → Bank Entry two_hosts
  entries_told f g l = entries_after_turn two_hosts (open_book b f g m).entries l

  -- a turn of two transfers, from what their models come to
  turn : (f g : Transfer) (a c : TransferModel) (told_0 told_1 : Option OutcomeModel) (after : b.Meaning)
      (arming_0 arming_1 : Arming (Unit {0})) →
      transfer_model f ≡ a → transfer_model g ≡ c →
      tells a c ≡ told_0 ∷ told_1 ∷ [] → device_after a c ≡ device_at_50 b after →
      (entries_told f g (tells a c)).0.arming ≡ arming_0 → (entries_told f g (tells a c)).1.0.arming ≡ arming_1 →
      EndOfTurn b f g m told_0 told_1 after arming_0 arming_1
  turn f g a c told_0 told_1 after arming_0 arming_1 e h t d x y =
      record {
        told = ap₂ (λ p q. tells p q) e h ∙ t;
        device = ap₂ (λ p q. device_after p q) e h ∙ d;
        first = ap₂ (λ p q. (entries_told f g (tells p q)).0.arming) e h ∙ x;
        second = ap₂ (λ p q. (entries_told f g (tells p q)).1.0.arming) e h ∙ y;
      }

-- a wins over c at the register file, armed first or second
wins : (a c : TransferModel) (xs : List ℕ) (after : RegisterFileModel) →
    tells register_file new_registers a c ≡ done_with xs ∷ None ∷ [] →
    device_after register_file new_registers a c ≡ device_at_50 register_file after →
    tells register_file new_registers c a ≡ None ∷ done_with xs ∷ [] →
    device_after register_file new_registers c a ≡ device_at_50 register_file after →
    Wins a c xs after
wins a c xs after t d u e f g p q =
    let first_won = entries_told register_file new_registers f g in
    let second_won = entries_told register_file new_registers g f in (
      turn register_file new_registers f g a c (done_with xs) None after Unarmed (Armed tt) p q t d
          (ap (λ l. (first_won l).0.arming) t) (ap (λ l. (first_won l).1.0.arming) t),
      turn register_file new_registers g f c a None (done_with xs) after (Armed tt) Unarmed q p u e
          (ap (λ l. (second_won l).0.arming) u) (ap (λ l. (second_won l).1.0.arming) u),
    )

strings : StringExamples
strings =
    record {
      write_of_one = refl;
      no_port_answers = refl;
      select_gets_no = refl;
      put_gets_no = refl;
      read_of_two = refl;
      write_then_read = refl;
      finish_at_restart = refl;
      finish_at_stop = refl;
    }

turns : TurnExamples
turns =
    let write_3 = write_of (0x03 ∷ []) in
    let write_3_80 = write_of (0x03 ∷ 0x80 ∷ []) in
    let write_3_12 = write_of (0x03 ∷ 0x12 ∷ []) in
    let write_3_then_read = write_then_read_of (0x03 ∷ []) 1 in
    record {
      stop_over_one = wins write_3 write_3_80 [] (registers_at 3) refl refl refl refl;
      zero_over_stop = wins (write_of (0x03 ∷ 0x00 ∷ [])) write_3 [] (registers_at 4) refl refl refl refl;
      stop_over_restart = wins write_3 write_3_then_read [] (registers_at 3) refl refl refl refl;
      restart_over_one = wins write_3_then_read write_3_80 (0 ∷ []) (registers_at 4) refl refl refl refl;
      more_over_fewer = wins (read_of 3) (read_of 2) (0 ∷ 0 ∷ 0 ∷ []) (registers_at 3) refl refl refl refl;
      equal_writes = λ f g e h.
          turn (busy_over register_file) (busy_registers 0 new_registers) f g write_3_12 write_3_12
          (done_with []) (done_with [])
          (busy_registers 1 (stored_at_3 4)) Unarmed Unarmed e h refl refl refl refl;
    }

refusals : RefusedExamples
refusals =
    record {
      address_7 = refl;
      address_120 = refl;
      address_8 = refl;
      address_119 = refl;
      counts_0_1 = refl;
      counts_1_255 = refl;
      read_0 = λ d. refl;
      read_17 = λ d. refl;
      write_17 = λ xs d e. rw e;
      read_16 = λ d. refl;
    }

pub worked_examples : WorkedExamples
worked_examples = record {
  refusals = refusals;
  strings = strings;
  turns = turns;
  queue = record { joined = refl; taken = refl };
}

-- what restart_over_one promises, of transfers with the contents of that example
pub exhibits : (f g : Transfer) →
    transfer_model f ≡ write_then_read_of (0x03 ∷ []) 1 → transfer_model g ≡ write_of (0x03 ∷ 0x80 ∷ []) →
    Exhibits (write_then_read_of (0x03 ∷ []) 1) (write_of (0x03 ∷ 0x80 ∷ [])) (0 ∷ []) (registers_at 4) f g
exhibits f g e h =
    let wins = turns.restart_over_one f g e h in
    record { first_is = e; second_is = h; first_wins = wins.0; wins_as_second = wins.1 }
