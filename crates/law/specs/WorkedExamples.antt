-- Worked examples of the refusals, of carried alone letter by letter, and of the turn book.
use Rattle.std.specs.Prelude.{◌≡◌, ℕ, true, false, List, [], ◌∷◌, length, replicate, Some, None, Ok, Err, Option, slice_set}
use Rattle.transfer.specs.declared.draft.Transfer.{Transfer}
use Rattle.transfer.specs.declared.outcome.OutcomeKind.TheVariants.{Done, NoAnswer, Refused}
use Rattle.transfer.specs.Address.{checked_address}
use Rattle.transfer.specs.ClockPair.{checked_counts}
use Rattle.transfer.specs.Transfer.{TransferModel, transfer_model, answer_to_write, answer_to_read, write_to, read_from, write_then_read}
use Rattle.transfer.specs.Outcome.{OutcomeModel}
use Rattle.device.specs.Device.{Behaviour}
use Rattle.device.specs.Busy.{BusyModel, busy_over}
use Rattle.device.specs.declared.selection.Selection.TheVariants.{Closed}
use Rattle.device.specs.EventQueue.{event_queue}
use Rattle.device.specs.RegisterFile.{RegisterFileModel, new_registers, register_file}
use Rattle.host.specs.Host.{HostBehaviour}
use Rattle.host.specs.ListHost.{list_host, new_list_host}
use Rattle.master.specs.declared.arming.Arming.{Arming}
use Rattle.master.specs.declared.arming.Arming.TheVariants.{Unarmed, Armed}
use Rattle.wire.specs.declared.event.Event.TheVariants.{Stop, SteadyHigh}
use Rattle.law.specs.Bank.{Bank}
use Rattle.law.specs.Book.{Entry, closed, Book, book_arm, book_told, book_after}
use Rattle.law.specs.TransferResult.{AddressedDevice, TransferResult, transfer_result}
use Rattle.law.specs.Letter.{zero, stop, restart, one}

-- which plain numbers are refused, and with what
pub record RefusedExamples : Type 0 where
  pub address_7 : checked_address 7 ≡ Err 1
  pub address_120 : checked_address 120 ≡ Err 1
  pub address_8 : checked_address 8 ≡ Ok 8
  pub address_119 : checked_address 119 ≡ Ok 119
  pub counts_0_1 : checked_counts 0 1 ≡ Err 2
  pub counts_1_255 : checked_counts 1 255 ≡ Ok (1, 255)
  pub read_0 : (d : TransferModel) → answer_to_read 0 d ≡ (Err 4, d)
  pub read_17 : (d : TransferModel) → answer_to_read 17 d ≡ (Err 4, d)
  pub write_17 : (xs : List ℕ) (d : TransferModel) → length xs ≡ 17 → answer_to_write xs d ≡ (Err 4, d)
  pub read_16 : (d : TransferModel) → (answer_to_read 16 d).0 ≡ Ok tt

-- two masters with a list host each, over one device
abbrev pub two_hosts : List HostBehaviour
two_hosts = list_host ∷ list_host ∷ []

abbrev pub entry : Transfer → Entry list_host
entry t = record {
  meaning = new_list_host (t ∷ []);
  arming = Unarmed;
  contends = false;
}

module _ (b : Behaviour) where
  abbrev pub device_at_50 : b.Meaning → Bank AddressedDevice (b ∷ [])
  device_at_50 m = (record { address = 0x50; meaning = m }, tt)

  -- a transfer carried alone from the device m
  abbrev pub alone : TransferModel → b.Meaning → TransferResult (b ∷ [])
  alone t m = transfer_result (b ∷ []) t (device_at_50 m)

  abbrev pub book : Transfer → Transfer → b.Meaning → Book two_hosts (b ∷ [])
  book f g m = record {
    entries = (entry f, (entry g, tt));
    devices = device_at_50 m;
    turn = closed;
  }

  -- both are armed, and a turn opens for them
  abbrev pub open_book : Transfer → Transfer → b.Meaning → Book two_hosts (b ∷ [])
  open_book f g m =
      let first = (book_arm two_hosts (b ∷ []) (book f g m) 0).1 in
      let second = (book_arm two_hosts (b ∷ []) first 1).1 in
      book_after two_hosts (b ∷ []) second SteadyHigh

  -- at the stop of the turn of f and g from the device m: who is told what, what the device then
  -- means, and who is still armed
  pub record EndOfTurn (f g : Transfer) (m : b.Meaning)
      (told_0 told_1 : Option OutcomeModel) (after : b.Meaning)
      (arming_0 arming_1 : Arming (Unit {0})) : Type 0 where
    pub told : book_told two_hosts (b ∷ []) (open_book f g m) Stop ≡ told_0 ∷ told_1 ∷ []
    pub device : (book_after two_hosts (b ∷ []) (open_book f g m) Stop).devices ≡ device_at_50 after
    pub first : (book_after two_hosts (b ∷ []) (open_book f g m) Stop).entries.0.arming ≡ arming_0
    pub second :
        (book_after two_hosts (b ∷ []) (open_book f g m) Stop).entries.1.0.arming ≡ arming_1

abbrev pub write_of : List ℕ → TransferModel
write_of xs = write_to 0x50 xs

abbrev pub read_of : ℕ → TransferModel
read_of n = read_from 0x50 n

abbrev pub write_then_read_of : List ℕ → ℕ → TransferModel
write_then_read_of xs n = write_then_read 0x50 xs n

-- to an address that no port has
abbrev pub write_elsewhere : List ℕ → TransferModel
write_elsewhere xs = write_to 0x51 xs

abbrev pub done_with : List ℕ → Option OutcomeModel
done_with xs = Some (record { kind = Done; bytes = xs })

-- a fresh register file with its pointer there
abbrev pub registers_at : ℕ → RegisterFileModel
registers_at p = record { bytes = replicate 16 0; pointer = p; awaits = false }

-- the same with 12 stored at 3
abbrev pub stored_at_3 : ℕ → RegisterFileModel
stored_at_3 p = record { bytes = slice_set (replicate 16 0) 3 0x12; pointer = p; awaits = false }

abbrev pub busy_registers : ℕ → RegisterFileModel → BusyModel register_file
busy_registers n m = record { number = 1; left = n; selection = Closed; below = m }

-- a transfer carried alone to one device at 0x50, letter by letter: a row for each byte and its
-- acknowledge, a repeated start or a stop
pub record StringExamples : Type 0 where
  -- a write of 03: A0 and 03, each acknowledged with 0
  pub write_of_one : alone register_file (write_of (0x03 ∷ [])) new_registers ≡ record {
    letters =
        one ∷ zero ∷ one ∷ zero ∷ zero ∷ zero ∷ zero ∷ zero ∷ zero ∷
        zero ∷ zero ∷ zero ∷ zero ∷ zero ∷ zero ∷ one ∷ one ∷ zero ∷
        stop ∷ [];
    outcome = record { kind = Done; bytes = [] };
    devices = device_at_50 register_file (registers_at 3);
  }
  -- a write to 0x51, where no port is: A2, not acknowledged, which is 1
  pub no_port_answers : alone register_file (write_elsewhere (0x03 ∷ [])) new_registers ≡ record {
    letters =
        one ∷ zero ∷ one ∷ zero ∷ zero ∷ zero ∷ one ∷ zero ∷ one ∷
        stop ∷ [];
    outcome = record { kind = NoAnswer (record { leg = 0 }); bytes = [] };
    devices = device_at_50 register_file new_registers;
  }
  -- a write to an event queue, which says no to select: A0, not acknowledged
  pub select_gets_no : alone event_queue (write_of (0x03 ∷ [])) (0x12 ∷ []) ≡ record {
    letters =
        one ∷ zero ∷ one ∷ zero ∷ zero ∷ zero ∷ zero ∷ zero ∷ one ∷
        stop ∷ [];
    outcome = record { kind = NoAnswer (record { leg = 0 }); bytes = [] };
    devices = device_at_50 event_queue (0x12 ∷ []);
  }
  -- a write of 10 and 12: the register file takes no pointer above 0F, so 10 is not acknowledged,
  -- and 12 is not sent
  pub put_gets_no : alone register_file (write_of (0x10 ∷ 0x12 ∷ [])) new_registers ≡ record {
    letters =
        one ∷ zero ∷ one ∷ zero ∷ zero ∷ zero ∷ zero ∷ zero ∷ zero ∷
        zero ∷ zero ∷ zero ∷ one ∷ zero ∷ zero ∷ zero ∷ zero ∷ one ∷
        stop ∷ [];
    outcome = record { kind = Refused (record { leg = 0; byte = 0 }); bytes = [] };
    devices = device_at_50 register_file (record new_registers { awaits = true });
  }
  -- a read of 2 from a queue of 12 and C5: A1, acknowledged; the master's own acknowledge is 0
  -- after 12, and 1 after C5, the last
  pub read_of_two : alone event_queue (read_of 2) (0x12 ∷ 0xC5 ∷ []) ≡ record {
    letters =
        one ∷ zero ∷ one ∷ zero ∷ zero ∷ zero ∷ zero ∷ one ∷ zero ∷
        zero ∷ zero ∷ zero ∷ one ∷ zero ∷ zero ∷ one ∷ zero ∷ zero ∷
        one ∷ one ∷ zero ∷ zero ∷ zero ∷ one ∷ zero ∷ one ∷ one ∷
        stop ∷ [];
    outcome = record { kind = Done; bytes = 0x12 ∷ 0xC5 ∷ [] };
    devices = device_at_50 event_queue [];
  }
  -- a write of 03, a repeated start and a read of 1: the register file gives the byte at 3
  pub write_then_read :
      alone register_file (write_then_read_of (0x03 ∷ []) 1) (stored_at_3 0) ≡ record {
        letters =
            one ∷ zero ∷ one ∷ zero ∷ zero ∷ zero ∷ zero ∷ zero ∷ zero ∷
            zero ∷ zero ∷ zero ∷ zero ∷ zero ∷ zero ∷ one ∷ one ∷ zero ∷
            restart ∷
            one ∷ zero ∷ one ∷ zero ∷ zero ∷ zero ∷ zero ∷ one ∷ zero ∷
            zero ∷ zero ∷ zero ∷ one ∷ zero ∷ zero ∷ one ∷ zero ∷ one ∷
            stop ∷ [];
        outcome = record { kind = Done; bytes = 0x12 ∷ [] };
        devices = device_at_50 register_file (stored_at_3 4);
      }
  -- the same transfer with a busy layer: it is finished at the repeated start, so it says no to the
  -- select for the read
  pub finish_at_restart : alone (busy_over register_file)
      (write_then_read_of (0x03 ∷ []) 1) (busy_registers 0 new_registers) ≡ record {
        letters =
            one ∷ zero ∷ one ∷ zero ∷ zero ∷ zero ∷ zero ∷ zero ∷ zero ∷
            zero ∷ zero ∷ zero ∷ zero ∷ zero ∷ zero ∷ one ∷ one ∷ zero ∷
            restart ∷
            one ∷ zero ∷ one ∷ zero ∷ zero ∷ zero ∷ zero ∷ one ∷ one ∷
            stop ∷ [];
        outcome = record { kind = NoAnswer (record { leg = 1 }); bytes = [] };
        devices = device_at_50 (busy_over register_file) (busy_registers 0 (registers_at 3));
      }
  -- a write of 03 with a busy layer: it is finished at the stop, so it will say no to one select
  pub finish_at_stop : alone (busy_over register_file)
      (write_of (0x03 ∷ [])) (busy_registers 0 new_registers) ≡ record {
        letters =
            one ∷ zero ∷ one ∷ zero ∷ zero ∷ zero ∷ zero ∷ zero ∷ zero ∷
            zero ∷ zero ∷ zero ∷ zero ∷ zero ∷ zero ∷ one ∷ one ∷ zero ∷
            stop ∷ [];
        outcome = record { kind = Done; bytes = [] };
        devices = device_at_50 (busy_over register_file) (busy_registers 1 (registers_at 3));
      }

-- the first of two transfers to a fresh register file wins over the second, whichever master sends
-- it, reads these bytes, and leaves the register file so
abbrev pub Wins : TransferModel → TransferModel → List ℕ → RegisterFileModel → Type 0
Wins a b xs after = (f g : Transfer) → transfer_model f ≡ a → transfer_model g ≡ b →
    EndOfTurn register_file f g new_registers (done_with xs) None after Unarmed (Armed tt)
    × EndOfTurn register_file g f new_registers None (done_with xs) after (Armed tt) Unarmed

-- two transfers of which the first wins so over the second
pub record Exhibits (a b : TransferModel) (xs : List ℕ) (after : RegisterFileModel)
    (f g : Transfer) : Type 0 where
  pub first_is : transfer_model f ≡ a
  pub second_is : transfer_model g ≡ b
  pub first_wins :
      EndOfTurn register_file f g new_registers (done_with xs) None after Unarmed (Armed tt)
  pub wins_as_second :
      EndOfTurn register_file g f new_registers None (done_with xs) after (Armed tt) Unarmed

pub record TurnExamples : Type 0 where
  pub stop_over_one : Wins (write_of (0x03 ∷ [])) (write_of (0x03 ∷ 0x80 ∷ [])) [] (registers_at 3)
  pub zero_over_stop : Wins (write_of (0x03 ∷ 0x00 ∷ [])) (write_of (0x03 ∷ [])) [] (registers_at 4)
  pub stop_over_restart :
      Wins (write_of (0x03 ∷ [])) (write_then_read_of (0x03 ∷ []) 1) [] (registers_at 3)
  pub restart_over_one :
      Wins (write_then_read_of (0x03 ∷ []) 1) (write_of (0x03 ∷ 0x80 ∷ []))
      (0 ∷ []) (registers_at 4)
  pub more_over_fewer : Wins (read_of 3) (read_of 2) (0 ∷ 0 ∷ 0 ∷ []) (registers_at 3)
  -- two equal writes are one turn that tells both; the device takes its steps once, as a busy layer
  -- shows
  pub equal_writes : (f g : Transfer) →
      transfer_model f ≡ write_of (0x03 ∷ 0x12 ∷ []) →
      transfer_model g ≡ write_of (0x03 ∷ 0x12 ∷ []) →
      EndOfTurn (busy_over register_file) f g (busy_registers 0 new_registers)
      (done_with []) (done_with []) (busy_registers 1 (stored_at_3 4)) Unarmed Unarmed

-- two queues at one address
abbrev pub two_queues : List Behaviour
two_queues = event_queue ∷ event_queue ∷ []

abbrev pub queues : List ℕ → List ℕ → Bank AddressedDevice two_queues
queues xs ys =
    (record { address = 0x51; meaning = xs }, (record { address = 0x51; meaning = ys }, tt))

abbrev pub read_queue : TransferModel
read_queue = read_from 0x51 1

pub record QueueExample : Type 0 where
  pub joined : (transfer_result two_queues read_queue (queues (0x3C ∷ []) (0x5A ∷ []))).outcome ≡
      record { kind = Done; bytes = 0x18 ∷ [] }
  pub taken : (transfer_result two_queues read_queue (queues (0x3C ∷ []) (0x5A ∷ []))).devices ≡
      queues [] []

pub record WorkedExamples : Type 0 where
  pub refusals : RefusedExamples
  pub strings : StringExamples
  pub turns : TurnExamples
  pub queue : QueueExample
