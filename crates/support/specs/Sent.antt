-- What the programs send, and where to.
use Rattle.std.specs.Prelude.{ℕ, [], ◌∷◌}
use Rattle.transfer.specs.Transfer.{TransferModel, write_to, read_from}

-- where the programs have their register file
abbrev pub registers_address : ℕ
registers_address = 0x50

-- where they have their event queues
abbrev pub events_address : ℕ
events_address = 0x51

-- a read of one event
abbrev pub event_read : TransferModel
event_read = read_from events_address 1

-- the register that the programs write to
abbrev pub register : ℕ
register = 3

-- a write of one byte to that register
abbrev pub register_write : ℕ → ℕ → TransferModel
register_write address byte = write_to address (register ∷ byte ∷ [])
