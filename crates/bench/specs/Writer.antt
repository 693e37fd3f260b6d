-- Hosts that write for ever, and masters that serve them.
use Rattle.std.specs.Prelude.{◌≡◌, ℕ, false, None}
use Rattle.transfer.specs.declared.draft.Transfer.{Transfer}
use Rattle.transfer.specs.Transfer.{transfer_model}
use Rattle.host.specs.PollHost.{PollHostModel, poll_host}
use Rattle.master.specs.Master.{HostedMaster, new_hosted_master}
use Rattle.support.specs.Sent.{register_write}

-- a poll host that was told nothing yet, whose mask has every bit
abbrev pub writer_of : Transfer → PollHostModel
writer_of t = record { transfer = t; mask = 0xFF; met = false; last = None }

-- a new master at this clock, for ever with a write of the byte
abbrev pub WritesForEver : ℕ → ℕ → ℕ → ℕ → HostedMaster poll_host → Type 0
WritesForEver low high address byte x =
    (t : Transfer) × (transfer_model t ≡ register_write address byte) ×
    (x ≡ new_hosted_master poll_host low high (writer_of t))
