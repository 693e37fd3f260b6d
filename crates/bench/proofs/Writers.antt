-- Masters that write for ever, put together from what the code makes.
use Rattle.std.proofs.Common.{◌≡◌, ℕ, Ok, Result, ap, ◌∙◌}
use Rattle.transfer.specs.declared.draft.Transfer.{Transfer}
use Rattle.transfer.specs.Transfer.{transfer_model}
use Rattle.host.specs.PollHost.{PollHostModel, poll_host}
use Rattle.master.specs.Master.{HostedMaster, new_hosted_master}
use Rattle.support.proofs.Made.{ok_same}
use Rattle.support.specs.Sent.{register_write}
use Rattle.bench.specs.Writer.{writer_of, WritesForEver}

pub writes_for_ever : (x : HostedMaster poll_host) (t : Transfer) (m : PollHostModel) (low high address known byte : ℕ) →
    x ≡ new_hosted_master poll_host low high m → transfer_model t ≡ register_write address byte → address ≡ known →
    ◌≡◌ {A = Result PollHostModel ℕ} (Ok m) (Ok (writer_of t)) → WritesForEver low high known byte x
writes_for_ever x t m low high address known byte e sends at_known made = (
  t,
  sends ∙ ap (λ a. register_write a byte) at_known,
  e ∙ ap (λ m. new_hosted_master poll_host low high m) (ok_same made),
)
