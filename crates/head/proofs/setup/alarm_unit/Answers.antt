use Rattle.std.proofs.Common.{refl}
use Rattle.transfer.specs.Transfer.{transfer_model, checked_read}
use Rattle.host.specs.PollHost.{poll_host}
use Rattle.head.proofs.Heads.{serves}
use Rattle.support.proofs.Made.{ok_same, unwrapped, at}
use Rattle.head.proofs.setup.alarm_unit.Goals as goal

pub returns : goal.returns
returns c =
    let at_81 = ok_same (unwrapped (λ a. a.number) _ _ _ c.new-2.ensures c.unwrap.ensures) in
    let read = at (λ n. checked_read n 1) _ _ _ _ (unwrapped transfer_model _ _ _ c.read.ensures c.unwrap-read.ensures) at_81 refl in (
      _,
      (c.unwrap-read.result, read, refl),
      serves poll_host _ _ _ _ _ c.new-4.ensures.made
          (ok_same (unwrapped (λ k. (k.low, k.high)) _ _ _ c.new.ensures c.unwrap-clock.ensures)) c.new-3.ensures,
    )
