use Rattle.std.proofs.Common.{[], ◌∷◌, refl}
use Rattle.transfer.specs.Transfer.{transfer_model, checked_write, checked_write_then_read}
use Rattle.host.specs.ListHost.{list_host, list_host_model}
use Rattle.head.proofs.Heads.{serves}
use Rattle.support.proofs.Made.{ok_same, unwrapped, at}
use Rattle.head.proofs.setup.logger.Goals as goal

pub returns : goal.returns
returns c =
    let at_80 = ok_same (unwrapped (λ a. a.number) _ _ _ c.new-2.ensures c.unwrap-registers.ensures) in
    let write = at (λ n. checked_write n (3 ∷ 127 ∷ 128 ∷ [])) _ _ _ _
    (unwrapped transfer_model _ _ _ c.write.ensures c.unwrap-write.ensures) at_80 refl in
    let read = at (λ n. checked_write_then_read n (3 ∷ []) 2) _ _ _ _
    (unwrapped transfer_model _ _ _ c.write_then_read.ensures c.unwrap-read.ensures) at_80 refl in (
      _,
      (c.unwrap-write.result, c.unwrap-read.result, write, read, refl),
      serves list_host _ _ _ _ _ c.new-3.ensures.made
          (ok_same (unwrapped (λ k. (k.low, k.high)) _ _ _ c.new.ensures c.unwrap-clock.ensures))
          (ok_same (unwrapped list_host_model _ _ _ c.list_of.ensures c.unwrap.ensures)),
    )
