use Rattle.std.proofs.Common.{[], ◌∷◌, refl}
use Rattle.transfer.specs.Transfer.{transfer_model, checked_write}
use Rattle.host.specs.ListHost.{list_host, list_host_model}
use Rattle.head.proofs.Heads.{serves}
use Rattle.support.proofs.Made.{ok_same, unwrapped, at}
use Rattle.head.proofs.setup.service_port.Goals as goal

pub returns : goal.returns
returns c =
    let at_80 = ok_same (unwrapped (λ a. a.number) _ _ _ c.new-2.ensures c.unwrap.ensures) in
    let at_34 = ok_same (unwrapped (λ a. a.number) _ _ _ c.new-3.ensures c.unwrap-2.ensures) in
    let write = at (λ n. checked_write n (3 ∷ 127 ∷ [])) _ _ _ _
    (unwrapped transfer_model _ _ _ c.write.ensures c.unwrap-write.ensures) at_80 refl in
    let probe = at (λ n. checked_write n []) _ _ _ _
    (unwrapped transfer_model _ _ _ c.write-2.ensures c.unwrap-probe.ensures) at_34 refl in (
      _,
      (c.unwrap-write.result, c.unwrap-probe.result, write, probe, refl),
      serves list_host _ _ _ _ _ c.new-4.ensures.made
          (ok_same (unwrapped (λ k. (k.low, k.high)) _ _ _ c.new.ensures c.unwrap-clock.ensures))
          (ok_same (unwrapped list_host_model _ _ _ c.list_of.ensures c.unwrap-3.ensures)),
    )
