use Rattle.device.specs.EventQueue.{queue_model}
use Rattle.head.proofs.Heads.{idle_is, head_is}
use Rattle.support.proofs.Made.{ok_same, unwrapped}
use Rattle.head.proofs.setup.head_bus.Goals as goal

pub returns : goal.returns
returns c =
    let (a, lists, first) = c.logger.ensures in
    let (b, polls, second) = c.alarm_unit.ensures in
    let (d, more, third) = c.service_port.ensures in (
      a,
      b,
      d,
      lists,
      polls,
      more,
      head_is _ _ _ _ _ _ _ _ _ _ _ _ a b d c.new-8.ensures.made first second third c.new-5.ensures.made c.new-6.ensures.made
          c.new-7.ensures.made
          (ok_same (unwrapped (λ a. a.number) _ _ _ c.new.ensures c.unwrap-registers.ensures))
          (ok_same (unwrapped (λ a. a.number) _ _ _ c.new-2.ensures c.unwrap-events.ensures))
          (idle_is _ _ c.new-4.ensures.made c.new-3.ensures) c.slow_events-slow.ensures
          (ok_same (unwrapped queue_model _ _ _ c.queue_of.ensures c.unwrap-quick.ensures)),
    )
