use Rattle.std.proofs.Common.{◌≡◌, ℕ, ◌+◌, List, ap, ◌∙◌, subst, add-one}
use Rattle.device.specs.Device.{Behaviour}
use Rattle.host.specs.Host.{HostBehaviour}
use Rattle.law.specs.declared.tick.Tick.{Tick}
use Rattle.law.specs.BusModel.{BusModel, HoldAnswers, Answered, tick_at}
use Rattle.law.specs.RunModel.{told_count}
use Rattle.exchange.specs.Bus.{bus_model}
use Rattle.bench.specs.Counting.{count_after, bus_readied, Works}
use Rattle.bench.proofs.counting.count_outcomes.Goals as goal

one_more : (hs : List HostBehaviour) (ds : List Behaviour) (masters n : ℕ) (u w x v : BusModel hs ds) (before count : ℕ) (t : Tick)
    (h : HoldAnswers ds) →
    Works hs ds masters n u before w → x ≡ bus_readied hs ds masters w → Answered hs ds x h → (t, v) ≡ tick_at hs ds x h →
    count ≡ count_after t.event before (told_count t.marks) →
    Works hs ds masters (n + 1) u count v
one_more hs ds masters n u w x v before count t h so is_ready may ticks counts = rw add-one (
  before,
  w,
  h,
  so,
  subst (λ y. Answered hs ds y h) is_ready may,
  ap (λ k. (k, v)) counts
      ∙ ap (λ a. (count_after a.0.event before (told_count a.0.marks), a.1)) (ticks ∙ ap (λ y. tick_at hs ds y h) is_ready),
)

pub loop-made-preserved : goal.loop-made-preserved
loop-made-preserved g c =
    let hs = g.M.Masters.hosts in
    let ds = g.P.Ports.devices in
    one_more hs ds c.args.masters c.loop-made._made (bus_model c.args.bus.now)
    (bus_model c.loop-made.bus) _ _ _ _ _ c.tick.ensures.answered.0
    c.loop-made.invariant c.ready.ensures c.tick.ensures.answered.1 c.tick.ensures.answered.2 c.count_after-count.ensures
