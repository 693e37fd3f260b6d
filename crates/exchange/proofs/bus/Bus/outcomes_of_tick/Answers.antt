use Rattle.std.proofs.Common.{ap, ◌∙◌}
use Rattle.law.specs.BusModel.{levels_at}
use Rattle.exchange.specs.Bus.{bus_model}
use Rattle.law.specs.Limits.{most_masters}
use Rattle.law.specs.RunModel.{told_count}
use Rattle.wire.specs.Wire.{signal}
use Rattle.exchange.proofs.Counting.{told_count_is_all}
use Rattle.exchange.proofs.bus.Bus.outcomes_of_tick.Goals as goal

pub returns : goal.returns
returns g c =
    let hs = g.M.Masters.hosts in
    let ds = g.P.Ports.devices in
    let u = bus_model c.args.self.now in
    let tick = c.tick.ensures.answered in
    record {
      few = c.outcome_count.ensures.few;
      all = c.outcome_count.ensures.all ∙ ap (λ x. told_count x.0.marks) tick.2
          ∙ told_count_is_all hs (signal u.wire (levels_at hs ds u)) u.masters most_masters c.args.self.now.few_masters;
      after = (c.tick.result, tick);
    }
