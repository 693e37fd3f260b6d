use Rattle.std.proofs.Common.{subst}
use Rattle.exchange.specs.Bus.{bus_model}
use Rattle.bench.specs.Counting.{Works}
use Rattle.bench.proofs.sizes.count.Goals as goal

pub returns : goal.returns
returns g c = (
  bus_model c.count_outcomes.new.bus,
  subst (λ n. Works g.M.Masters.hosts g.P.Ports.devices n c.args.work.ticks (bus_model c.args.bus) c.count_outcomes.result
      (bus_model c.count_outcomes.new.bus))
      c.from.ensures c.count_outcomes.ensures,
)
