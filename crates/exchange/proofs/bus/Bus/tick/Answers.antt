use Rattle.std.proofs.Common.{◌≡◌, ap, ◌∙◌, subst}
use Rattle.law.proofs.WithoutHolds.{tick_unheld}
use Rattle.law.specs.BusModel.{AllMayAnswer, levels_at}
use Rattle.exchange.specs.Bus.{bus_model}
use Rattle.exchange.proofs.Ticks.{levels_are, tick_is}
use Rattle.wire.specs.Wire.{signal}
use Rattle.exchange.proofs.bus.Bus.tick.Goals as goal

pub returns : goal.returns
returns g c =
    let hs = g.M.Masters.hosts in
    let ds = g.P.Ports.devices in
    let u = bus_model c.args.self.now in
    let step = c.step-2.ensures in
    let levels_is : c.levels-levels.result ≡ levels_at hs ds u =
    levels_are _ _ _ _ _ _ c.levels-levels.ensures c.or.ensures c.pulls.ensures c.pulls-2.ensures in
    let signal_is : c.step-signal.result ≡ signal u.wire (levels_at hs ds u) =
    c.step-signal.ensures.answer ∙ ap (signal u.wire) levels_is in
    let may = subst (λ s. AllMayAnswer ds u.ports s step.0) signal_is step.1 in
    let asked = subst (λ s. g.P.Ports.asked c.args.self.now.ports s step.0 c.step-2.new.self) signal_is step.3 in
    let tick = tick_is hs ds u c.levels-levels.result c.step-signal.result c.step-signal.new.self _ _ _ step.0
    levels_is c.step-signal.ensures.answer c.step-signal.ensures.after
    c.step.ensures.after c.step.ensures.marks step.2 in
    record {
      answered = (step.0, may, tick, asked);
      unheld = λ never. tick ∙ tick_unheld hs ds u step.0 never may;
    }
