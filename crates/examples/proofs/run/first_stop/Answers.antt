use Rattle.std.proofs.Common.{◌≡◌, ℕ, suc, ◌-◌, true, sym, ap, ◌∙◌, arith}
use Rattle.exchange.specs.Bus.{bus_model}
use Rattle.examples.specs.Run.{is_stop}
use Rattle.examples.proofs.Stops.{stops_here, stops_later, not_stop, none_within, first_is}
use Rattle.examples.proofs.run.first_stop.Goals as goal

pub returns-in-Stop : goal.returns-in-Stop
returns-in-Stop c =
    let n = c.ticks_of_turns-made-end.result in
    let k : ℕ = n - suc c.loop-made._made in
    let stop : is_stop c.tick-tick.result.event ≡ true = ap is_stop c.in-Stop.is in
    let ticks = c.tick-tick.ensures.unheld ((λ meaning h e. e), tt) in
    sym (first_is (bus_model c.args.bus.now) (bus_model c.arm_all.new.bus) n c.arm_all.ensures c.ticks_of_turns-made-end.ensures
    ∙ (c.loop-made.invariant (suc k) (omega arith) ∙ stops_here k _ _ _ ticks stop))

pub loop-made-preserved : goal.loop-made-preserved
loop-made-preserved c = λ k e.
    let ticks = c.tick-tick.ensures.unheld ((λ meaning h e. e), tt) in
    c.loop-made.invariant (suc k) (omega arith) ∙ stops_later k _ _ _ ticks (not_stop _ c.in_default.not-Stop)

pub returns : goal.returns
returns c =
    let n = c.ticks_of_turns-made-end.result in
    sym (first_is (bus_model c.args.bus.now) (bus_model c.arm_all.new.bus) n c.arm_all.ensures c.ticks_of_turns-made-end.ensures
    ∙ (c.loop-made.invariant 0 (omega arith) ∙ none_within _))
