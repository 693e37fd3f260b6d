use Rattle.std.proofs.Common.{◌+◌, cond, sym, ap, ◌∙◌, inl, inr, add-zero, arith}
use Rattle.law.proofs.WithoutHolds.{run_unheld}
use Rattle.exchange.specs.Bus.{bus_model}
use Rattle.exchange.proofs.Counting.{reached_none, reached_more, run_is, refused}
use Rattle.exchange.proofs.bus.Bus.run.Goals as goal
use Rattle.exchange.proofs.bus.Bus.run.Goals.{then-ticks-n-via-then-ticks-n, then-ticks-n-via-else-ticks-n+then-at_rest}

pub returns-then-n-gt-MOST_TICKS : goal.returns-then-n-gt-MOST_TICKS
returns-then-n-gt-MOST_TICKS g c =
    let hs = g.M.Masters.hosts in
    let ds = g.P.Ports.devices in
    let u = bus_model c.args.self.now in
    let run = refused hs ds g.P.Ports.asked u c.args.self.now.ports c.args.n c.if-n-gt-MOST_TICKS.true in
    record { answered = run; unheld = λ never. run.2 ∙ run_unheld hs ds u c.args.n run.0 never run.1 }

pub loop-ticks-init : goal.loop-ticks-init
loop-ticks-init g c = (omega arith, omega arith, omega arith, reached_none _ _ _ _ _)

pub loop-ticks-preserved-then-self : goal.loop-ticks-preserved-then-self
loop-ticks-preserved-then-self g c =
    let tick = c.outcomes_of_tick-outcomes.ensures in (
      omega arith,
      omega arith,
      omega arith,
      reached_more _ _ _ _ _ _ _ _ tick.after.1.0 _ _ _ c.if-at_rest.ensures (ap (λ x. x.1) tick.after.1.2) tick.all
          (ap (λ b. c.loop-ticks.busy + cond b 1 0) (sym c.if-self.true)) tick.after.1.1 tick.after.1.3 c.loop-ticks.invariant.3,
    )

pub loop-ticks-preserved : goal.loop-ticks-preserved
loop-ticks-preserved g c =
    let tick = c.outcomes_of_tick-outcomes.ensures in (
      omega arith,
      omega arith,
      omega arith,
      reached_more _ _ _ _ _ _ _ _ tick.after.1.0 _ _ _ c.if-at_rest.ensures (ap (λ x. x.1) tick.after.1.2) tick.all
          (sym (add-zero _) ∙ ap (λ b. c.loop-ticks.busy + cond b 1 0) (sym c.if-self.false))
          tick.after.1.1 tick.after.1.3 c.loop-ticks.invariant.3,
    )

pub returns : goal.returns
returns g c =
    let hs = g.M.Masters.hosts in
    let ds = g.P.Ports.devices in
    let u = bus_model c.args.self.now in
    let run = run_is hs ds g.P.Ports.asked u c.args.self.now.ports _ c.loop-ticks.self.ports c.args.n c.load.result
    c.if-n-gt-MOST_TICKS.false c.loop-ticks.invariant.0 c.load.ensures
    (elim c.then-ticks-n.branch [
      | then-ticks-n-via-then-ticks-n w ↦ inl w.if-ticks-n.true
      | then-ticks-n-via-else-ticks-n+then-at_rest w ↦ inr w.if-at_rest.ensures
    ])
    c.loop-ticks.invariant.3 in
    record { answered = run; unheld = λ never. run.2 ∙ run_unheld hs ds u c.args.n run.0 never run.1 }
