use Rattle.std.proofs.Common.{◌∙◌, ℕ, List, refl, inl, inr, ap, subst, arith, rules}
use Rattle.std.proofs.Output.{writes_in_calls_single, writes_in_calls_append}
use Rattle.exchange.specs.Bus.{bus_model}
use Rattle.support.proofs.OneText.{puts_only, puts_front}
use Rattle.support.proofs.Progress.{lines_are, ticked_is, one_more}
use Rattle.support.proofs.Unheld.{puts_all, puts_part}
use Rattle.text.proofs.Only.{is_decimal}
use Rattle.support.proofs.run.print_run.Goals as goal

pub returns-then-at_rest-clause-all : goal.returns-then-at_rest-clause-all
returns-then-at_rest-clause-all g c = record {
  text = c.loop-made.invariant.0;
  end = record { bus = bus_model c.loop-made.bus; listing = c.loop-made.listing };
  run = record { ticks = c.loop-made._made; bounded = omega arith; ran = c.loop-made.invariant.1; over = inr (search rules) };
  written = c.loop-made.invariant.2;
  bus = refl;
}

pub returns-clause-all : goal.returns-clause-all
returns-clause-all g c = record {
  text = c.loop-made.invariant.0;
  end = record { bus = bus_model c.loop-made.bus; listing = c.loop-made.listing };
  run = record { ticks = c.loop-made._made; bounded = omega arith; ran = c.loop-made.invariant.1; over = inl (omega arith) };
  written = c.loop-made.invariant.2;
  bus = refl;
}

pub loop-made-preserved : goal.loop-made-preserved
loop-made-preserved g c =
    let hs = g.M.Masters.hosts in
    let ds = g.P.Ports.devices in
    let text = c.as_bytes.result.now in
    let shown = c.as_bytes.ensures.value ∙ c.as_str.ensures.value ∙ c.lines-lines.ensures.lines in
    let (before, ran, written) = c.loop-made.invariant in (
      _,
      one_more hs ds c.args.masters _ c.tick-tick.ensures.answered.0 _ _ _ _ _ c.tick-tick.ensures.answered.2 c.step.ensures
          c.arm_all-in-loop-made.ensures
          c.loop-made._made (bus_model c.args.bus.now) before text ran (search rules) c.tick-tick.ensures.answered.1 shown,
      writes_in_calls_append _ _ _ _ _ _ written (writes_in_calls_single _ _ _ _ c.in_default.ensures.taken),
    )

pub returns-in-Err-clause-part : goal.returns-in-Err-clause-part
returns-in-Err-clause-part g c =
    let hs = g.M.Masters.hosts in
    let ds = g.P.Ports.devices in
    let text = c.as_bytes.result.now in
    let shown = c.as_bytes.ensures.value ∙ c.as_str.ensures.value ∙ c.lines-lines.ensures.lines in
    let (before, ran, written) = c.loop-made.invariant in record {
      ticks = c.loop-made._made;
      text = before;
      end = record { bus = bus_model c.loop-made.bus; listing = c.loop-made.listing };
      holds = c.tick-tick.ensures.answered.0;
      between = c.loop-made.out;
      bounded = omega arith;
      ran = ran;
      awake = search rules;
      answered = c.tick-tick.ensures.answered.1;
      written = written;
      failed = subst (λ (x : List ℕ). g.O.Output.fails c.loop-made.out x c.in-Err.error c.put.new.self)
          (lines_are hs ds c.args.masters _ c.tick-tick.ensures.answered.0 _ _ _ _ _ c.tick-tick.ensures.answered.2 c.step.ensures
          c.arm_all-in-loop-made.ensures text shown)
          c.in-Err.ensures.failed;
      bus = ap (λ a. a.bus)
          (ticked_is hs ds c.args.masters _ c.tick-tick.ensures.answered.0 _ _ _ _ _ c.tick-tick.ensures.answered.2 c.step.ensures
          c.arm_all-in-loop-made.ensures);
    }

pub returns-then-at_rest-clause-unheld : goal.returns-then-at_rest-clause-unheld
returns-then-at_rest-clause-unheld g c = λ never.
    puts_all g.M.Masters.hosts g.P.Ports.devices never c.args.masters g.O.Output.takes g.O.Output.fails _ _ _ _ _
    (returns-then-at_rest-clause-all g c)

pub returns-clause-unheld : goal.returns-clause-unheld
returns-clause-unheld g c = λ never.
    puts_all g.M.Masters.hosts g.P.Ports.devices never c.args.masters g.O.Output.takes g.O.Output.fails _ _ _ _ _ (returns-clause-all g c)

pub returns-in-Err-clause-unheld : goal.returns-in-Err-clause-unheld
returns-in-Err-clause-unheld g c = λ never.
    puts_part g.M.Masters.hosts g.P.Ports.devices never c.args.masters g.O.Output.takes g.O.Output.fails _ _ _ _ _ _
    (returns-in-Err-clause-part g c)

pub returns-then-at_rest-clause-only : goal.returns-then-at_rest-clause-only
returns-then-at_rest-clause-only g c = λ one text end run.
    puts_only g.M.Masters.hosts g.P.Ports.devices one c.args.masters g.O.Output.takes g.O.Output.fails _ _ _ _ _ text end run
    (returns-then-at_rest-clause-all g c)

pub returns-clause-only : goal.returns-clause-only
returns-clause-only g c = λ one text end run.
    puts_only g.M.Masters.hosts g.P.Ports.devices one c.args.masters g.O.Output.takes g.O.Output.fails _ _ _ _ _ text end run
    (returns-clause-all g c)

pub returns-in-Err-clause-only : goal.returns-in-Err-clause-only
returns-in-Err-clause-only g c = λ one text end run.
    puts_front g.M.Masters.hosts g.P.Ports.devices one c.args.masters g.O.Output.takes g.O.Output.fails _ _ _ _ _ text end run _
    (returns-in-Err-clause-part g c)

pub returns-then-at_rest-clause-numbers : goal.returns-then-at_rest-clause-numbers
returns-then-at_rest-clause-numbers g c = is_decimal

pub returns-clause-numbers : goal.returns-clause-numbers
returns-clause-numbers g c = is_decimal

pub returns-in-Err-clause-numbers : goal.returns-in-Err-clause-numbers
returns-in-Err-clause-numbers g c = is_decimal
