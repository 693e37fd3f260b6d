use Rattle.std.proofs.Common.{◌∙◌, ◌++◌, sym, ap, subst}
use Rattle.exchange.specs.Bus.{bus_model}
use Rattle.support.proofs.OneText.{only_run}
use Rattle.support.proofs.Writing.{puts_more, puts_less}
use Rattle.support.specs.Output.{Puts}
use Rattle.support.specs.PrintedRun.{IsRun}
use Rattle.head.proofs.OneRun.{one_hold, one_run}
use Rattle.head.specs.Run.{end_text}
use Rattle.head.specs.Setup.{head_hosts, head_devices}
use Rattle.head.proofs.run.run.Goals as goal

pub returns-in-Err : goal.returns-in-Err
returns-in-Err g c =
    let u = bus_model c.head_bus-bus.result in
    let (text, end, one) = one_run u c.head_bus-bus.ensures in
    let run = subst (λ n. IsRun head_hosts head_devices 3 n u text end) (sym c.ticks_of_turns.ensures) one.run in (
      u,
      c.head_bus-bus.ensures,
      text,
      end,
      one,
      puts_less g.O.Output.takes g.O.Output.fails text (end_text end.bus) _ _ _ (c.in-Err.ensures.only one_hold text end run),
    )

pub returns : goal.returns
returns g c =
    let u = bus_model c.head_bus-bus.result in
    let p = c.in_default.ensures.all in
    let end_is = c.as_bytes.ensures.value ∙ c.as_str.ensures.value ∙ c.end_lines-end.ensures ∙ ap end_text p.bus in (
      u,
      c.head_bus-bus.ensures,
      p.text,
      p.end,
      only_run head_hosts head_devices one_hold 3 _ u p.text p.end
          (subst (λ n. IsRun head_hosts head_devices 3 n u p.text p.end) c.ticks_of_turns.ensures p.run),
      subst (λ x. Puts g.O.Output.takes g.O.Output.fails (p.text ++ x) c.args.out.now c.put.result c.put.new.self) end_is
          (puts_more g.O.Output.takes g.O.Output.fails _ _ _ _ _ _ p.written c.put.ensures.taken c.put.ensures.failed),
    )
