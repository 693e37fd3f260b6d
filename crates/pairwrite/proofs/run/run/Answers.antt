use Rattle.std.proofs.Common.{◌≡◌, [], inr, sym, ap, ◌∙◌, subst}
use Rattle.std.proofs.Output.{writes_in_calls_nil}
use Rattle.exchange.specs.Bus.{bus_model}
use Rattle.support.specs.Output.{Puts}
use Rattle.support.specs.PrintedRun.{listened_start, unheld_lines}
use Rattle.pairwrite.specs.Run.{ticks_of_run, run_lines}
use Rattle.pairwrite.specs.Setup.{pair_hosts, pair_devices}
use Rattle.pairwrite.proofs.Texts.{none, two}
use Rattle.pairwrite.proofs.run.run.Goals as goal

pub returns-in_default : goal.returns-in_default
returns-in_default g c =
    let (xs, reads, is) = c.in_ok-bytes.ensures.read in
    inr (xs, [], reads, none xs (sym c.in_default.is ∙ is), writes_in_calls_nil g.O.Output.takes _)

pub returns : goal.returns
returns g c =
    let (xs, reads, is) = c.in_ok-bytes.ensures.read in
    let (m, n, first, second, bus_is) = c.bus_of-bus.ensures in
    let hs = pair_hosts in
    let ds = pair_devices in
    let text : unheld_lines hs ds 2 c.ticks_of_turns.result (listened_start hs ds 2 (bus_model c.bus_of-bus.result)) ≡ run_lines m n =
    rw c.ticks_of_turns.ensures (ap (λ u. unheld_lines hs ds 2 ticks_of_run (listened_start hs ds 2 u)) bus_is) in
    inr (
      xs,
      run_lines m n,
      reads,
      two xs c.in-Some.bytes m n (sym c.in-Some.is ∙ is) first second,
      subst (λ x. Puts g.O.Output.takes g.O.Output.fails x c.args.out.now c.print_run.result c.print_run.new.out) text
          (c.print_run.ensures.unheld ((λ meaning h e. e), tt)),
    )
