use Rattle.std.proofs.Common.{◌∙◌, ℕ, List, [], subst}
use Rattle.std.proofs.Output.{writes_in_calls_nil}
use Rattle.support.proofs.Writing.{puts_more}
use Rattle.support.specs.Output.{Puts}
use Rattle.examples.proofs.run.run.Goals as goal

pub returns : goal.returns
returns g c =
    let (text, joined, examples, is_joined, whole) = c.lines.ensures in
    let all = c.as_bytes.ensures.value ∙ (c.as_str.ensures.value ∙ whole) in (
      text,
      joined,
      examples,
      is_joined,
      subst (λ (x : List ℕ). Puts g.O.Output.takes g.O.Output.fails x c.args.out.now c.put.result c.put.new.self) all
          (puts_more g.O.Output.takes g.O.Output.fails [] _ _ _ _ _
          (writes_in_calls_nil g.O.Output.takes _) c.put.ensures.taken c.put.ensures.failed),
    )
