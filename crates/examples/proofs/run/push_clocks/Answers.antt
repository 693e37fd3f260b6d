use Rattle.std.proofs.Common.{append_assoc}
use Rattle.examples.proofs.run.push_clocks.Goals as goal

pub returns-clause-text : goal.returns-clause-text
returns-clause-text g c =
    rw (
      c.push_to-4.ensures.text,
      c.push_str-3.ensures.bytes,
      c.push_to-3.ensures.text,
      c.push_str-2.ensures.bytes,
      c.push_to-2.ensures.text,
      c.push_str.ensures.bytes,
      c.push_to.ensures.text,
    )
    (simp append_assoc (cc))
