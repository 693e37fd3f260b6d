use Rattle.std.proofs.Common.{append_assoc}
use Rattle.transfer.proofs.outcome.Outcome.push_to.Goals as goal

pub returns-in-NoAnswer-clause-text : goal.returns-in-NoAnswer-clause-text
returns-in-NoAnswer-clause-text g c = rw (c.in-NoAnswer.is, c.push_to.ensures.text, c.push_str-in-NoAnswer.ensures.bytes, append_assoc) (cc)
