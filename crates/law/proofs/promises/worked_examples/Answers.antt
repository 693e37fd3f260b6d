use Rattle.law.proofs.ExamplesHold.{worked_examples}
use Rattle.law.proofs.promises.worked_examples.Goals as goal

pub returns : goal.returns
returns c = worked_examples
