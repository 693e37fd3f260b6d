use Rattle.std.proofs.Common.{Ok, ap}
use Rattle.support.proofs.Made.{ok_same}
use Rattle.bench.proofs.writer.writer.Goals as goal

pub returns : goal.returns
returns c = (c.in_ok-write.write, ok_same c.in_ok-write.ensures, ap Ok c.new.ensures)
