use Rattle.host.specs.PollHost.{poll_host_model}
use Rattle.support.proofs.Made.{ok_same, unwrapped}
use Rattle.bench.proofs.Writers.{writes_for_ever}
use Rattle.bench.proofs.banks.master.Goals as goal

pub returns : goal.returns
returns c =
    let made = c.writer.ensures in
    writes_for_ever _ made.0 _ _ _ _ 80 _ c.new-2.ensures.made made.1
    (ok_same (unwrapped (λ a. a.number) _ _ _ c.new.ensures c.unwrap-first.ensures))
    (unwrapped poll_host_model _ _ _ made.2 c.unwrap.ensures)
