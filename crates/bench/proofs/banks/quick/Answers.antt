use Rattle.std.proofs.Common.{ℕ, subst}
use Rattle.host.specs.contracts.poll_host.PollHostHost.TheImpl.{ghosts}
use Rattle.master.specs.Master.{hosted_master}
use Rattle.support.proofs.Made.{ok_same, unwrapped}
use Rattle.bench.specs.Writer.{WritesForEver}
use Rattle.bench.proofs.banks.quick.Goals as goal

pub returns : goal.returns
returns c = subst (λ (counts : ℕ × ℕ). WritesForEver counts.0 counts.1 80 18 (hosted_master ghosts c.master.result))
    (ok_same (unwrapped (λ k. (k.low, k.high)) _ _ _ c.new.ensures c.unwrap.ensures)) c.master.ensures
