use Rattle.exchange.proofs.masters.Tuple2MasterMasters.arm.Goals as goal

pub returns-then-master-eq0-clause-same : goal.returns-then-master-eq0-clause-same
returns-then-master-eq0-clause-same g c = (c.arm.ensures.same, g.met.B.Masters.same_hosts_refl c.args.self.now.1)
