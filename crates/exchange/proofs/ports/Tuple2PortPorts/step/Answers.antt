use Rattle.exchange.proofs.ports.Tuple2PortPorts.step.Goals as goal

pub returns : goal.returns
returns g c =
    let first = c.step.ensures in
    let rest = c.step-2.ensures in
    (((first.0, first.1), rest.0), (first.2.0, rest.1), λ i. (first.2.2 i, rest.2 i), (first.2.1, rest.3))
