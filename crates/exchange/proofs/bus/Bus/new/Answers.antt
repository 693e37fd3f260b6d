use Rattle.law.proofs.Alone.ByteLawsHold.{byte_laws}
use Rattle.law.proofs.Alone.StringLawsHold.{string_laws}
use Rattle.law.proofs.Asked.EveryAskedHolds.{every_asked}
use Rattle.law.proofs.Bus.EveryUseLawful.{every_use_lawful}
use Rattle.std.proofs.Common.{rules}
use Rattle.exchange.proofs.bus.Bus.new.Goals as goal

pub returns : goal.returns
returns g c =
    let hs = g.M.Masters.hosts in
    let ds = g.P.Ports.devices in
    let masters = g.M.Masters.model c.args.masters in
    let ports = g.P.Ports.model c.args.ports in
    let clocks = g.met.M.Masters.clocks_in_range c.args.masters in
    record {
      made = search rules;
      law = every_use_lawful hs ds masters ports clocks;
      strings = string_laws ds ds;
      bytes = byte_laws ds;
      hosts = search rules;
      devices = search rules;
      asked = every_asked hs ds masters ports clocks;
    }
