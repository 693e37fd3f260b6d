-- A tick put together from what its parts did.
use Rattle.std.proofs.Common.{◌≡◌, List, replicate}
use Rattle.device.specs.Device.{Behaviour}
use Rattle.host.specs.Host.{HostBehaviour}
use Rattle.master.specs.declared.mark.Mark.{Mark}
use Rattle.master.specs.declared.mark.Mark.TheVariants.{Quiet}
use Rattle.wire.specs.declared.levels.Levels.{Levels}
use Rattle.wire.specs.declared.pulls.Pulls.{Pulls}
use Rattle.wire.specs.declared.wire.Signal.{Signal}
use Rattle.wire.specs.declared.wire.Wire.{Wire}
use Rattle.law.specs.Bank.{Bank, bank_map, bank_list}
use Rattle.law.specs.Limits.{most_masters}
use Rattle.law.specs.BusModel.{marks_over, HoldAnswers, ports_step, BusModel, levels_at, tick_at}
use Rattle.master.specs.Master.{HostedMaster, hosted_step, hosted_mark}
use Rattle.port.specs.Port.{PortModel}
use Rattle.wire.specs.Pulls.{pulls_or, levels_of}
use Rattle.wire.specs.Wire.{signal, wire_after}

-- the levels that the pulls of all masters and of all ports give
pub levels_are : (v : Levels) (r m n p q : Pulls) → v ≡ levels_of r → r ≡ pulls_or m p → m ≡ n → p ≡ q → v ≡ levels_of (pulls_or n q)
levels_are v r m n p q of_all of_both masters_are ports_are = rw (of_all, of_both, masters_are, ports_are)

pub tick_is : (hs : List HostBehaviour) (ds : List Behaviour) (u : BusModel hs ds) (v : Levels) (s : Signal) (w : Wire)
    (ms : Bank HostedMaster hs) (ks : List Mark) (ps : Bank PortModel ds) (a : HoldAnswers ds) →
    v ≡ levels_at hs ds u → s ≡ signal u.wire v → w ≡ wire_after u.wire v →
    ms ≡ bank_map (λ h. hosted_step h s) hs u.masters →
    ks ≡ marks_over (bank_list (λ h. hosted_mark h s) hs u.masters) (replicate most_masters Quiet) →
    ps ≡ ports_step ds u.ports s a →
    (record { levels = v; event = s.event; marks = ks }, record { wire = w; masters = ms; ports = ps }) ≡ tick_at hs ds u a
tick_is hs ds u v s w ms ks ps a levels_is signal_is wire_is masters_is marks_is ports_is =
    rw (masters_is, marks_is, ports_is, wire_is, signal_is, levels_is)
