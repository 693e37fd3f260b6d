-- The making of a bus, and the law over every use from it.
use Rattle.std.proofs.Common.{◌≡◌, ℕ, zero, suc, max, List, [], ◌∷◌, None, refl, ap, sym, subst, arith}
use Rattle.device.specs.Device.{Behaviour}
use Rattle.host.specs.Host.{HostBehaviour}
use Rattle.law.specs.BusModel.{ClocksInRange}
use Rattle.law.specs.Bank.{Bank, bank_map, bank_list}
use Rattle.master.specs.Master.{HostedMaster, reset_hosted_master}
use Rattle.master.specs.MasterState.{new_master}
use Rattle.master.specs.Script.{transfers}
use Rattle.port.specs.Port.{reset_port, PortModel}
use Rattle.law.specs.Use.{Call, Use, use_after, new_entry, addressed_device, new_use}
use Rattle.law.specs.Law.{EveryUse}
use Rattle.transfer.specs.Legal.{IsLegal}
use Rattle.law.specs.Limits.{ticks_of_turn}
use Rattle.law.proofs.Alone.IdleBetweenTurns.{Idle}
use Rattle.law.proofs.Alone.PortsAsSide.{unheld, ports_side, idle_ports}
use Rattle.law.proofs.Machine.BookOfMachine.{count}
use Rattle.law.proofs.Machine.CellsOfTurn.{cell_armeds, Holding}
use Rattle.law.proofs.Machine.Invariant.{Ready, Stands, idle}
use Rattle.law.proofs.Machine.PhasesOfSlot.{Cell, out, looks, idling, Timed, free_bus}
use Rattle.law.proofs.Bus.BookAsMachine.{meanings, tasks, Kept as KeptEntries}
use Rattle.law.proofs.Bus.HoldsAsOne.{longest_hold}
use Rattle.law.proofs.Bus.LawOfUse.{lawful}
use Rattle.law.proofs.Bus.TickAsMachine.{masters_of, seen}
use Rattle.law.proofs.Bus.UseKeepsInvariant.{hosts_of, seen_use, Kept, StandsAt, calls_stay}
use Rattle.law.proofs.Bus.TransfersAsGame.{game}

-- new masters, all of them out
abbrev new_cell : (h : HostBehaviour) → HostedMaster h → Cell transfers
new_cell h x = out (new_master transfers x.master.low x.master.high)

abbrev new_cells : (hs : List HostBehaviour) → Bank HostedMaster hs → List (Cell transfers)
new_cells hs ms = bank_list new_cell hs ms

new_masters : (hs : List HostBehaviour) (ms : Bank HostedMaster hs) →
    masters_of hs (bank_map reset_hosted_master hs ms) ≡ looks transfers (idling transfers) (new_cells hs ms)
new_masters [] ms = refl
new_masters (h ∷ hs) ms = grind (arith, new_masters hs)

new_timed : (hs : List HostBehaviour) (ms : Bank HostedMaster hs) → ClocksInRange hs ms →
    Timed transfers (new_cells hs ms)
new_timed [] ms c = tt
new_timed (h ∷ hs) ms c = grind (arith, new_timed hs)

new_holding : (hs : List HostBehaviour) (ms : Bank HostedMaster hs) → Holding transfers (new_cells hs ms)
new_holding [] ms = tt
new_holding (h ∷ hs) ms = new_holding hs ms.1

new_tasks : (hs : List HostBehaviour) (ms : Bank HostedMaster hs) →
    tasks hs (bank_map new_entry hs ms) ≡ cell_armeds transfers (new_cells hs ms)
new_tasks [] ms = refl
new_tasks (h ∷ hs) ms = ap (λ l. None ∷ l) (new_tasks hs ms.1)

-- nobody is armed
new_ready : (hs : List HostBehaviour) (ms : Bank HostedMaster hs) → Ready IsLegal (tasks hs (bank_map new_entry hs ms))
new_ready [] ms i t e = cc
new_ready (h ∷ hs) ms zero t e = cc
new_ready (h ∷ hs) ms (suc i) t e = new_ready hs ms.1 i t e

new_count : (hs : List HostBehaviour) (ms : Bank HostedMaster hs) → count (tasks hs (bank_map new_entry hs ms)) ≡ 0
new_count [] ms = refl
new_count (h ∷ hs) ms = new_count hs ms.1

new_hosts : (hs : List HostBehaviour) (ms : Bank HostedMaster hs) →
    hosts_of hs (bank_map reset_hosted_master hs ms) ≡ meanings hs (bank_map new_entry hs ms)
new_hosts [] ms = refl
new_hosts (h ∷ hs) ms = ap (λ r. (ms.0.meaning, r)) (new_hosts hs ms.1)

new_kept : (hs : List HostBehaviour) (ms : Bank HostedMaster hs) → KeptEntries hs (bank_map new_entry hs ms)
new_kept [] ms = tt
new_kept (h ∷ hs) ms = (tt, new_kept hs ms.1)

new_ports : (ds : List Behaviour) (ps : Bank PortModel ds) →
    bank_map unheld ds (bank_map reset_port ds ps) ≡ idle_ports ds (bank_map addressed_device ds ps)
new_ports [] ps = refl
new_ports (b ∷ ds) ps = grind (arith, new_ports ds)

new_holds : (ds : List Behaviour) (ps : Bank PortModel ds) → longest_hold ds (bank_map reset_port ds ps) ≡ 0
new_holds [] ps = refl
new_holds (b ∷ ds) ps = ap (λ n. max 0 n) (new_holds ds ps.1)

module _ (hs : List HostBehaviour) (ds : List Behaviour) (ms : Bank HostedMaster hs) (ps : Bank PortModel ds)
    (clocks : ClocksInRange hs ms) where
  abbrev first : Use hs ds
  first = new_use hs ds ms ps

  first_seen : seen hs ds first.bus ≡
      free_bus transfers (ports_side ds) (new_cells hs ms) (idle_ports ds first.book.devices)
  first_seen = λ i. record {
    wire = first.bus.wire;
    masters = new_masters hs ms i;
    side = new_ports ds ps i;
    hold = new_holds ds ps i;
  }

  first_kept : Kept hs ds first ticks_of_turn
  first_kept = record {
    let_go = λ e. new_holds ds ps;
    sound = record { kept = new_kept hs ms; contended = λ e. cc };
    stands =
        subst (λ u. Stands (game ds) IsLegal (Idle ds) (record (seen_use hs ds first) { machine = u }) ticks_of_turn)
        (sym first_seen)
        (idle _ _ _ (new_cells hs ms) (new_tasks hs ms) (new_timed hs ms clocks) (new_holding hs ms)
        (record { devices = first.book.devices; ports_are = refl }) (new_ready hs ms));
    hosts = new_hosts hs ms;
    counts = let z = new_count hs ms in omega arith;
  }

  -- the invariant at every point of every use
  kept_at : (cs : List (Call hs ds)) → (n : ℕ) × Kept hs ds (use_after hs ds first cs) n
  kept_at cs = calls_stay hs ds first cs ticks_of_turn first_kept

  pub every_use_lawful : EveryUse hs ds ms ps
  every_use_lawful cs = let k = kept_at cs in lawful hs ds (use_after hs ds first cs) k.0 k.1

  pub every_use_stands : (cs : List (Call hs ds)) → StandsAt hs ds (use_after hs ds first cs)
  every_use_stands cs = let k = kept_at cs in (k.0, k.1.stands)
