-- The bus as a machine, and a tick of both.
use Rattle.std.proofs.Common.{◌≡◌, ℕ, ◌≤◌, Bool, true, not, ◌||◌, ltb, List, [], ◌∷◌, Option, refl, ap, ◌∙◌, ap₂, arith}
use Rattle.std.proofs.lemmas.Bool.Decides.{nat_tests}
use Rattle.device.specs.Device.{Behaviour}
use Rattle.host.specs.Host.{HostBehaviour}
use Rattle.wire.specs.declared.event.Event.TheVariants.{Fall}
use Rattle.wire.specs.declared.levels.Levels.{Levels}
use Rattle.wire.specs.declared.wire.Signal.{Signal}
use Rattle.law.specs.Bank.{Bank, bank_map, bank_list}
use Rattle.law.specs.BusModel.{all_pulls, HoldAnswers, ports_step, BusModel, levels_at, tick_at}
use Rattle.transfer.specs.Limits.{most_count}
use Rattle.master.specs.Master.{HostedMaster, hosted_step, hosted_pulls}
use Rattle.master.specs.MasterState.{MasterModel}
use Rattle.port.specs.Port.{port_pulls}
use Rattle.master.specs.Script.{transfers}
use Rattle.wire.specs.Pulls.{pulls_or, levels_of}
use Rattle.wire.specs.Event.{line_event, event_between}
use Rattle.wire.specs.Wire.{signal, wire_after}
use Rattle.law.proofs.Alone.PortsAsSide.{unheld, ports_side, side_follows, side_pulls}
use Rattle.law.proofs.Machine.BusAsMachine.{Bus, masters_pull, masters_step, hold_after, levels, after, tick}
use Rattle.law.proofs.Bus.HoldsAsOne.{longest_hold, held, asked_hold, hold_follows, answers_small}

abbrev pub master_of : (h : HostBehaviour) → HostedMaster h → MasterModel transfers
master_of h x = x.master

abbrev pub masters_of : (hs : List HostBehaviour) → Bank HostedMaster hs → List (MasterModel transfers)
masters_of hs ms = bank_list master_of hs ms

pulls_of : (hs : List HostBehaviour) (ms : Bank HostedMaster hs) →
    all_pulls (bank_list hosted_pulls hs ms) ≡ masters_pull transfers (masters_of hs ms)
pulls_of [] ms = refl
pulls_of (h ∷ hs) ms = grind (arith, pulls_of hs)

steps_of : (hs : List HostBehaviour) (ms : Bank HostedMaster hs) (s : Signal) →
    masters_of hs (bank_map (λ h. hosted_step h s) hs ms) ≡ masters_step transfers (masters_of hs ms) s
steps_of [] ms s = refl
steps_of (h ∷ hs) ms s = grind (arith, steps_of hs)

module _ (hs : List HostBehaviour) (ds : List Behaviour) where
  abbrev pub seen : BusModel hs ds → Bus transfers (ports_side ds)
  seen u = record {
    wire = u.wire;
    masters = masters_of hs u.masters;
    side = bank_map unheld ds u.ports;
    hold = longest_hold ds u.ports;
  }

  -- where SCL was high in the last tick, nobody holds it
  abbrev pub LetGo : BusModel hs ds → Type 0
  LetGo u = u.wire.last.scl ≡ true → longest_hold ds u.ports ≡ 0

  pub levels_seen : (u : BusModel hs ds) → levels_at hs ds u ≡ levels transfers (ports_side ds) (seen u)
  levels_seen u =
      let m = pulls_of hs u.masters in
      let c = held ds u.ports in
      let d = side_pulls ds u.ports in
      ap₂ (λ p q. levels_of (pulls_or p q)) m (λ i. record { scl = c i; sda = d i })

  falls_from_high : (a b : Levels) → event_between a b ≡ Fall → a.scl ≡ true
  falls_from_high a b h = grind arith

  -- what the ports are asked for in the next tick
  abbrev pub answer_at : BusModel hs ds → HoldAnswers ds → ℕ
  answer_at u a = let s = signal u.wire (levels_at hs ds u) in asked_hold s.event s.bit (longest_hold ds (ports_step ds u.ports s a))

  pub answer_small : (u : BusModel hs ds) (a : HoldAnswers ds) → LetGo u → answer_at u a ≤ most_count
  answer_small u a h = let s = signal u.wire (levels_at hs ds u) in
      answers_small ds u.ports s.event s.bit s.free_and_high a (λ e. h (falls_from_high u.wire.last (levels_at hs ds u) e))

  -- a tick of the bus is a tick of the machine
  pub tick_seen : (u : BusModel hs ds) (a : HoldAnswers ds) → LetGo u →
      seen (tick_at hs ds u a).1 ≡ tick transfers (ports_side ds) (seen u) (answer_at u a)
  tick_seen u a h =
      let v = levels_at hs ds u in
      let s = signal u.wire v in
      let masters_go = steps_of hs u.masters s in
      let side_goes = side_follows ds u.ports s a in
      let hold_goes = hold_follows ds u.ports s.event s.bit s.free_and_high a (λ e. h (falls_from_high u.wire.last v e)) in
      (λ i. record { wire = wire_after u.wire v; masters = masters_go i; side = side_goes i; hold = hold_goes i })
      ∙ ap (λ w. after transfers (ports_side ds) (seen u) w (answer_at u a)) (levels_seen u)

  -- SCL that is high now is held by nobody, and no step then begins to hold it
  pub still_let_go : (u : BusModel hs ds) (a : HoldAnswers ds) → LetGo u → LetGo (tick_at hs ds u a).1
  still_let_go u a h k =
      let v = levels_at hs ds u in
      let s = signal u.wire v in
      let hold_goes = hold_follows ds u.ports s.event s.bit s.free_and_high a (λ e. h (falls_from_high u.wire.last v e)) in
      let free : longest_hold ds u.ports ≡ 0 =
      nobody (all_pulls (bank_list hosted_pulls hs u.masters)).scl (all_pulls (bank_list port_pulls ds u.ports)).scl
      (longest_hold ds u.ports) (held ds u.ports) k in
      hold_goes ∙ (kept u.wire.last.scl v.scl u.wire.last.sda v.sda (longest_hold ds u.ports) s.bit (answer_at u a) k ∙ free) where
        nobody : (p q : Bool) (n : ℕ) → q ≡ ltb 0 n → not (p || q) ≡ true → n ≡ 0
        nobody p q n e h = grind (arith, nat_tests)

        kept : (c d x y : Bool) (n : ℕ) (o : Option Bool) (h : ℕ) → d ≡ true → hold_after n (line_event c d x y) o h ≡ n
        kept c d x y n o h k = grind arith
