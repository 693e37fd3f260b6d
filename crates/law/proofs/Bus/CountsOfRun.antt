-- Who is armed, who pulls and who is marked, bank by list; and what a run counts.
use Rattle.std.proofs.lemmas.List.Folds.{fold-map}
use Rattle.std.proofs.Common.{◌≡◌, ℕ, zero, suc, ◌+◌, Bool, false, cond, ◌||◌, List, [], ◌∷◌, map, is_some, Option, refl, ap, arith, ◌∙◌}
use Rattle.std.proofs.Common.{sym}
use Rattle.std.specs.Prelude.{slice_index_or}
use Rattle.device.specs.Device.{Behaviour}
use Rattle.host.specs.Host.{HostBehaviour}
use Rattle.master.specs.declared.mark.Mark.TheVariants.{Quiet, Lost}
use Rattle.wire.specs.declared.wire.Signal.{Signal}
use Rattle.law.specs.Bank.{Bank, bank_map, bank_list, any_true}
use Rattle.law.specs.Book.{Entry, entry_is_armed}
use Rattle.law.specs.BusModel.{HoldAnswers, tick_at, told_at, is_at_rest}
use Rattle.master.specs.Master.{HostedMaster, hosted_is_armed, hosted_mark, hosted_pulls}
use Rattle.law.specs.TransferResult.{AddressedDevice}
use Rattle.law.specs.Use.{Use, use_after_tick, use_after_ticks, ticks_of_run, addressed_device}
use Rattle.law.specs.Law.{true_count}
use Rattle.master.specs.MasterState.{quiet, lost}
use Rattle.port.specs.Port.{PortModel}
use Rattle.law.specs.RunModel.{some_count, Running, run_after_ticks}
use Rattle.master.specs.Script.{transfers}
use Rattle.wire.specs.Pulls.{no_pulls}
use Rattle.law.proofs.Alone.PortsAsSide.{unheld, idle_ports}
use Rattle.law.proofs.Machine.BusAsMachine.{verdicts}
use Rattle.law.proofs.Machine.BookOfMachine.{any, count, armeds, pulling}
use Rattle.law.proofs.Bus.BookAsMachine.{tasks, Kept}
use Rattle.law.proofs.Bus.TickAsMachine.{masters_of}
use Rattle.law.proofs.Bus.MonitorAsMachine.{how_many_is}

abbrev pub somes : {A : Type 0} → List (Option A) → List Bool
somes l = map is_some l

pub count_somes : {A : Type 0} (l : List (Option A)) → count l ≡ true_count (somes l)
count_somes l = sym (fold-map (λ n v. n + cond v 1 0) is_some 0 l ∙ how_many_is l)

pub any_somes : {A : Type 0} (l : List (Option A)) → any l ≡ any_true (somes l)
any_somes [] = refl
any_somes (o ∷ l) = ap (λ v. is_some o || v) (any_somes l)

pub masters_armed : (hs : List HostBehaviour) (ms : Bank HostedMaster hs) →
    somes (armeds transfers (masters_of hs ms)) ≡ bank_list hosted_is_armed hs ms
masters_armed [] ms = refl
masters_armed (h ∷ hs) ms = grind (arith, masters_armed hs ms.1)

pub entries_armed : (hs : List HostBehaviour) (es : Bank Entry hs) → Kept hs es → somes (tasks hs es) ≡ bank_list entry_is_armed hs es
entries_armed [] es k = refl
entries_armed (h ∷ hs) es k = grind (arith, entries_armed hs es.1 k.1)

pub pulls_none : (hs : List HostBehaviour) (ms : Bank HostedMaster hs) (i : ℕ) → pulling transfers (masters_of hs ms) i ≡ false →
    slice_index_or (bank_list hosted_pulls hs ms) i no_pulls ≡ no_pulls
pulls_none [] ms i e = refl
pulls_none (h ∷ hs) ms zero e = grind arith
pulls_none (h ∷ hs) ms (suc i) e = pulls_none hs ms.1 i e

pub lost_at : (hs : List HostBehaviour) (ms : Bank HostedMaster hs) (s : Signal) (i : ℕ) →
    slice_index_or (bank_list (λ h. hosted_mark h s) hs ms) i Quiet ≡ Lost →
    slice_index_or (verdicts transfers (masters_of hs ms) s) i quiet ≡ lost
lost_at [] ms s i e = cc
lost_at (h ∷ hs) ms s zero e = grind arith
lost_at (h ∷ hs) ms s (suc i) e = lost_at hs ms.1 s i e

module _ (hs : List HostBehaviour) (ds : List Behaviour) where
  pub placed_back : (es : List Behaviour) (p : Bank PortModel es) (d : Bank AddressedDevice es) → bank_map unheld es p ≡ idle_ports es d →
      bank_map addressed_device es p ≡ d
  placed_back [] p d e = refl
  placed_back (b ∷ es) p d e =
      λ i. (record { address = (e i).0.address; meaning = (e i).0.meaning }, placed_back es p.1 d.1 (λ j. (e j).1) i)

  abbrev runner : Use hs ds → ℕ → ℕ → ℕ → Running hs ds
  runner x t o z = record { bus = x.bus; ticks = t; outcomes = o; busy = z }

  pub record Counts (x y : Use hs ds) (t o m : ℕ) (r : Running hs ds) : Type 0 where
    pub outcomes_are : y.told + o ≡ x.told + r.outcomes
    pub ticks_are : m + t ≡ r.ticks
    pub bus_is : y.bus ≡ r.bus

  either_counts : (v : Bool) (x y : Use hs ds) (t o m : ℕ) (q r : Running hs ds) → Counts x x t o 0 q → Counts x y t o m r →
      Counts x (cond v x y) t o (cond v 0 m) (cond v q r)
  either_counts v x y t o m q r h k = grind arith

  pub run_counts : (n t o z : ℕ) (a : ℕ → HoldAnswers ds) (x : Use hs ds) →
      Counts x (use_after_ticks hs ds n t a x) t o (ticks_of_run hs ds n t a x) (run_after_ticks hs ds n a (runner x t o z))
  run_counts zero t o z a x = record { outcomes_are = refl; ticks_are = omega arith; bus_is = refl }
  run_counts (suc n) t o z a x =
      let y = use_after_tick hs ds x (a t) in
      let m = some_count (told_at hs ds x.bus) in
      let b = z + cond (tick_at hs ds x.bus (a t)).1.wire.busy 1 0 in
      let more = run_counts n (suc t) (o + m) b a y in
      let p = more.outcomes_are in
      let q = more.ticks_are in
      either_counts (is_at_rest hs ds x.bus) x (use_after_ticks hs ds n (suc t) a y) t o (suc (ticks_of_run hs ds n (suc t) a y))
      (runner x t o z) (run_after_ticks hs ds n a (runner y (suc t) (o + m) b))
      (record { outcomes_are = refl; ticks_are = omega arith; bus_is = refl })
      (record { outcomes_are = omega arith; ticks_are = omega arith; bus_is = more.bus_is })
