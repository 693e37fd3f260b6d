-- What the monitor notes, as the machine's monitor notes it.
use Rattle.std.proofs.lemmas.List.Sums.{sum_by-cons}
use Rattle.std.proofs.Common.{◌≡◌, Bool, true, false, cond, List, [], ◌∷◌, Some, None, Option, sym, refl, ap, ◌∙◌, arith, is_some}
use Rattle.device.specs.Device.{Behaviour}
use Rattle.host.specs.Host.{HostBehaviour}
use Rattle.wire.specs.declared.event.Event.{Event}
use Rattle.wire.specs.declared.event.Event.TheVariants.{Rise, Fall, Start, Stop, SteadyHigh, SteadyLow}
use Rattle.wire.specs.declared.wire.Signal.{Signal}
use Rattle.law.specs.Bank.{Bank, bank_map, bank_list, any_true}
use Rattle.law.specs.Book.{Entry, entry_contending, entry_is_armed, Turn, closed, opened, is_open, Book}
use Rattle.master.specs.Master.{HostedMaster, hosted_mark, hosted_told, told_outcome}
use Rattle.law.specs.Monitor.{Monitor, new_monitor, marked_after}
use Rattle.law.specs.Use.{monitor_with_event}
use Rattle.master.specs.MasterState.{VerdictModel}
use Rattle.law.specs.RunModel.{some_count}
use Rattle.master.specs.Script.{transfers}
use Rattle.law.proofs.Machine.BookOfMachine.{count, monitor_at, spell, falses, turned, marks_too, telling, tellings}
use Rattle.law.proofs.Machine.BusAsMachine.{verdicts}
use Rattle.law.proofs.Bus.BookAsMachine.{tasks, contenders, turn_if, Kept, any_armed, Sound}
use Rattle.law.proofs.Bus.TickAsMachine.{masters_of}

falses_are : (hs : List HostBehaviour) (es : Bank Entry hs) → bank_list (λ h x. false) hs es ≡ falses (tasks hs es)
falses_are [] es = refl
falses_are (h ∷ hs) es = ap (λ l. false ∷ l) (falses_are hs es.1)

module _ (hs : List HostBehaviour) (ds : List Behaviour) where
  opening_as : (w : Monitor) (b : Book hs ds) (v : Bool) →
      cond (is_open (cond {A = Book hs ds} v
      (record { entries = bank_map entry_contending hs b.entries; devices = b.devices; turn = opened })
      (record { entries = b.entries; devices = b.devices; turn = closed })).turn)
      (new_monitor (bank_list (λ h x. false) hs b.entries)) w ≡
      cond v (monitor_at 0 false (falses (tasks hs b.entries)) (spell None [])) w
  opening_as w b true = ap (λ l. monitor_at 0 false l (spell None [])) (falses_are hs b.entries)
  opening_as w b false = refl

  closed_as : (w : Monitor) (b : Book hs ds) (e : Event) → Kept hs b.entries →
      monitor_with_event hs ds w (record { entries = b.entries; devices = b.devices; turn = closed }) e ≡
      turned transfers w (tasks hs b.entries) None e
  closed_as w b SteadyHigh k = opening_as w b (any_true (bank_list entry_is_armed hs b.entries))
      ∙ ap (λ v. cond v (monitor_at 0 false (falses (tasks hs b.entries)) (spell None [])) w) (sym (any_armed hs b.entries k))
  closed_as w b Fall k = refl
  closed_as w b (Rise x) k = refl
  closed_as w b Start k = refl
  closed_as w b Stop k = refl
  closed_as w b SteadyLow k = refl

  watched_parts : (w : Monitor) (b : Book hs ds) (v : Turn) (e : Event) → Kept hs b.entries →
      monitor_with_event hs ds w (record { entries = b.entries; devices = b.devices; turn = v }) e ≡
      turned transfers w (tasks hs b.entries) (turn_if v (contenders hs b.entries)) e
  watched_parts w b opened e k = refl
  watched_parts w b closed e k = closed_as w b e k

  pub watched_as : (w : Monitor) (b : Book hs ds) (e : Event) → Sound hs ds b →
      monitor_with_event hs ds w b e ≡ turned transfers w (tasks hs b.entries) (turn_if b.turn (contenders hs b.entries)) e
  watched_as w b e k = watched_parts w b b.turn e k.kept

-- marks by verdicts
pub marked_as : (hs : List HostBehaviour) (ms : Bank HostedMaster hs) (s : Signal) (vs : List Bool) →
    marked_after vs (bank_list (λ h. hosted_mark h s) hs ms) ≡ marks_too transfers vs (verdicts transfers (masters_of hs ms) s)
marked_as [] ms s [] = refl
marked_as [] ms s (v ∷ vs) = refl
marked_as (h ∷ hs) ms s [] = refl
marked_as (h ∷ hs) ms s (v ∷ vs) = grind (arith, marked_as hs ms.1 s vs)

told_one : (k : VerdictModel transfers) → told_outcome k ≡ telling transfers k
told_one k = grind arith

pub told_as : (hs : List HostBehaviour) (ms : Bank HostedMaster hs) (s : Signal) →
    bank_list (λ h. hosted_told h s) hs ms ≡ tellings transfers (verdicts transfers (masters_of hs ms) s)
told_as [] ms s = refl
told_as (h ∷ hs) ms s = grind (arith, told_as hs)

pub how_many_is : {A : Type 0} (l : List (Option A)) → some_count l ≡ count l
how_many_is [] = refl
how_many_is (None ∷ l) = how_many_is l
how_many_is (Some a ∷ l) = omega (arith, how_many_is l, sum_by-cons (λ o. cond (is_some o) 1 0) (Some a) l)
