-- The head has one run: each of its devices may always give one answer to hold, and no other.
use Rattle.std.proofs.Common.{◌≡◌, ℕ, List, max, refl, sym, ap, ◌∙◌, arith}
use Rattle.device.specs.EventQueue.{event_queue}
use Rattle.device.specs.Slow.{slow_over}
use Rattle.law.specs.BusModel.{BusModel, HoldAnswers, Answered, tick_at}
use Rattle.support.proofs.Kept.{kept_on}
use Rattle.support.proofs.OneText.{only_run}
use Rattle.support.proofs.SomeRun.{some_run}
use Rattle.support.specs.PrintedRun.{OneHold, Listened, IsOnlyRun}
use Rattle.head.specs.Run.{ticks_of_run}
use Rattle.head.specs.Setup.{head_hosts, head_devices, IsHead}

pub one_hold : OneHold head_devices
one_hold = (
  (λ m h k first second. first ∙ sym second),
  (
    (λ m h k first second. first.2 ∙ (ap (max m.number) (first.1 ∙ sym second.1) ∙ sym second.2)),
    ((λ m h k first second. first ∙ sym second), tt),
  ),
)

-- the number of the slow layer is 5
abbrev HoldsFive : BusModel head_hosts head_devices → Type 0
HoldsFive u = u.ports.1.0.meaning.number ≡ 5

still_five : (u : BusModel head_hosts head_devices) (h : HoldAnswers head_devices) → HoldsFive u →
    HoldsFive (tick_at head_hosts head_devices u h).1
still_five u h five =
    kept_on (slow_over event_queue) (λ m. m.number ≡ 5) (λ m d e. e) (λ m x e. e) (λ m e. e) (λ m e. e) u.ports.1.0 five h.1.0.0 _ _

abbrev answers : HoldAnswers head_devices
answers = ((0, omega arith), ((5, omega arith), ((0, omega arith), tt)))

may_answer : (u : BusModel head_hosts head_devices) → HoldsFive u → Answered head_hosts head_devices u answers
may_answer u five = (
  (λ asked. refl),
  ((λ asked. (0, refl, sym (ap (λ n. max n 0) (still_five u answers five)))), ((λ asked. refl), tt)),
)

pub one_run : (u : BusModel head_hosts head_devices) → IsHead u →
    (text : List ℕ) × (end : Listened head_hosts head_devices) × IsOnlyRun head_hosts head_devices 3 ticks_of_run u text end
one_run u (a, b, c, lists, polls, more, is) =
    let (text, end, run) = some_run head_hosts head_devices 3 HoldsFive (λ v five. (answers, may_answer v five)) still_five ticks_of_run u
    (ap (λ v. v.ports.1.0.meaning.number) is) in
    (text, end, only_run head_hosts head_devices one_hold 3 ticks_of_run u text end run)
