-- How long the ports together hold SCL: the largest hold of all.
use Rattle.std.proofs.Common.{◌≡◌, ℕ, ◌-◌, ◌≤◌, max, Bool, ◌||◌, ltb, List, [], ◌∷◌, Some, None, Option, refl, ap, ◌∙◌, arith}
use Rattle.std.proofs.lemmas.Bool.Decides.{nat_tests}
use Rattle.device.specs.Device.{Behaviour}
use Rattle.port.specs.declared.port.Mode.{Mode}
use Rattle.wire.specs.declared.event.Event.{Event}
use Rattle.wire.specs.declared.event.Event.TheVariants.{Rise, Fall, Start, Stop, SteadyHigh, SteadyLow}
use Rattle.law.specs.Bank.{Bank, bank_list}
use Rattle.law.specs.BusModel.{all_pulls, HoldAnswers, ports_step}
use Rattle.transfer.specs.Limits.{most_count}
use Rattle.port.specs.Port.{PortModel, port_pulls, port_after_bit}
use Rattle.law.proofs.Machine.BusAsMachine.{hold_after}

abbrev pub longest_hold : (ds : List Behaviour) → Bank PortModel ds → ℕ
longest_hold [] p = 0
longest_hold (b ∷ ds) p = max p.0.hold (longest_hold ds p.1)

either_held : (m n : ℕ) → (ltb 0 m || ltb 0 n) ≡ ltb 0 (max m n)
either_held m n = grind (arith, nat_tests)

-- SCL is pulled exactly while some port holds it
pub held : (ds : List Behaviour) (p : Bank PortModel ds) → (all_pulls (bank_list port_pulls ds p)).scl ≡ ltb 0 (longest_hold ds p)
held [] p = refl
held (b ∷ ds) p = ap (λ v. ltb 0 p.0.hold || v) (held ds p.1) ∙ either_held p.0.hold (longest_hold ds p.1)

-- what is asked for where a bit counts
abbrev pub asked_hold : Event → Option Bool → ℕ → ℕ
asked_hold Fall None n = 0
asked_hold Fall (Some x) n = n
asked_hold Start o n = 0
asked_hold Stop o n = 0
asked_hold SteadyLow o n = 0
asked_hold SteadyHigh o n = 0
asked_hold (Rise x) o n = 0

lowered : (ds : List Behaviour) (p : Bank PortModel ds) (o : Option Bool) (i : Bool) (a : HoldAnswers ds) →
    longest_hold ds (ports_step ds p (record { event = SteadyLow; bit = o; free_and_high = i }) a) ≡ longest_hold ds p - 1
lowered [] p o i a = refl
lowered (b ∷ ds) p o i a = omega (arith, lowered ds p.1 o i a.1)

-- an event that asks nothing leaves the holds
still : (ds : List Behaviour) (p : Bank PortModel ds) (e : Event) (o : Option Bool) (i : Bool) (a : HoldAnswers ds) →
    (e ≡ SteadyLow → ⊥) → asked_hold e o 1 ≡ 0 →
    longest_hold ds (ports_step ds p (record { event = e; bit = o; free_and_high = i }) a) ≡ longest_hold ds p
still [] p e o i a n q = refl
still (b ∷ ds) p e o i a n q = grind (arith, still ds p.1 e o i a.1 n q)

-- the ports' hold goes as the side's, with what they are asked for; where SCL was high nobody held
pub hold_follows : (ds : List Behaviour) (p : Bank PortModel ds) (e : Event) (o : Option Bool) (i : Bool) (a : HoldAnswers ds) →
    (e ≡ Fall → longest_hold ds p ≡ 0) →
    longest_hold ds (ports_step ds p (record { event = e; bit = o; free_and_high = i }) a) ≡
    hold_after (longest_hold ds p) e o
    (asked_hold e o (longest_hold ds (ports_step ds p (record { event = e; bit = o; free_and_high = i }) a)))
hold_follows ds p e o i a h = grind (arith, still ds p e o i a, lowered ds p o i a)

module _ (b : Behaviour) where
  small_counts : (p : PortModel b) (m : Mode) (x : Bool) (h : ℕ) → p.hold ≤ most_count → h ≤ most_count →
      (port_after_bit b p m x h).hold ≤ most_count
  small_counts p m x h k e = grind arith

-- a hold that is asked for is at most most_count
asked_small : (ds : List Behaviour) (p : Bank PortModel ds) (x i : Bool) (a : HoldAnswers ds) → longest_hold ds p ≤ most_count →
    longest_hold ds (ports_step ds p (record { event = Fall; bit = Some x; free_and_high = i }) a) ≤ most_count
asked_small [] p x i a h = omega arith
asked_small (b ∷ ds) p x i a h =
    let one = small_counts b p.0 p.0.mode x a.0.0 (omega arith) (omega (arith, a.0.1)) in
    let rest = asked_small ds p.1 x i a.1 (omega arith) in
    omega arith

pub answers_small : (ds : List Behaviour) (p : Bank PortModel ds) (e : Event) (o : Option Bool) (i : Bool) (a : HoldAnswers ds) →
    (e ≡ Fall → longest_hold ds p ≡ 0) →
    asked_hold e o (longest_hold ds (ports_step ds p (record { event = e; bit = o; free_and_high = i }) a)) ≤ most_count
answers_small ds p Fall None i a h = omega arith
answers_small ds p Fall (Some x) i a h = asked_small ds p x i a (omega (arith, h refl))
answers_small ds p SteadyLow o i a h = omega arith
answers_small ds p Start o i a h = omega arith
answers_small ds p Stop o i a h = omega arith
answers_small ds p SteadyHigh o i a h = omega arith
answers_small ds p (Rise x) o i a h = omega arith
