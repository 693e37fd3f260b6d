-- One tick more on the way to the first stop.
use Rattle.std.proofs.Common.{◌≡◌, ℕ, suc, true, false, None, Some, refl, sym, ap, ◌∙◌}
use Rattle.law.specs.declared.tick.Tick.{Tick}
use Rattle.law.specs.BusModel.{BusModel, no_holds, tick_at}
use Rattle.law.specs.Limits.{most_ticks_of_turn}
use Rattle.support.specs.ArmAll.{all_armed}
use Rattle.wire.specs.declared.event.Event.{Event}
use Rattle.wire.specs.declared.event.Event.TheVariants.{Rise, Fall, Start, Stop, SteadyHigh, SteadyLow}
use Rattle.examples.specs.Run.{two_hosts, one_file, is_stop, stop_within, first_stop}

module _ (k : ℕ) (u x : BusModel two_hosts one_file) (t : Tick) (ticks : (t, x) ≡ tick_at two_hosts one_file u (no_holds one_file)) where
  pub stops_here : is_stop t.event ≡ true → stop_within (suc k) u ≡ Some t
  unfolding stop_within
  stops_here stop =
      let stop_there : is_stop (tick_at two_hosts one_file u (no_holds one_file)).0.event ≡ true =
      sym (ap (λ a. is_stop a.0.event) ticks) ∙ stop in
      rw stop_there (sym (ap (λ a. Some a.0) ticks))

  pub stops_later : is_stop t.event ≡ false → stop_within (suc k) u ≡ stop_within k x
  unfolding stop_within
  stops_later on =
      let on_there : is_stop (tick_at two_hosts one_file u (no_holds one_file)).0.event ≡ false =
      sym (ap (λ a. is_stop a.0.event) ticks) ∙ on in
      rw on_there (sym (ap (λ a. stop_within k a.1) ticks))

pub not_stop : (e : Event) → (e ≡ Stop → ⊥) → is_stop e ≡ false
not_stop Stop h = absurd (h refl)
not_stop Start h = refl
not_stop Fall h = refl
not_stop (Rise b) h = refl
not_stop SteadyHigh h = refl
not_stop SteadyLow h = refl

pub none_within : (u : BusModel two_hosts one_file) → stop_within 0 u ≡ None
unfolding stop_within
none_within u = refl

-- the first stop after an arm of both, by the ticks of a turn
pub first_is : (u v : BusModel two_hosts one_file) (n : ℕ) → v ≡ all_armed two_hosts one_file 2 u → n ≡ most_ticks_of_turn →
    first_stop u ≡ stop_within n v
first_is u v n arms e = rw e (ap (stop_within most_ticks_of_turn) (sym arms))
