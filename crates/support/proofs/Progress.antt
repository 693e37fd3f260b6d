-- One tick more of a run.
use Rattle.std.proofs.Common.{◌≡◌, ℕ, ◌+◌, ◌++◌, false, List, decimal, ap, ◌∙◌, add-one}
use Rattle.device.specs.Device.{Behaviour}
use Rattle.host.specs.Host.{HostBehaviour}
use Rattle.law.specs.declared.tick.Tick.{Tick}
use Rattle.law.specs.BusModel.{BusModel, HoldAnswers, Answered, tick_at, is_at_rest}
use Rattle.listing.specs.declared.listing.Listing.{Listing}
use Rattle.listing.specs.declared.marks.Marks.{Marks}
use Rattle.listing.specs.Marks.{lines_of}
use Rattle.listing.specs.Listing.{listing_step}
use Rattle.support.specs.ArmAll.{all_armed}
use Rattle.support.specs.PrintedRun.{Listened, next_lines, listened_after_tick, TicksLeadTo}

module _ (hs : List HostBehaviour) (ds : List Behaviour) (masters : ℕ) (r : Listened hs ds) (h : HoldAnswers ds)
    (t : Tick) (x v : BusModel hs ds) (m : Marks) (l : Listing)
    (ticks : (t, x) ≡ tick_at hs ds r.bus h) (steps : (m, l) ≡ listing_step r.listing t) (arms : v ≡ all_armed hs ds masters x) where
  step_is : (m, l) ≡ listing_step r.listing (tick_at hs ds r.bus h).0
  step_is = steps ∙ ap (λ a. listing_step r.listing a.0) ticks

  pub lines_are : (text : List ℕ) → text ≡ lines_of (decimal m.tick) m → text ≡ next_lines hs ds r h
  lines_are text lines = lines ∙ ap (λ a. lines_of (decimal a.0.tick) a.0) step_is

  pub ticked_is : record { bus = v; listing = l } ≡ listened_after_tick hs ds masters r h
  ticked_is =
      let bus_is : v ≡ all_armed hs ds masters (tick_at hs ds r.bus h).1 = arms ∙ ap (λ a. all_armed hs ds masters a.1) ticks in
      let listing_is : l ≡ (listing_step r.listing (tick_at hs ds r.bus h).0).1 = ap (λ a. a.1) step_is in
      cc

  pub one_more : (n : ℕ) (u : BusModel hs ds) (before text : List ℕ) → TicksLeadTo hs ds masters n u before r →
      is_at_rest hs ds r.bus ≡ false → Answered hs ds r.bus h →
      text ≡ lines_of (decimal m.tick) m → TicksLeadTo hs ds masters (n + 1) u (before ++ text) (record { bus = v; listing = l })
  one_more n u before text ran awake answered lines = rw add-one
      (r, before, h, ran, awake, answered, ap (λ a. before ++ a) (lines_are text lines), ticked_is)
