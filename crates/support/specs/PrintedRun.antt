-- A run of a bus whose masters are armed before each of its ticks, and what is printed of it.
use Rattle.std.specs.Prelude.{◌≡◌, ℕ, zero, suc, ◌<◌, ◌≤◌, ◌⊎◌, true, false, if◌then◌else◌, List, [], ◌∷◌, ◌++◌, decimal}
use Rattle.std.specs.Fmt.{WritesInCalls}
use Rattle.std.specs.declared.io.Error.{Error}
use Rattle.device.specs.Device.{Behaviour}
use Rattle.host.specs.Host.{HostBehaviour}
use Rattle.law.specs.BusModel.{BusModel, HoldAnswers, Answered, no_holds, tick_at, is_at_rest}
use Rattle.listing.specs.declared.listing.Listing.{Listing}
use Rattle.listing.specs.Marks.{lines_of}
use Rattle.listing.specs.Listing.{new_listing, listing_step}
use Rattle.support.specs.ArmAll.{all_armed}

-- no device may give two different answers to hold as it stands
abbrev pub OneHold : List Behaviour → Type 0
OneHold [] = Unit {0}
OneHold (d ∷ ds) = ((m : d.Meaning) (h k : ℕ) → d.holds m h → d.holds m k → h ≡ k) × OneHold ds

module _ (hs : List HostBehaviour) (ds : List Behaviour) where
  -- a bus, and the listing of its ticks so far
  pub record Listened : Type 0 where
    pub bus : BusModel hs ds
    pub listing : Listing

  -- before the first tick, with the first masters armed
  abbrev pub listened_start : ℕ → BusModel hs ds → Listened
  listened_start masters u = record { bus = all_armed hs ds masters u; listing = new_listing }

  -- the lines of the next tick
  abbrev pub next_lines : Listened → HoldAnswers ds → List ℕ
  next_lines s h = let m = (listing_step s.listing (tick_at hs ds s.bus h).0).0 in
      lines_of (decimal m.tick) m

  -- after the next tick, with the first masters armed again
  abbrev pub listened_after_tick : ℕ → Listened → HoldAnswers ds → Listened
  listened_after_tick masters s h = let t = tick_at hs ds s.bus h in
      record { bus = all_armed hs ds masters t.1; listing = (listing_step s.listing t.0).1 }

  -- n ticks lead from the bus u to s, and these are their lines, for some answers to hold that the devices may give; no tick
  -- is made at rest
  abbrev pub TicksLeadTo : ℕ → ℕ → BusModel hs ds → List ℕ → Listened → Type 0
  TicksLeadTo masters zero u text s = (text ≡ []) × (s ≡ listened_start masters u)
  TicksLeadTo masters (suc n) u text s =
      (r : Listened) × (before : List ℕ) × (h : HoldAnswers ds) × TicksLeadTo masters n u before r ×
      (is_at_rest hs ds r.bus ≡ false) × Answered hs ds r.bus h ×
      (text ≡ before ++ next_lines r h) × (s ≡ listened_after_tick masters r h)

  -- the lines of n ticks at most from s on, where no device holds
  unfoldable pub unheld_lines : ℕ → ℕ → Listened → List ℕ
  unheld_lines masters zero s = []
  unheld_lines masters (suc n) s =
      let h = no_holds ds in
      if is_at_rest hs ds s.bus then []
      else next_lines s h ++ unheld_lines masters n (listened_after_tick masters s h)

  -- a run with this text: it ends at rest, or after the most ticks
  pub record IsRun (masters most : ℕ) (u : BusModel hs ds) (text : List ℕ) (end : Listened) :
      Type 0 where
    pub ticks : ℕ
    pub bounded : ticks ≤ most
    pub ran : TicksLeadTo masters ticks u text end
    pub over : (ticks ≡ most) ⊎ (is_at_rest hs ds end.bus ≡ true)

  -- the one run from u: whatever the devices answer, there is no other
  pub record IsOnlyRun (masters most : ℕ) (u : BusModel hs ds) (text : List ℕ) (end : Listened) :
      Type 0 where
    pub run : IsRun masters most u text end
    pub only : (other : List ℕ) (last : Listened) → IsRun masters most u other last →
        (other ≡ text) × (last ≡ end)

  module _ {W : Type 0} (takes : W → List ℕ → W → Type 0) where
    -- a run from u to v of which all lines are written
    pub record PrintsAll (masters most : ℕ) (u v : BusModel hs ds) (out after : W) : Type 0 where
      pub text : List ℕ
      pub end : Listened
      pub run : IsRun masters most u text end
      pub written : WritesInCalls takes out text after
      pub bus : v ≡ end.bus

    -- the lines of so many ticks are written, the next tick is made, and the writing of its lines fails with e
    pub record PrintsPart (fails : W → List ℕ → Error → W → Type 0) (masters most : ℕ)
        (u v : BusModel hs ds) (out after : W) (e : Error) : Type 0 where
      pub ticks : ℕ
      pub text : List ℕ
      pub end : Listened
      pub holds : HoldAnswers ds
      pub between : W
      pub bounded : ticks < most
      pub ran : TicksLeadTo masters ticks u text end
      pub awake : is_at_rest hs ds end.bus ≡ false
      pub answered : Answered hs ds end.bus holds
      pub written : WritesInCalls takes out text between
      pub failed : fails between (next_lines end holds) e after
      pub bus : v ≡ (listened_after_tick masters end holds).bus
