-- Where in every tick of a run there are answers to hold that the devices may give, there is a run.
use Rattle.std.proofs.Common.{◌≡◌, ℕ, zero, suc, ◌+◌, ◌++◌, List, [], inl, inr, refl, ⊎_elim, arith}
use Rattle.std.proofs.lemmas.Bool.{cases_Bool}
use Rattle.device.specs.Device.{Behaviour}
use Rattle.host.specs.Host.{HostBehaviour}
use Rattle.law.specs.BusModel.{BusModel, HoldAnswers, Answered, tick_at, is_at_rest}
use Rattle.support.specs.ArmAll.{all_armed}
use Rattle.support.specs.PrintedRun.{Listened, listened_start, next_lines, listened_after_tick, TicksLeadTo, IsRun}

module _ (hs : List HostBehaviour) (ds : List Behaviour) (masters : ℕ) (Fit : BusModel hs ds → Type 0)
    (some_answers : (v : BusModel hs ds) → Fit v → (h : HoldAnswers ds) × Answered hs ds v h)
    (stays_fit : (v : BusModel hs ds) (h : HoldAnswers ds) → Fit v → Fit (all_armed hs ds masters (tick_at hs ds v h).1)) where
  -- there is a run
  abbrev pub ItRuns : ℕ → BusModel hs ds → Type 0
  ItRuns most u = (text : List ℕ) × (end : Listened hs ds) × IsRun hs ds masters most u text end

  -- n ticks, and k more at most
  goes_on : (n k most : ℕ) (u : BusModel hs ds) (text : List ℕ) (s : Listened hs ds) → n + k ≡ most → Fit s.bus →
      TicksLeadTo hs ds masters n u text s →
      ItRuns most u
  goes_on n zero most u text s e fit ran = (text, s, record { ticks = n; bounded = omega arith; ran = ran; over = inl (omega arith) })
  goes_on n (suc k) most u text s e fit ran =
      ⊎_elim
      (λ rest. (text, s, record { ticks = n; bounded = omega arith; ran = ran; over = inr rest }))
      (λ awake.
      let (h, answered) = some_answers s.bus fit in
      goes_on (suc n) k most u (text ++ next_lines hs ds s h) (listened_after_tick hs ds masters s h) (omega arith) (stays_fit s.bus h fit)
      (s, text, h, ran, awake, answered, refl, refl))
      (cases_Bool (is_at_rest hs ds s.bus))

  pub some_run : (most : ℕ) (u : BusModel hs ds) → Fit (all_armed hs ds masters u) → ItRuns most u
  some_run most u fit = goes_on 0 most most u [] (listened_start hs ds masters u) (omega arith) fit (refl, refl)
