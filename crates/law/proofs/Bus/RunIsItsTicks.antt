-- A run is the ticks that it makes.
use Rattle.std.proofs.Common.{◌≡◌, ℕ, zero, suc, ◌+◌, Bool, true, false, cond, ltb, List, [], ◌∷◌, ◌++◌, sym, refl, ap, ◌∙◌, arith}
use Rattle.device.specs.Device.{Behaviour}
use Rattle.host.specs.Host.{HostBehaviour}
use Rattle.law.specs.BusModel.{HoldAnswers, is_at_rest}
use Rattle.law.specs.Use.{Call, arms, ticks, runs, Use, use_after_tick, one_by_one, call_in_ticks, in_ticks, use_after_call, use_after}
use Rattle.law.specs.Use.{use_after_ticks, ticks_of_run, ticks_of_call, ticks_of}
use Rattle.law.specs.Limits.{most_ticks}

module _ (hs : List HostBehaviour) (ds : List Behaviour) where
  used_append : (x : Use hs ds) (bs cs : List (Call hs ds)) → use_after hs ds x (bs ++ cs) ≡ use_after hs ds (use_after hs ds x bs) cs
  used_append x [] cs = refl
  used_append x (b ∷ bs) cs = used_append (use_after_call hs ds x b) bs cs

  ticks_append : (x : Use hs ds) (bs cs : List (Call hs ds)) →
      ticks_of hs ds x (bs ++ cs) ≡ ticks_of hs ds x bs + ticks_of hs ds (use_after hs ds x bs) cs
  ticks_append x [] cs = omega arith
  ticks_append x (b ∷ bs) cs = omega (arith, ticks_append (use_after_call hs ds x b) bs cs)

  so_many : (n k : ℕ) (a : ℕ → HoldAnswers ds) (x : Use hs ds) → n ≡ ticks_of hs ds x (one_by_one hs ds n k a)
  so_many zero k a x = refl
  so_many (suc n) k a x = omega (arith, so_many n (suc k) a (use_after_tick hs ds x (a k)))

  either : (v : Bool) (x y : Use hs ds) (m k : ℕ) (a : ℕ → HoldAnswers ds) → y ≡ use_after hs ds x (one_by_one hs ds m k a) →
      cond v x y ≡ use_after hs ds x (one_by_one hs ds (cond v 0 m) k a)
  either true x y m k a e = refl
  either false x y m k a e = e

  run_ticks : (n k : ℕ) (a : ℕ → HoldAnswers ds) (x : Use hs ds) →
      use_after_ticks hs ds n k a x ≡ use_after hs ds x (one_by_one hs ds (ticks_of_run hs ds n k a x) k a)
  run_ticks zero k a x = refl
  run_ticks (suc n) k a x = let y = use_after_tick hs ds x (a k) in
      either (is_at_rest hs ds x.bus) x (use_after_ticks hs ds n (suc k) a y) (suc (ticks_of_run hs ds n (suc k) a y)) k a
      (run_ticks n (suc k) a y)

  call_is_ticks : (x : Use hs ds) (c : Call hs ds) → use_after_call hs ds x c ≡ use_after hs ds x (call_in_ticks hs ds x c)
  call_is_ticks x (arms n) = refl
  call_is_ticks x (ticks a) = refl
  call_is_ticks x (runs n a) =
      either (ltb most_ticks n) x (use_after_ticks hs ds n 0 a x) (ticks_of_run hs ds n 0 a x) 0 a (run_ticks n 0 a x)

  call_so_many : (x : Use hs ds) (c : Call hs ds) → ticks_of_call hs ds x c ≡ ticks_of hs ds x (call_in_ticks hs ds x c)
  call_so_many x (arms n) = refl
  call_so_many x (ticks a) = refl
  call_so_many x (runs n a) = so_many (ticks_of_call hs ds x (runs n a)) 0 a x

  pub runs_are_ticks : (x : Use hs ds) (cs : List (Call hs ds)) →
      (use_after hs ds x cs ≡ use_after hs ds x (in_ticks hs ds x cs)) × (ticks_of hs ds x cs ≡ ticks_of hs ds x (in_ticks hs ds x cs))
  runs_are_ticks x [] = (refl, refl)
  runs_are_ticks x (c ∷ cs) =
      let bs = call_in_ticks hs ds x c in
      let rest = in_ticks hs ds (use_after_call hs ds x c) cs in
      let on = runs_are_ticks (use_after_call hs ds x c) cs in
      let here = call_is_ticks x c in (
        on.0 ∙ (ap (λ y. use_after hs ds y rest) here ∙ sym (used_append x bs rest)),
        (let more = on.1 ∙ ap (λ y. ticks_of hs ds y rest) here in omega (arith, call_so_many x c, more, ticks_append x bs rest)),
      )
