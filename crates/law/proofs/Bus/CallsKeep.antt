-- What arms and ticks keep, calls keep: a run is so many ticks.
use Rattle.std.proofs.Common.{◌≡◌, ℕ, zero, suc, ◌+◌, Bool, true, false, cond, ltb, List, [], ◌∷◌, subst, arith}
use Rattle.device.specs.Device.{Behaviour}
use Rattle.host.specs.Host.{HostBehaviour}
use Rattle.law.specs.BusModel.{HoldAnswers, is_at_rest}
use Rattle.law.specs.Use.{Call, arms, ticks, runs, Use, use_after_tick, use_after_ticks, use_after_call, use_after, ticks_of_run}
use Rattle.law.specs.Use.{ticks_of_call, ticks_of}
use Rattle.law.specs.Limits.{most_ticks}

-- P m x: something of the use x, before which m ticks are made
module _ (hs : List HostBehaviour) (ds : List Behaviour) (P : ℕ → Use hs ds → Type 0)
    (armed : (m : ℕ) (x : Use hs ds) (n : ℕ) → P m x → P m (use_after_call hs ds x (arms n)))
    (ticked : (m : ℕ) (x : Use hs ds) (a : HoldAnswers ds) → P m x → P (suc m) (use_after_tick hs ds x a)) where
  counted : (m n : ℕ) (x : Use hs ds) → m ≡ n → P m x → P n x
  counted m n x e p = subst (λ k. P k x) e p

  either_keeps : (v : Bool) (m n : ℕ) (x y : Use hs ds) → P m x → P (m + n) y → P (m + cond v 0 n) (cond v x y)
  either_keeps true m n x y p q = counted m (m + 0) x (omega arith) p
  either_keeps false m n x y p q = q

  run_keeps : (n k m : ℕ) (a : ℕ → HoldAnswers ds) (x : Use hs ds) → P m x →
      P (m + ticks_of_run hs ds n k a x) (use_after_ticks hs ds n k a x)
  run_keeps zero k m a x p = counted m (m + 0) x (omega arith) p
  run_keeps (suc n) k m a x p =
      let y = use_after_tick hs ds x (a k) in
      let z = use_after_ticks hs ds n (suc k) a y in
      let more = ticks_of_run hs ds n (suc k) a y in
      either_keeps (is_at_rest hs ds x.bus) m (suc more) x z p
      (counted (suc m + more) (m + suc more) z (omega arith) (run_keeps n (suc k) (suc m) a y (ticked m x (a k) p)))

  call_keeps : (m : ℕ) (x : Use hs ds) (c : Call hs ds) → P m x → P (m + ticks_of_call hs ds x c) (use_after_call hs ds x c)
  call_keeps m x (arms n) p = counted m (m + 0) (use_after_call hs ds x (arms n)) (omega arith) (armed m x n p)
  call_keeps m x (ticks a) p = counted (suc m) (m + 1) (use_after_tick hs ds x a) (omega arith) (ticked m x a p)
  call_keeps m x (runs n a) p =
      either_keeps (ltb most_ticks n) m (ticks_of_run hs ds n 0 a x) x (use_after_ticks hs ds n 0 a x) p (run_keeps n 0 m a x p)

  pub calls_keep : (m : ℕ) (x : Use hs ds) (cs : List (Call hs ds)) → P m x → P (m + ticks_of hs ds x cs) (use_after hs ds x cs)
  calls_keep m x [] p = counted m (m + 0) x (omega arith) p
  calls_keep m x (c ∷ cs) p =
      let y = use_after_call hs ds x c in
      let here = ticks_of_call hs ds x c in
      let more = ticks_of hs ds y cs in
      counted ((m + here) + more) (m + (here + more)) (use_after hs ds y cs) (omega arith) (calls_keep (m + here) y cs (call_keeps m x c p))
