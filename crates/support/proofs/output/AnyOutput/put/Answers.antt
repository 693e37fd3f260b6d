use Rattle.std.proofs.Common.{◌≡◌, ℕ, List, ◌-◌, ◌≤◌, ◌++◌, length, take, drop, ap, arith, append_assoc, length-drop, take-append-drop}
use Rattle.std.proofs.lemmas.List.{take_all}
use Rattle.std.proofs.KnownBytes.{Appends-trans, Appends-kept}
use Rattle.support.proofs.output.AnyOutput.put.Goals as goal
use Rattle.support.proofs.output.AnyOutput.put.Goals.{in-Ok, in-Err}

joined : (front rest bytes : List ℕ) (n : ℕ) → n ≤ length rest → front ++ rest ≡ bytes →
    front ++ (take n rest ++ take (length rest - n) (drop n rest)) ≡ bytes
joined front rest bytes n h e =
    rw (take_all (length rest - n) (drop n rest) (omega (arith, length-drop {A = ℕ})), take-append-drop n rest) e

pub loop-preserved : goal.loop-preserved
loop-preserved g c =
    let (front, whole, appends) = c.loop.invariant in
    elim c.match-write.branch [
      | in-Ok w ↦ (
        front ++ take w.in-Ok.written c.loop.rest.now,
        rw (ap (λ b. b.now) w.rest-is, append_assoc) (joined front c.loop.rest.now _ w.in-Ok.written w.in-Ok.ensures.bound whole),
        Appends-trans _ _ _ _ _ appends w.in-Ok.ensures.bytes,
      )
      | in-Err w ↦ (front, rw w.rest-is whole, Appends-kept _ _ _ _ appends w.in-Err.ensures.bytes)
    ]
