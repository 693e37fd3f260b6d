-- The run of the two queues.
use Rattle.std.proofs.Common.{◌≡◌, ℕ, List, ◌++◌, codes, Option, Some, None, Result, refl, sym, ap, ◌∙◌, append-nil, append_assoc}
use Rattle.transfer.specs.Outcome.{OutcomeModel, outcome_text}
use Rattle.law.specs.BusModel.{BusModel, NeverHold, no_holds}
use Rattle.law.specs.Limits.{most_ticks_of_turn}
use Rattle.law.specs.RunModel.{RunModel, run_at}
use Rattle.support.specs.ArmAll.{all_armed}
use Rattle.examples.specs.Run.{joined_line, queues_after_run}
use Rattle.examples.specs.Setup.{reader, two_queues}

ran : (n : ℕ) (u : BusModel reader two_queues) →
    (run_at reader two_queues (all_armed reader two_queues 1 u) n (λ k. no_holds two_queues)).1 ≡ queues_after_run n u
unfolding queues_after_run
ran n u = refl

-- what the master was told last, by the bus after the run
pub told_last : (u v w : BusModel reader two_queues) (n : ℕ) (a : Result RunModel ℕ) (last : Option OutcomeModel) →
    v ≡ all_armed reader two_queues 1 u → (a, w) ≡ run_at reader two_queues v n (λ k. no_holds two_queues) → n ≡ most_ticks_of_turn →
    last ≡ w.masters.0.meaning.last → last ≡ (queues_after_run most_ticks_of_turn u).masters.0.meaning.last
told_last u v w n a last arms runs e is =
    let there : w ≡ (run_at reader two_queues v n (λ k. no_holds two_queues)).1 = ap (λ p. p.1) runs in
    let from : (run_at reader two_queues v n (λ k. no_holds two_queues)).1 ≡
    (run_at reader two_queues (all_armed reader two_queues 1 u) n (λ k. no_holds two_queues)).1 =
    ap (λ x. (run_at reader two_queues x n (λ k. no_holds two_queues)).1) arms in
    is ∙ ap (λ x. x.masters.0.meaning.last) (there ∙ (from ∙ (ran n u ∙ ap (λ k. queues_after_run k u) e)))

pub never : NeverHold two_queues
never = ((λ meaning h e. e), ((λ meaning h e. e), tt))

pub line_is : (start a b c : List ℕ) (o : OutcomeModel) (last : Option OutcomeModel) → Some o ≡ last →
    a ≡ start ++ codes "joined queues: " →
    b ≡ a ++ outcome_text o → c ≡ b ++ codes "\n" → c ≡ start ++ joined_line last
line_is start a b c o last e first second third = rw (← e, third, second, first) (simp append_assoc)

pub no_line : (start : List ℕ) (last : Option OutcomeModel) → None ≡ last → start ≡ start ++ joined_line last
no_line start last e = rw (← e) (sym (append-nil start))
