use Rattle.std.proofs.Common.{◌≡◌, ℕ, [], ◌∷◌, Ok, Result, refl, ap, ◌∙◌}
use Rattle.transfer.specs.declared.draft.Transfer.{Transfer}
use Rattle.transfer.specs.Transfer.{TransferModel, transfer_model, new_draft, answer_to_write, answer_to_read, answer_to_second_leg}
use Rattle.law.specs.WorkedExamples.{write_of, write_then_read_of}
use Rattle.law.proofs.ExamplesHold.{exhibits}
use Rattle.law.proofs.promises.restart_over_one.Goals as goal

abbrev Went : TransferModel → Result (Unit {0}) ℕ × TransferModel → Type 0
Went d a = (Ok tt, d) ≡ a

restarted : (t : Transfer) (d e f g : TransferModel) (a : ℕ) → d ≡ new_draft a →
    Went e (answer_to_write (3 ∷ []) d) → Went f (answer_to_second_leg a e) → Went g (answer_to_read 1 f) →
    transfer_model t ≡ g → a ≡ 80 → transfer_model t ≡ write_then_read_of (3 ∷ []) 1
restarted t d e f g a begins writes restarts reads sealed at_80 =
    let written = ap (λ x. x.1) writes ∙ ap (λ x. (answer_to_write (3 ∷ []) x).1) begins in
    let second = ap (λ x. x.1) restarts ∙ ap (λ x. (answer_to_second_leg a x).1) written in
    let all = sealed ∙ (ap (λ x. x.1) reads ∙ ap (λ x. (answer_to_read 1 x).1) second) in
    all ∙ ap (λ n. (answer_to_read 1 (answer_to_second_leg n (answer_to_write (3 ∷ []) (new_draft n)).1).1).1) at_80

high : (t : Transfer) (d e : TransferModel) (a : ℕ) → d ≡ new_draft a → Went e (answer_to_write (3 ∷ 128 ∷ []) d) →
    transfer_model t ≡ e → a ≡ 80 → transfer_model t ≡ write_of (3 ∷ 128 ∷ [])
high t d e a begins writes sealed at_80 =
    let written = ap (λ x. x.1) writes ∙ ap (λ x. (answer_to_write (3 ∷ 128 ∷ []) x).1) begins in
    sealed ∙ (written ∙ ap (λ n. (answer_to_write (3 ∷ 128 ∷ []) (new_draft n)).1) at_80)

at_80 : (n : ℕ) → ◌≡◌ {A = Result ℕ ℕ} (Ok n) (Ok 80) → n ≡ 80
at_80 n e = cc

pub returns : goal.returns
returns c =
    let address = at_80 _ c.in_ok-registers.ensures in (
      c.seal.result,
      c.seal-2.result,
      refl,
      exhibits c.seal.result c.seal-2.result
          (restarted c.seal.result _ _ _ _ _ c.new-restarted.ensures.made c.in_ok-write.ensures.answered
          c.in_ok-second_leg.ensures.answered c.in_ok-read.ensures.answered c.seal.ensures address)
          (high c.seal-2.result _ _ _ c.new-high.ensures.made c.in_ok-write-2.ensures.answered c.seal-2.ensures address),
    )
