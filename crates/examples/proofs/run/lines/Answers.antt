use Rattle.std.proofs.Common.{◌≡◌, ℕ, List, [], ◌∷◌, Ok, Result, codes, refl, ap, ◌∙◌, append_assoc}
use Rattle.std.specs.List.{flat_map}
use Rattle.transfer.specs.declared.draft.Transfer.{Transfer}
use Rattle.transfer.specs.declared.refusal.Refusal.{Refusal}
use Rattle.transfer.specs.Transfer.{transfer_model, checked_write, checked_read}
use Rattle.support.proofs.Made.{ok_same, unwrapped, at}
use Rattle.support.specs.declared.pair.Clocks.{Clocks}
use Rattle.examples.specs.Run.{example_line}
use Rattle.examples.proofs.run.lines.Goals as goal

lines_at : List Clocks → List ℕ → Transfer → Transfer → List ℕ
lines_at clocks name one other = flat_map (example_line name one other) clocks

same_pair : (made unwrapped : Transfer × Transfer) (r : Result (Transfer × Transfer) Refusal) → r ≡ Ok made → r ≡ Ok unwrapped →
    unwrapped ≡ made
same_pair made unwrapped r e f = cc

pub returns : goal.returns
unfolding lines_at
returns c =
    let clocks = c.all_clocks-clocks.result in
    let all = c.all_clocks-clocks.ensures in
    let at_80 = ok_same (unwrapped (λ a. a.number) _ _ _ c.new.ensures c.unwrap-registers.ensures) in
    let three = at (λ n. checked_write n (3 ∷ [])) _ _ _ _
    (unwrapped transfer_model _ _ _ c.write.ensures c.unwrap-three.ensures) at_80 refl in
    let zero = at (λ n. checked_write n (3 ∷ 0 ∷ [])) _ _ _ _
    (unwrapped transfer_model _ _ _ c.write-2.ensures c.unwrap-three_and_zero.ensures) at_80 refl in
    let (then_made, high_made, made, exhibits) = c.restart_over_one.ensures in
    let pair = same_pair _ _ _ made c.unwrap.ensures in
    let then_read = ap (λ p. transfer_model p.0) pair ∙ exhibits.first_is in
    let high = ap (λ p. transfer_model p.1) pair ∙ exhibits.second_is in
    let register = at (λ n. checked_write n (3 ∷ 0x12 ∷ [])) _ _ _ _
    (unwrapped transfer_model _ _ _ c.write-3.ensures c.unwrap-register.ensures) at_80 refl in
    let three_bytes = at (λ n. checked_read n 3) _ _ _ _ (unwrapped transfer_model _ _ _ c.read.ensures c.unwrap-three_bytes.ensures)
    at_80 refl in
    let two_bytes = at (λ n. checked_read n 2) _ _ _ _ (unwrapped transfer_model _ _ _ c.read-2.ensures c.unwrap-two_bytes.ensures)
    at_80 refl in
    let (joined, is_joined, whole) = c.push_joined.ensures in
    let t_three = c.unwrap-three.result in
    let t_high = c.unwrap.result.1 in
    let t_zero = c.unwrap-three_and_zero.result in
    let t_then_read = c.unwrap.result.0 in
    let t_register = c.unwrap-register.result in
    let t_three_bytes = c.unwrap-three_bytes.result in
    let t_two_bytes = c.unwrap-two_bytes.result in (
      _,
      joined,
      (
        lines_at clocks (codes "stop over one") t_three t_high,
        lines_at clocks (codes "zero over stop") t_zero t_three,
        lines_at clocks (codes "stop over restart") t_three t_then_read,
        lines_at clocks (codes "restart over one") t_then_read t_high,
        lines_at clocks (codes "more over fewer") t_three_bytes t_two_bytes,
        lines_at clocks (codes "equal writes") t_register t_register,
        (t_three, t_high, three, high, clocks, all, refl),
        (t_zero, t_three, zero, three, clocks, all, refl),
        (t_three, t_then_read, three, then_read, clocks, all, refl),
        (t_then_read, t_high, then_read, high, clocks, all, refl),
        (t_three_bytes, t_two_bytes, three_bytes, two_bytes, clocks, all, refl),
        (t_register, t_register, register, register, clocks, all, refl),
        refl,
      ),
      is_joined,
      rw (
        whole,
        c.push_example-6.ensures.text,
        c.push_example-5.ensures.text,
        c.push_example-4.ensures.text,
        c.push_example-3.ensures.text,
        c.push_example-2.ensures.text,
        c.push_example.ensures.text,
        c.new-text.ensures,
      )
          (simp append_assoc),
    )
