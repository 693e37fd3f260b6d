use Rattle.std.proofs.Common.{◌≡◌, ℕ, ◌+◌, ◌*◌, ◌<◌, ◌≤◌, ◌++◌, ◌∷◌, [], List, length, true, false, refl, sym, ◌∙◌}
use Rattle.std.proofs.Common.{arith, length-append, append-nil, append_assoc}
use Rattle.std.specs.Prelude.{slice_index_or}
use Rattle.std.proofs.lemmas.List.{take_all}
use Rattle.master.specs.declared.mark.Mark.{Mark}
use Rattle.master.specs.declared.mark.Mark.TheVariants.{Quiet}
use Rattle.text.specs.Digits.{digit_code}
use Rattle.listing.specs.Marks.{is_mark}
use Rattle.listing.proofs.Masters.{marked, next, so_far}
use Rattle.listing.proofs.marks.push_numbers.Goals as goal
use Rattle.listing.proofs.marks.push_numbers.Goals.{then-eq, else-eq}

one_more : (start text new before after : List ℕ) (m : Mark) (ms : List Mark) (i : ℕ) → i < length ms →
    is_mark m (slice_index_or ms i Quiet) ≡ true →
    text ≡ start ++ so_far (λ n. before ++ (digit_code n ∷ after)) m i ms →
    new ≡ ((text ++ before) ++ (digit_code i ∷ [])) ++ after →
    new ≡ start ++ so_far (λ n. before ++ (digit_code n ∷ after)) m (i + 1) ms
one_more start text new before after m ms i within wanted so grows =
    let next_one = next (λ n. before ++ (digit_code n ∷ after)) m ms i Quiet true within wanted in
    let more = rw append-nil at next_one in
    rw (← more, grows, so) (simp append_assoc)

no_more : (start text before after : List ℕ) (m : Mark) (ms : List Mark) (i : ℕ) → i < length ms →
    is_mark m (slice_index_or ms i Quiet) ≡ false →
    text ≡ start ++ so_far (λ n. before ++ (digit_code n ∷ after)) m i ms →
    text ≡ start ++ so_far (λ n. before ++ (digit_code n ∷ after)) m (i + 1) ms
no_more start text before after m ms i within wanted so =
    let next_one = next (λ n. before ++ (digit_code n ∷ after)) m ms i Quiet false within wanted in
    let same = rw append-nil at next_one in
    rw (← same) so

further : (s m n i k : ℕ) → m ≤ s + i * k → n ≤ m + k → n ≤ s + (i + 1) * k
further s m n i k so grows = grind arith

pub loop-number-preserved : goal.loop-number-preserved
loop-number-preserved g c =
    let ms = c.args.masters.now in
    let i = c.loop-number.number in
    let within : i < length ms = omega arith in
    elim c.if-eq.branch [
      | then-eq w ↦
          (let grows : c.if-eq.text.bytes ≡
          ((c.loop-number.text.bytes ++ c.args.before.now) ++ (digit_code i ∷ [])) ++ c.args.after.now =
          rw (
            w.text-is,
            w.push_str-then-eq.ensures.bytes,
            w.push.ensures.ascii w.digit.ensures.ascii,
            w.push_str.ensures.bytes,
            w.digit.ensures.value,
          ) refl in (
            one_more _ _ _ _ _ c.args.wanted ms i within (sym (marked c.args.wanted _) ∙ sym w.if-eq.ensures)
                c.loop-number.invariant.0 grows,
            further _ (length c.loop-number.text.bytes) _ i _ c.loop-number.invariant.1 (rw grows (simp length-append (omega arith))),
          ))
      | else-eq w ↦
          rw w.text-is (
            no_more _ _ _ _ c.args.wanted ms i within (sym (marked c.args.wanted _) ∙ sym w.if-eq.ensures)
                c.loop-number.invariant.0,
            further _ (length c.loop-number.text.bytes) _ i _ c.loop-number.invariant.1 (omega arith),
          )
    ]

pub returns-clause-text : goal.returns-clause-text
returns-clause-text g c = rw (take_all c.loop-number.number c.args.masters.now (omega arith)) at c.loop-number.invariant.0
