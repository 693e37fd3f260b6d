use Rattle.std.proofs.Common.{refl}
use Rattle.bench.proofs.Parts.{is_measured_with, four_model, four_more}
use Rattle.bench.proofs.sizes.with_ports.Goals as goal

pub returns-in-1 : goal.returns-in-1
returns-in-1 g c =
    let file = rw c.unwrap.ensures at c.file.ensures.made in
    is_measured_with _ _ c.args.work.masters c.args.work.ports c.args.work.ticks _ 1 _ _ _ refl c.in-1.is c.new.ensures.made
    (λ i. (file i, tt)) c.count-count.ensures refl

pub returns-in-4 : goal.returns-in-4
returns-in-4 g c =
    let files = rw c.unwrap-in-4.ensures at c.four.ensures.made in
    is_measured_with _ _ c.args.work.masters c.args.work.ports c.args.work.ticks _ 4 _ _ _ refl c.in-4.is c.new-in-4.ensures.made
    (four_more 0 80 (λ b. tt) c.unwrap-in-4.result _ files refl) c.count-count-in-4.ensures refl

pub returns-in-16 : goal.returns-in-16
returns-in-16 g c =
    let last = four_more 0 92 (λ b. tt) c.unwrap-last.result _ (rw c.unwrap-last.ensures at c.four-in-16.ensures.made) refl in
    let third = four_more 4 88 (four_model 0 (λ b. tt)) c.unwrap-third.result _
    (rw c.unwrap-third.ensures at c.four-in-16-2.ensures.made) last in
    let second = four_more 8 84 (four_model 4 (four_model 0 (λ b. tt))) c.unwrap-second.result _
    (rw c.unwrap-second.ensures at c.four-in-16-3.ensures.made) third in
    let all = four_more 12 80 (four_model 8 (four_model 4 (four_model 0 (λ b. tt)))) c.unwrap-files.result _
    (rw c.unwrap-files.ensures at c.four-in-16-4.ensures.made) second in
    is_measured_with _ _ c.args.work.masters c.args.work.ports c.args.work.ticks _ 16 _ _ _ refl c.in-16.is c.new-in-16.ensures.made all
    c.count-count-in-16.ensures refl
