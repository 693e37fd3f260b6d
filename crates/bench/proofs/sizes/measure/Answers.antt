use Rattle.std.proofs.Common.{refl}
use Rattle.bench.proofs.Parts.{is_measured, two_model, two_more}
use Rattle.bench.proofs.sizes.measure.Goals as goal

pub returns-in-1 : goal.returns-in-1
returns-in-1 c = is_measured _ _ _ 1 _ _ refl c.in-1.is (c.quick.ensures, tt) c.with_ports.ensures

pub returns-in-2 : goal.returns-in-2
returns-in-2 c = is_measured _ _ _ 2 _ _ refl c.in-2.is (two_more 0 (λ b. tt) c.two.result _ c.two.ensures tt) c.with_ports-in-2.ensures

pub returns-in-4 : goal.returns-in-4
returns-in-4 c =
    let last = two_more 0 (λ b. tt) c.two-in-4.result _ c.two-in-4.ensures tt in
    let all = two_more 2 (two_model 0 (λ b. tt)) c.two-in-4-2.result _ c.two-in-4-2.ensures last in
    is_measured _ _ _ 4 _ _ refl c.in-4.is all c.with_ports-in-4.ensures

pub returns-in-8 : goal.returns-in-8
returns-in-8 c =
    let last = two_more 0 (λ b. tt) c.two-in-8.result _ c.two-in-8.ensures tt in
    let third = two_more 2 (two_model 0 (λ b. tt)) c.two-in-8-2.result _ c.two-in-8-2.ensures last in
    let second = two_more 4 (two_model 2 (two_model 0 (λ b. tt))) c.two-in-8-3.result _ c.two-in-8-3.ensures third in
    let all = two_more 6 (two_model 4 (two_model 2 (two_model 0 (λ b. tt)))) c.two-in-8-4.result _ c.two-in-8-4.ensures second in
    is_measured _ _ _ 8 _ _ refl c.in-8.is all c.with_ports-in-8.ensures
