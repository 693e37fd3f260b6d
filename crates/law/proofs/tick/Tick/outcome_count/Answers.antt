use Rattle.std.proofs.Common.{◌≡◌, cond, arith, rules, tests}
use Rattle.std.proofs.lemmas.Iterator.{YieldsList-from_map, YieldsList-from_slice}
use Rattle.std.proofs.lemmas.Iterator.Consumers.{fits_by_from_yields_list, sum_by_from_yields_List}
use Rattle.std.proofs.lemmas.List.Sums.{count_by-le-length}
use Rattle.law.specs.RunModel.{told_count}
use Rattle.master.specs.Mark.{is_told}
use Rattle.law.proofs.tick.Tick.outcome_count.Goals as goal

pub sum-requires-clause-fits : goal.sum-requires-clause-fits
sum-requires-clause-fits c =
    let marks = c.args.self.now.marks in
    fits_by_from_yields_list _ _ c.map.result _
    (YieldsList-from_map _ (λ m. cond (is_told m) 1 0) (YieldsList-from_slice marks cc) c.map.ensures.closure
    (λ x r q k. search (rules, tests)))
    (omega (arith, count_by-le-length is_told marks))

pub returns-clause-few : goal.returns-clause-few
returns-clause-few c =
    let marks = c.args.self.now.marks in
    let all : c.sum.result ≡ told_count marks = sum_by_from_yields_List _ _ c.map.result _ c.sum.ensures.ran
    (YieldsList-from_map _ (λ m. cond (is_told m) 1 0) (YieldsList-from_slice marks cc) c.map.ensures.closure
    (λ x r q k. search (rules, tests))) in
    omega (arith, count_by-le-length is_told marks)
