use Rattle.std.proofs.Common.{arith}
use Rattle.text.proofs.Only.{is_decimal, only_one}
use Rattle.text.proofs.decimal.Decimal.push_to.Goals as goal

pub returns-clause-number : goal.returns-clause-number
returns-clause-number g c = is_decimal c.args.self.0 (omega arith)

pub returns-clause-only : goal.returns-clause-only
returns-clause-only g c = λ t d. only_one c.args.self.0 t (omega arith) d
