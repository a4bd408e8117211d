use Rattle.std.proofs.Common.{rules}
use Rattle.subquery_filter.proofs.DecimalLemmas.{not_number, not_pointed}
use Rattle.subquery_filter.proofs.numbers.is_pointed.Goals as goal

pub returns-then-token : goal.returns-then-token
returns-then-token c = λ never closed part. not_pointed c.args.token.now (search rules)

pub returns : goal.returns
returns c = λ never closed part. not_number c.args.token.now never closed part
