use Rattle.std.proofs.Common.{arith, rules}
use Rattle.subquery_filter.proofs.PageLemmas.{may_set}
use Rattle.subquery_filter.proofs.shared.PageTests.add_span.Goals as goal

pub returns : goal.returns
returns c = λ are. may_set c.args.tokens.now c.args.runs.now c.args.self.now.spans _ c.args.number _ (search (rules, arith)) (search rules) (c.with_bits.ensures (search rules)) are
