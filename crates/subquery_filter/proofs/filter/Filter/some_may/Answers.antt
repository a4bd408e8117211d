use Rattle.std.proofs.Common.{rules}
use Rattle.subquery_filter.proofs.FilterLemmas.{shut_end, shut_step}
use Rattle.subquery_filter.proofs.filter.Filter.some_may.Goals as goal

pub loop-number-preserved : goal.loop-number-preserved
loop-number-preserved c = shut_step c.args.self.now c.args.runs c.args.stamped c.args.brought c.args.types.now c.loop-number.number-index (search rules) (c.may_be.ensures c.if-may_be.false) c.loop-number.invariant

pub returns : goal.returns
returns c = λ none. shut_end c.args.self.now c.args.runs c.args.stamped c.args.brought c.args.types.now c.loop-number.number-index (search rules) c.loop-number.invariant
