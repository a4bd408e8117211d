use Rattle.std.proofs.Common.{rules}
use Rattle.column_store.specs.Row.{row_of}
use Rattle.subquery_filter.proofs.SlotLemmas.{lacks_by}
use Rattle.subquery_filter.proofs.filter.Filter.lacks.Goals as goal

pub returns-clause-lacks : goal.returns-clause-lacks
returns-clause-lacks c = λ yes tells.
    lacks_by c.args.self.now c.args.test.now (row_of c.args.row) c.with_variables-bits.result c.with_stamp-all.result c.with_variables-bits.ensures.more c.with_variables-bits.ensures.brings c.with_stamp-all.ensures.more
    (λ stamps s stamped. c.with_stamp-all.ensures.stamp s (tells.tokens stamps s) stamped) (c.has-2.ensures.no (search rules))
