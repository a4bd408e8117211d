use Rattle.std.proofs.Common.{rules}
use Rattle.std.specs.Prelude.{slice_index_or}
use Rattle.subquery_filter.proofs.NeedLemmas.{counts_on}
use Rattle.subquery_filter.proofs.filter.Filter.next_counted.Goals as goal

pub returns-then-is_by_bound : goal.returns-then-is_by_bound
returns-then-is_by_bound c = λ k low high lt. c.is_by_bound.ensures (search rules) (slice_index_or c.args.words.now k 0) (c.next_large.ensures k low high lt)

pub returns : goal.returns
returns c = counts_on c.args.self.now c.args.words.now c.args.from c.past-near.result c.past.result c.past-near.ensures c.past.ensures
