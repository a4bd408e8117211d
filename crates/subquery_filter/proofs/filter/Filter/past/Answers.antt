use Rattle.std.proofs.Common.{rules}
use Rattle.subquery_filter.proofs.NeedLemmas.{counts_from, counts_past}
use Rattle.subquery_filter.proofs.filter.Filter.past.Goals as goal

pub loop-step-init : goal.loop-step-init
loop-step-init c = counts_from c.args.self.now c.args.words.now c.args.from

pub loop-step-preserved : goal.loop-step-preserved
loop-step-preserved c =
    counts_past c.args.self.now c.args.words.now c.in-Some.block.now c.args.from c.loop-step.at c.args.size (search rules) (search rules) (c.some_counts.ensures (search rules)) c.loop-step.invariant
