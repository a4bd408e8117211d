use Rattle.std.proofs.Common.{rules}
use Rattle.subquery_filter.proofs.AloneLemmas.{table_end, table_first, table_step}
use Rattle.subquery_filter.proofs.run_stamps.mark_runs.Goals as goal

pub loop-pattern-init : goal.loop-pattern-init
loop-pattern-init c = table_first c.args.runs.now c.new-stamps.result.items c.push.new.self.items 0 c.new-stamps.ensures.items c.in_ok-push.ensures.items

pub loop-pattern-preserved : goal.loop-pattern-preserved
loop-pattern-preserved c =
    table_step c.args.runs.now c.loop-pattern.pattern c.loop-pattern.stamps.items c.push-in-loop-pattern.new.self.items c.pattern_runs.result c.in_ok-push-2.ensures.items c.pattern_runs.ensures c.loop-pattern.invariant

pub returns : goal.returns
returns c = table_end c.patterns_print_whole_moments.ensures c.args.runs.now c.loop-pattern.pattern c.loop-pattern.stamps.items (search rules) c.loop-pattern.invariant
