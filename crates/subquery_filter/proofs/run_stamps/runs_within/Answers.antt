use Rattle.std.proofs.Common.{◌≡◌, arith, of_z, rules, to_z, w64}
use Rattle.subquery_filter.proofs.AloneLemmas.{within_all, within_first, within_step}
use Rattle.subquery_filter.proofs.run_stamps.runs_within.Goals as goal

pub loop-pattern-init : goal.loop-pattern-init
loop-pattern-init c = within_first c.patterns_print_whole_moments.ensures c.args.runs.now c.args.head.now 0

pub loop-pattern-preserved : goal.loop-pattern-preserved
loop-pattern-preserved c =
    let least : to_z w64 (of_z w64 c.args.head.now.least) ≡ c.args.head.now.least = search rules in
    let greatest : to_z w64 (of_z w64 c.args.head.now.greatest) ≡ c.args.head.now.greatest = search rules in
    within_step c.args.runs.now c.args.head.now c.loop-pattern.pattern c.loop-pattern.bits c.span_runs-bits.result (rw (least, greatest) at c.span_runs-bits.ensures) c.loop-pattern.invariant

pub returns : goal.returns
returns c = within_all c.patterns_print_whole_moments.ensures c.args.runs.now c.args.head.now c.loop-pattern.pattern c.loop-pattern.bits (omega arith) c.loop-pattern.invariant
