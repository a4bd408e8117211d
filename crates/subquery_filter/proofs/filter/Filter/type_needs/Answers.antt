use Rattle.std.proofs.Common.{ap, length, rules}
use Rattle.std.proofs.lemmas.Option.{slice_get-get_or}
use Rattle.subquery_filter.specs.declared.verdicts.Verdict.TheVariants.{Rejected}
use Rattle.subquery_filter.proofs.FilterLemmas.{grown}
use Rattle.subquery_filter.proofs.NeedLemmas.{needs_none, needs_step}
use Rattle.subquery_filter.proofs.filter.Filter.type_needs.Goals as goal

pub loop-place-init : goal.loop-place-init
loop-place-init c = (ap length c.new-needs.ensures.items, needs_none _ _ _ _ _ _ c.new-needs.result.items c.new-needs.ensures.items)

pub loop-place-preserved : goal.loop-place-preserved
loop-place-preserved c =
    let l = c.loop-place in (
      grown l.needs.items c.push.new.self.items c.type_need.result l.place l.invariant.0 c.in_ok-push.ensures.items,
      needs_step c.args.self.now c.args.verdicts.now l.place l.needs.items c.push.new.self.items c.type_need.result l.invariant.0 c.in_ok-push.ensures.items (c.type_need.ensures c.untold_bits-bits.ensures c.args.verdicts.now (slice_get-get_or c.args.verdicts.now l.place Rejected (search rules))) l.invariant.1,
    )
