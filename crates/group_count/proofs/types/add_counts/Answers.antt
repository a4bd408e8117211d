use Rattle.std.proofs.Common.{arith, rules}
use Rattle.group_count.proofs.JoinLemmas.{added_all, added_first, added_next}
use Rattle.group_count.proofs.types.add_counts.Goals as goal

pub loop-place-init : goal.loop-place-init
loop-place-init c = (added_first c.args.counts.now.items c.args.more.now, λ few. few)

pub loop-place-preserved : goal.loop-place-preserved
loop-place-preserved c = (
  added_next c.args.counts.now.items c.args.more.now c.loop-place.counts.items c.add_at.new.counts.items c.loop-place.place _ (search rules) c.in_ok-add_at.ensures.own
      c.in_ok-add_at.ensures.others c.loop-place.invariant.0,
  λ few. c.add_at.ensures.few (c.loop-place.invariant.1 few),
)

pub returns-clause-added : goal.returns-clause-added
returns-clause-added c = λ before numbers one two.
    added_all c.args.counts.now.items c.args.more.now c.loop-place.counts.items c.loop-place.place before numbers (omega arith) c.loop-place.invariant.0 one two
