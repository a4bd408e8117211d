use Rattle.std.proofs.Common.{arith}
use Rattle.stamp_templates.proofs.SearchLemmas.{none_of_all, none_of_more}
use Rattle.stamp_templates.proofs.places.may_stand.Goals as goal

pub loop-pattern-preserved : goal.loop-pattern-preserved
loop-pattern-preserved c =
    none_of_more c.args.text.now c.loop-pattern.pattern c.loop-pattern.invariant (c.may_hold.ensures.none c.if-may_hold.false)

pub returns-clause-none : goal.returns-clause-none
returns-clause-none c = λ _. none_of_all c.args.text.now c.loop-pattern.pattern (omega arith) c.loop-pattern.invariant
