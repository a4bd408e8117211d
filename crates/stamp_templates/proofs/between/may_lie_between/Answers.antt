use Rattle.std.proofs.Common.{arith}
use Rattle.stamp_templates.proofs.BetweenLemmas.{out_all, out_more}
use Rattle.stamp_templates.proofs.between.may_lie_between.Goals as goal

pub loop-at-preserved : goal.loop-at-preserved
loop-at-preserved c =
    out_more c.template-template.result.now c.args.low.now c.args.high.now c.args.text.now c.loop-at.at c.from.result (omega arith) c.loop-at.invariant (c.may_lie_at.ensures c.if-may_lie_at.false)

pub returns : goal.returns
returns c = λ _.
    out_all c.matches_stand.ensures c.places_fit.ensures c.args.pattern c.template-template.result.now c.args.low.now c.args.high.now c.args.text.now c.loop-at.at c.template-template.ensures.text (omega arith) c.loop-at.invariant
