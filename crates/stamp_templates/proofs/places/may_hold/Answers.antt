use Rattle.std.proofs.Common.{arith}
use Rattle.stamp_templates.proofs.SearchLemmas.{holds_none, none_more}
use Rattle.stamp_templates.proofs.places.may_hold.Goals as goal

pub loop-at-preserved : goal.loop-at-preserved
loop-at-preserved c =
    none_more c.template-template.result.now c.args.text.now c.loop-at.at c.from.result c.fits_at.result (omega arith) c.loop-at.invariant c.fits_at.ensures c.if-fits_at.false

pub returns-clause-none : goal.returns-clause-none
returns-clause-none c = λ _.
    holds_none c.matches_stand.ensures c.places_fit.ensures c.args.pattern c.template-template.result.now c.args.text.now c.loop-at.at
    c.template-template.ensures.text (omega arith) c.loop-at.invariant
