use Rattle.std.proofs.Common.{arith}
use Rattle.stamp_templates.proofs.SearchLemmas.{ends_by, ends_long, fits_end}
use Rattle.stamp_templates.proofs.places.may_end.Goals as goal

pub returns-then-text-template-clause-none : goal.returns-then-text-template-clause-none
returns-then-text-template-clause-none c = λ no.
    ends_by c.texts_fit.ensures c.args.pattern c.template-template.result.now c.args.text.now c.fits_at.result c.template-template.ensures.text c.fits_at.ensures no

pub returns-else-text-template-clause-none : goal.returns-else-text-template-clause-none
returns-else-text-template-clause-none c = λ _.
    ends_long c.texts_fit.ensures c.args.pattern c.template-template.result.now c.args.text.now c.template-template.ensures.text (omega arith)

pub returns-then-text-template-clause-may : goal.returns-then-text-template-clause-may
returns-then-text-template-clause-may c = λ may.
    fits_end c.args.pattern c.template-template.result.now c.args.text.now c.fits_at.result c.template-template.ensures.text c.fits_at.ensures c.if-text-template.true may
