use Rattle.std.proofs.Common.{◌≡◌, true}
use Rattle.std.specs.Prelude.{Some, slice_get}
use Rattle.subquery_filter.proofs.RuleLemmas.{none_more, tells_not, told_have, told_lack}
use Rattle.subquery_filter.proofs.rules.lacks_told.Goals as goal

pub returns-then-is_told : goal.returns-then-is_told
returns-then-is_told c = λ ps names are. told_have ps names c.args.constants.now c.args.types.now c.loop-place.place are c.loop-place-test.true (c.is_told.ensures.0 c.if-is_told.true)

pub loop-place-preserved : goal.loop-place-preserved
loop-place-preserved c =
    none_more (λ t. slice_get c.args.constants.now t ≡ Some true) c.args.types.now c.loop-place.place (tells_not c.is_told.result c.is_told.ensures c.if-is_told.false) c.loop-place.invariant

pub returns : goal.returns
returns c = λ ps names are. told_lack ps names c.args.constants.now c.args.types.now c.loop-place.place are c.loop-place-test.false c.loop-place.invariant
