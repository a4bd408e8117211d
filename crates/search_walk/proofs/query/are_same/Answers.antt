use Rattle.std.proofs.Common.{arith, rules}
use Rattle.std.proofs.lemmas.List.{ext_get_or}
use Rattle.wild_match.specs.declared.pattern.Item.TheVariants.{Many}
use Rattle.search_walk.proofs.query.are_same.Goals as goal

pub returns : goal.returns
returns c = λ _.
    ext_get_or Many c.args.items.now c.args.others.now (search rules)
    (λ i lt. c.loop-place.invariant i Many (omega (arith, lt, c.loop-place-test.false, c.loop-place.auto.place-end)))
