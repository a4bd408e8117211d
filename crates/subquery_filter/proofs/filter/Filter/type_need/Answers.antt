use Rattle.std.proofs.Common.{◌≡◌, rules}
use Rattle.std.specs.Prelude.{Some, slice_get}
use Rattle.subquery_filter.specs.declared.verdicts.Verdict.TheVariants.{Tried}
use Rattle.subquery_filter.proofs.NeedLemmas.{lacks_bare}
use Rattle.subquery_filter.proofs.filter.Filter.type_need.Goals as goal

pub returns-then-not-has : goal.returns-then-not-has
returns-then-not-has c = λ numbers verdicts there.
    let f = c.args.self.now in
    let test = c.in-Some.test in
    let is : slice_get f.tests.items c.args.place ≡ Some test = search rules in
    let tried : test.verdict ≡ Tried = search rules in
    (test, is, tried, lacks_bare f.tokens.items test f.stamped f.wanted f.small.bound c.args.bits numbers (c.has.ensures.no (search rules)))
