use Rattle.std.proofs.Common.{subst}
use Rattle.std.specs.Prelude.{◌↔◌, IsTrue}
use Rattle.std.specs.List.Sorted.{IsStrictlyIncreasing}
use Rattle.plain_list.specs.Texts.{AreDistinct}
use Rattle.barren_segments.specs.Barren.{LacksTypes, LacksWord}
use Rattle.subquery_filter.proofs.RuleLemmas.{first_rules, last_rules, outside_tells, tells_not}
use Rattle.subquery_filter.proofs.rules.barren.Goals as goal

pub returns-then-is_outside : goal.returns-then-is_outside
returns-then-is_outside g c = λ is_head distinct.
    let head = c.args.head.now in
    let tells = outside_tells c.args.range.now head c.is_outside.result is_head c.is_outside.ensures in
    first_rules (tells.0 c.if-is_outside.true)

pub returns-else-lacks_word : goal.returns-else-lacks_word
returns-else-lacks_word g c = λ is_head distinct.
    let known = g.N.Names.words c.args.names.now in
    let plan = c.args.plan.now in
    let words = subst (λ l. IsStrictlyIncreasing l → AreDistinct known → IsTrue c.lacks_word.result ↔ LacksWord plan known l) c.as_slice.ensures c.lacks_word.ensures in
    let types = subst (λ l. IsTrue c.lacks_types.result ↔ LacksTypes plan (g.N.Names.types c.args.names.now) l) c.as_slice-else-lacks_word.ensures c.lacks_types.ensures in
    last_rules c.lacks_types.result (tells_not c.is_outside.result (outside_tells c.args.range.now c.args.head.now c.is_outside.result is_head c.is_outside.ensures) c.if-is_outside.false)
    (tells_not c.lacks_word.result (words is_head.words.rise distinct) c.if-lacks_word.false) types
