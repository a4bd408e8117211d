use Rattle.std.proofs.Common.{List, ℕ, subst}
use Rattle.std.specs.Prelude.{◌↔◌, IsTrue}
use Rattle.std.specs.List.Sorted.{IsStrictlyIncreasing}
use Rattle.plain_list.specs.Texts.{AreDistinct}
use Rattle.query_plan.specs.Needs.{needed_variables_of}
use Rattle.query_plan.specs.Pieces.{Free, needed_of}
use Rattle.barren_segments.specs.Barren.{LacksTypes, LacksWord}
use Rattle.subquery_filter.specs.Found.{AreNumbers}
use Rattle.subquery_filter.proofs.RuleLemmas.{first_rules, last_rules, outside_tells, tells_not, third_rule}
use Rattle.subquery_filter.proofs.rules.barren_by.Goals as goal

pub returns-then-is_outside : goal.returns-then-is_outside
returns-then-is_outside c = λ names words is_head distinct numbers are.
    let head = c.args.head.now in
    let tells = outside_tells c.args.range.now head c.is_outside.result is_head c.is_outside.ensures in
    first_rules (tells.0 c.if-is_outside.true)

pub returns-else-lacks_found : goal.returns-else-lacks_found
returns-else-lacks_found c = λ names known is_head distinct numbers are.
    let plan = c.args.plan.now in
    let words = subst (λ l. (w : List (List ℕ)) → IsStrictlyIncreasing l → AreDistinct w → AreNumbers w (needed_of Free plan) (needed_variables_of Free plan) c.args.found.now → IsTrue c.lacks_found.result ↔ LacksWord plan w l) c.as_slice.ensures c.lacks_found.ensures in
    let types = subst (λ l. IsTrue c.lacks_told.result ↔ LacksTypes plan names l) c.as_slice-else-lacks_found.ensures (c.lacks_told.ensures plan names are) in
    last_rules c.lacks_told.result (tells_not c.is_outside.result (outside_tells c.args.range.now c.args.head.now c.is_outside.result is_head c.is_outside.ensures) c.if-is_outside.false)
    (tells_not c.lacks_found.result (words known is_head.words.rise distinct numbers) c.if-lacks_found.false) types

pub returns-then-lacks_found : goal.returns-then-lacks_found
returns-then-lacks_found c = λ names known is_head distinct numbers are.
    let plan = c.args.plan.now in
    let words = subst (λ l. (w : List (List ℕ)) → IsStrictlyIncreasing l → AreDistinct w → AreNumbers w (needed_of Free plan) (needed_variables_of Free plan) c.args.found.now → IsTrue c.lacks_found.result ↔ LacksWord plan w l) c.as_slice.ensures c.lacks_found.ensures in
    third_rule c.lacks_found.result c.if-lacks_found.true (words known is_head.words.rise distinct numbers)
