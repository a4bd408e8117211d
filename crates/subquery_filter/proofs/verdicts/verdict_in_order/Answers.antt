use Rattle.std.proofs.Common.{List, rules, subst}
use Rattle.std.specs.Prelude.{◌↔◌, false, Some, None, IsTrue}
use Rattle.query_plan.specs.Laws.{HasNot}
use Rattle.wild_match.specs.declared.pattern.Item.{Item}
use Rattle.wild_match.specs.Matches.{Match}
use Rattle.subquery_filter.specs.StepsLetters.{mark_of, marked_from}
use Rattle.subquery_filter.specs.Verdicts.{BeginsMany}
use Rattle.query_plan.specs.Needs.{skeleton_of}
use Rattle.subquery_filter.proofs.RuleLemmas.{tells_not}
use Rattle.subquery_filter.proofs.VerdictLemmas.{certain_of, constants_tell}
use Rattle.subquery_filter.proofs.verdicts.verdict_in_order.Goals as goal

pub returns-else-matches_letters-clause-rejected : goal.returns-else-matches_letters-clause-rejected
returns-else-matches_letters-clause-rejected c = λ ps skeleton parts same is.
    let text = c.args.text.now in
    let tells : IsTrue c.matches_letters.result ↔ Match c.args.skeleton.now (marked_from false (mark_of None) text) = search rules in
    let tells_so = subst (λ (items : List Item). IsTrue c.matches_letters.result ↔ Match items (marked_from false (mark_of None) text)) skeleton tells in
    tells_not c.matches_letters.result (constants_tell (skeleton_of ps) text parts same tells_so) c.if-matches_letters.false

pub returns-then-is_certain-clause-certain : goal.returns-then-is_certain-clause-certain
returns-then-is_certain-clause-certain c = λ ps wide parts same is.
    let text = c.args.text.now in
    let holds = subst (λ (items : List Item). BeginsMany items × HasNot 10 items × Match items (marked_from false (mark_of (Some 10)) text)) wide (c.is_certain.ensures.0 c.if-is_certain.true) in
    certain_of ps text parts same holds
