use Rattle.std.proofs.Common.{rules, refl}
use Rattle.std.specs.Prelude.{◌↔◌, false, Some, None, IsTrue}
use Rattle.query_plan.specs.Laws.{HasNot}
use Rattle.query_plan.specs.Needs.{skeleton_of}
use Rattle.query_plan.specs.Pieces.{flat}
use Rattle.wild_match.specs.Matches.{Match}
use Rattle.subquery_filter.specs.StepsLetters.{mark_of, marked_from}
use Rattle.subquery_filter.specs.Verdicts.{BeginsMany}
use Rattle.subquery_filter.proofs.RuleLemmas.{tells_not}
use Rattle.subquery_filter.proofs.VerdictLemmas.{certain_of, constants_tell, not_certain}
use Rattle.subquery_filter.proofs.verdicts.verdict_of.Goals as goal

pub returns-then-not-matches_letters-clause-rejected : goal.returns-then-not-matches_letters-clause-rejected
returns-then-not-matches_letters-clause-rejected c = λ parts same.
    let tells : IsTrue c.matches_letters.result ↔ Match (skeleton_of c.args.plan.now) (marked_from false (mark_of None) c.args.text.now) = search rules in
    let mine = constants_tell (skeleton_of c.args.plan.now) c.args.text.now parts same tells in
    (λ is. tells_not c.matches_letters.result mine c.if-not-matches_letters.true, λ rejected. refl)

pub returns-then-is_certain-clause-rejected : goal.returns-then-is_certain-clause-rejected
returns-then-is_certain-clause-rejected c = λ parts same.
    let tells : IsTrue c.matches_letters.result ↔ Match (skeleton_of c.args.plan.now) (marked_from false (mark_of None) c.args.text.now) = search rules in
    let mine = constants_tell (skeleton_of c.args.plan.now) c.args.text.now parts same tells in
    (λ is. absurd (cc is), λ rejected. absurd (rejected (mine.0 c.if-not-matches_letters.false)))

pub returns-then-is_certain-clause-certain : goal.returns-then-is_certain-clause-certain
returns-then-is_certain-clause-certain c = λ parts same is.
    let tells : IsTrue c.is_certain.result ↔ (BeginsMany (flat c.args.plan.now) × HasNot 10 (flat c.args.plan.now) × Match (flat c.args.plan.now) (marked_from false (mark_of (Some 10)) c.args.text.now)) = search rules in
    certain_of c.args.plan.now c.args.text.now parts same (tells.0 c.if-is_certain.true)

pub returns-else-is_certain-clause-rejected : goal.returns-else-is_certain-clause-rejected
returns-else-is_certain-clause-rejected c = λ parts same.
    let tells : IsTrue c.matches_letters.result ↔ Match (skeleton_of c.args.plan.now) (marked_from false (mark_of None) c.args.text.now) = search rules in
    let mine = constants_tell (skeleton_of c.args.plan.now) c.args.text.now parts same tells in
    (λ is. absurd (cc is), λ rejected. absurd (rejected (mine.0 c.if-not-matches_letters.false)))

pub returns-else-is_certain-clause-tried : goal.returns-else-is_certain-clause-tried
returns-else-is_certain-clause-tried c = λ parts same is.
    let tells : IsTrue c.is_certain.result ↔ (BeginsMany (flat c.args.plan.now) × HasNot 10 (flat c.args.plan.now) × Match (flat c.args.plan.now) (marked_from false (mark_of (Some 10)) c.args.text.now)) = search rules in
    not_certain c.args.plan.now c.args.text.now parts same c.is_certain.result tells c.if-is_certain.false
