use Rattle.std.proofs.Common.{refl}
use Rattle.subquery_filter.proofs.RuleLemmas.{tells_not}
use Rattle.subquery_filter.proofs.RunLemmas.{holds_none, holds_then, run_here}
use Rattle.subquery_filter.proofs.runs.is_run.Goals as goal

pub returns-then-begins_here : goal.returns-then-begins_here
returns-then-begins_here c =
    let l = c.loop-rest in
    let both = c.begins_here.ensures.0 c.if-begins_here.true in
    (λ t. l.invariant.1 (run_here l.may_begin l.rest.now c.args.word.now both.0 both.1), λ holds. refl)

pub returns-in_default : goal.returns-in_default
returns-in_default c =
    let l = c.loop-rest in
    let other = tells_not c.begins_here.result c.begins_here.ensures c.if-begins_here.false in
    (λ f. absurd (cc f), λ holds. absurd (holds_none l.may_begin l.rest.now c.args.word.now c.in_default.ensures.none other l.invariant holds))

pub loop-rest-preserved : goal.loop-rest-preserved
loop-rest-preserved c =
    let l = c.loop-rest in
    let other = tells_not c.begins_here.result c.begins_here.ensures c.if-begins_here.false in
    holds_then l.may_begin l.rest.now c.args.word.now c.in-Some.symbol c.in-Some.after.now c.ends_run-may_begin.result c.in-Some.ensures.some c.ends_run-may_begin.ensures other l.invariant
