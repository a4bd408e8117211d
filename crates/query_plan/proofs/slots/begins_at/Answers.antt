use Rattle.std.proofs.Common.{◌+◌, ◌∙◌, arith}
use Rattle.query_plan.specs.Slots.{MayBegin}
use Rattle.query_plan.specs.StepsStanding.{IsRefused}
use Rattle.query_plan.proofs.StandingLemmas.{ahead_is, found_at, missed_more, missed_rest, refused}
use Rattle.query_plan.proofs.slots.begins_at.Goals as goal

pub returns-then-may_begin-clause-found : goal.returns-then-may_begin-clause-found
returns-then-may_begin-clause-found c = λ yes.
    let l = c.loop-ahead in
    let log_type = c.args.log_type.now in
    let at = l.from + c.in-Some.ahead in (
      at,
      found_at c.args.byte log_type l.from c.in-Some.ahead l.invariant.0 c.in-Some.ensures,
      λ symbols typed. (c.may_begin.ensures symbols (ahead_is log_type at ∙ typed)).0 c.if-may_begin.true,
    )

pub loop-ahead-preserved : goal.loop-ahead-preserved
loop-ahead-preserved c =
    let l = c.loop-ahead in
    let text = c.args.text.now in
    let log_type = c.args.log_type.now in
    let at = l.from + c.in-Some.ahead in
    let found = found_at c.args.byte log_type l.from c.in-Some.ahead l.invariant.0 c.in-Some.ensures in (
      omega (arith, found.0),
      missed_more c.args.byte (IsRefused text log_type) log_type l.from c.in-Some.ahead l.invariant.0 l.invariant.1 c.in-Some.ensures
          (λ here symbols typed. refused c.may_begin.result (MayBegin text symbols) c.if-may_begin.false (c.may_begin.ensures symbols (ahead_is log_type at ∙ typed)).1),
    )

pub returns-clause-missed : goal.returns-clause-missed
returns-clause-missed c = λ no. missed_rest c.args.byte (IsRefused c.args.text.now c.args.log_type.now) c.args.log_type.now c.loop-ahead.from c.loop-ahead.invariant.0 c.loop-ahead.invariant.1 c.in_default.ensures
