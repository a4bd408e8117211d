use Rattle.std.proofs.Common.{◌+◌, ◌∙◌, arith}
use Rattle.query_plan.specs.Slots.{MayBegin}
use Rattle.query_plan.specs.StepsStanding.{IsReached, IsRefused}
use Rattle.query_plan.proofs.StandingLemmas.{ahead_is, found_at, missed_more, missed_rest, refused}
use Rattle.query_plan.proofs.slots.begins_behind.Goals as goal
use Rattle.query_plan.proofs.slots.begins_behind.Goals.{else-is_reached-via-then-is_reached+else-may_begin, else-is_reached-via-else-is_reached}

pub loop-ahead-preserved : goal.loop-ahead-preserved
loop-ahead-preserved c =
    let l = c.loop-ahead in
    let before = c.args.before in
    let text = c.args.text.now in
    let log_type = c.args.log_type.now in
    let at = l.from + c.in-Some.ahead in
    let found = found_at c.args.byte log_type l.from c.in-Some.ahead l.invariant.0 c.in-Some.ensures in
    let here : IsReached before log_type at → IsRefused text log_type at =
    elim c.else-is_reached.branch [
      | else-is_reached-via-then-is_reached+else-may_begin w ↦
          λ reached symbols typed. refused w.may_begin.result (MayBegin text symbols) w.if-may_begin.false (w.may_begin.ensures symbols (ahead_is log_type at ∙ typed)).1
      | else-is_reached-via-else-is_reached w ↦
          λ reached. absurd (refused c.is_reached.result (IsReached before log_type at) w.if-is_reached.false c.is_reached.ensures reached)
    ] in (
      omega (arith, found.0),
      missed_more c.args.byte (λ k. IsReached before log_type k → IsRefused text log_type k) log_type l.from c.in-Some.ahead l.invariant.0 l.invariant.1 c.in-Some.ensures
          (λ stands. here),
    )

pub returns : goal.returns
returns c = λ no.
    let log_type = c.args.log_type.now in
    let l = c.loop-ahead in
    missed_rest c.args.byte (λ k. IsReached c.args.before log_type k → IsRefused c.args.text.now log_type k) log_type l.from l.invariant.0 l.invariant.1 c.in_default.ensures
