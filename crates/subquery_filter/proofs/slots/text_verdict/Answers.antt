use Rattle.std.proofs.Common.{◌∙◌}
use Rattle.subquery_filter.proofs.FilterLemmas.{right_verdict}
use Rattle.subquery_filter.proofs.slots.text_verdict.Goals as goal

pub returns-then-may_be_certain : goal.returns-then-may_be_certain
returns-then-may_be_certain c = λ ps tokens q.
    right_verdict ps tokens c.args.question.now.others c.args.text.now c.verdict_in_order.result
    (c.verdict_in_order.ensures.rejected ps (c.as_slice.ensures ∙ q.skeleton)) (c.verdict_in_order.ensures.certain ps (c.as_slice-wide.ensures ∙ q.wide))
