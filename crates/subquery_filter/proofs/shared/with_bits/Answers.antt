use Rattle.subquery_filter.proofs.PageLemmas.{span_is}
use Rattle.subquery_filter.proofs.shared.with_bits.Goals as goal

pub returns : goal.returns
returns c = λ some.
    span_is c.args.tokens.now c.args.runs.now c.args.pattern _ some (λ moment s low high prints.
    (c.span_runs.ensures moment s low high prints, c.span_tokens.ensures moment s low high prints))
