use Rattle.std.proofs.Common.{rules}
use Rattle.column_store.specs.Row.{row_of}
use Rattle.subquery_filter.proofs.FilterLemmas.{told_certain, told_verdict}
use Rattle.subquery_filter.proofs.NeedLemmas.{row_lacks_some}
use Rattle.subquery_filter.proofs.filter.Filter.verdict_in.Goals as goal

pub returns-then-lacks_some-clause-told : goal.returns-then-lacks_some-clause-told
returns-then-lacks_some-clause-told c = λ page p types words searched is.
    row_lacks_some c.one_word.ensures (c.rows_bring_runs.ensures.runs, c.rows_bring_runs.ensures.closed, c.rows_bring_chunks.ensures) p types words c.args.self.now is (row_of c.args.row) c.in-Some.verdict (search rules) (search rules) (c.lacks_some.ensures.lacks (search rules) page)

pub returns-clause-told : goal.returns-clause-told
returns-clause-told c = λ page p types words searched is.
    told_verdict c.verdicts_hold.ensures.rejected c.verdicts_hold.ensures.certain (c.rows_bring_runs.ensures.runs, c.rows_bring_runs.ensures.closed, c.rows_bring_chunks.ensures) p searched types words c.args.self.now is (row_of c.args.row) c.in-Some.verdict (search rules)

pub returns-clause-certain : goal.returns-clause-certain
returns-clause-certain c = λ certain p types asks words.
    told_certain c.verdicts_hold.ensures.certain p types words c.args.self.now asks (row_of c.args.row) c.in-Some.verdict (search rules) certain
