use Rattle.std.proofs.Common.{◌≤◌, refl, rules}
use Rattle.subquery_filter.specs.declared.needing.Need.TheVariants.{Never, Hit}
use Rattle.subquery_filter.proofs.NeedLemmas.{needs_hit, needs_never}
use Rattle.subquery_filter.proofs.filter.Filter.rejects_row.Goals as goal

pub returns-in-Never-clause-rejected : goal.returns-in-Never-clause-rejected
returns-in-Never-clause-rejected c = λ _ none row typed laid.
    needs_never c.verdicts_hold.ensures.rejected c.verdicts_hold.ensures.certain (c.rows_bring_runs.ensures.runs, c.rows_bring_runs.ensures.closed, c.rows_bring_chunks.ensures) c.args.self.now c.args.log_type Never refl c.in-Never.ensures row typed

pub returns-in-Hit-clause-rejected : goal.returns-in-Hit-clause-rejected
returns-in-Hit-clause-rejected c = λ over none row typed laid p names texts searched is.
    let past : c.args.end ≤ c.next_hit.result = search (rules, over) in
    needs_hit c.one_word.ensures (c.rows_bring_runs.ensures.runs, c.rows_bring_runs.ensures.closed, c.rows_bring_chunks.ensures) c.args.self.now c.args.words.now c.args.start c.args.end c.next_hit.result c.args.log_type Hit refl c.in-Hit.ensures past
    (c.next_hit.ensures none) row typed laid p names texts is
