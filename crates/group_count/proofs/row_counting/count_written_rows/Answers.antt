use Rattle.std.proofs.Common.{ℕ, List, [], rules, subst, sym}
use Rattle.row_codec.specs.Laid.{AreCut}
use Rattle.std.proofs.lemmas.Result.{err_from_is_err_and}
use Rattle.column_store.specs.Row.{row_of}
use Rattle.search_walk.proofs.AnswerLemmas.{on_err}
use Rattle.search_walk.proofs.ReadyLemmas.{lent_at}
use Rattle.group_count.specs.StepsCounted.{sofar}
use Rattle.group_count.proofs.CountedLemmas.{rows_damaged, rows_end, rows_first, rows_next, rows_stop}
use Rattle.group_count.proofs.row_counting.count_written_rows.Goals as goal

pub loop-place-init : goal.loop-place-init
loop-place-init g c = record {
  past = λ n name number messages other ready are. rows_first g.T.RowTable.counted n c.args.query.now name number c.args.page.now.rows messages (sofar c.args.counts.now c.args.expanded.now) are;
  types = subst (λ (cut : List (List ℕ)). AreCut cut c.args.held.now.types) (sym c.new-writer.ensures) c.requires.types;
}

pub loop-place-preserved : goal.loop-place-preserved
loop-place-preserved g c = record {
  past = λ n name number messages other ready are.
      let lent = lent_at n c.args.query.now c.args.held.now c.args.page.now.rows c.args.verdicts.now c.loop-place.place (row_of c.row-row.result) c.verdict_at-verdict.result are.told ready c.row-row.ensures c.verdict_at-verdict.ensures in
      rows_next g.T.RowTable.counted n c.args.query.now name number c.args.page.now.rows c.loop-place.place (row_of c.row-row.result) messages (sofar c.args.counts.now c.args.expanded.now) (sofar c.loop-place.counts c.loop-place.expanded)
      (sofar c.count_written.new.counts c.count_written.new.expanded) c.row-row.ensures (c.loop-place.invariant.past n name number messages other ready are)
      (λ at message is. c.in_ok-count_written.ensures.done n other lent name at message is);
  types = subst (λ (cut : List (List ℕ)). AreCut cut c.args.held.now.types) (sym c.count_written.ensures.types) c.loop-place.invariant.types;
}

pub returns-in_err-count_written-clause-stopped : goal.returns-in_err-count_written-clause-stopped
returns-in_err-count_written-clause-stopped g c =
    on_err c.from_residual.result _
    (λ n other ready name number messages are.
    rows_stop g.T.RowTable.counted n c.args.query.now name number c.args.page.now.rows c.loop-place.place messages (sofar c.args.counts.now c.args.expanded.now) (sofar c.loop-place.counts c.loop-place.expanded) c.count_written.new.expanded c.in_err-count_written.ensures.ticks
    (c.loop-place.invariant.past n name number messages other ready are))

pub returns-in_err-count_written-clause-damaged : goal.returns-in_err-count_written-clause-damaged
returns-in_err-count_written-clause-damaged g c = λ is n other ready messages are.
    let p = err_from_is_err_and c.from_residual.result c.from_residual.ensures.1 in
    let lent = lent_at n c.args.query.now c.args.held.now c.args.page.now.rows c.args.verdicts.now c.loop-place.place (row_of c.row-row.result) c.verdict_at-verdict.result are.told ready c.row-row.ensures c.verdict_at-verdict.ensures in
    rows_damaged g.T.RowTable.counted n c.args.query.now [] 0 c.args.page.now.rows c.loop-place.place (row_of c.row-row.result) messages (sofar c.args.counts.now c.args.expanded.now) (sofar c.loop-place.counts c.loop-place.expanded) c.row-row.ensures (c.in_err-count_written.ensures.damaged (search (rules, is, p.1, p.2)) n lent)
    (c.loop-place.invariant.past n [] 0 messages other ready are)

pub returns-clause-done : goal.returns-clause-done
returns-clause-done g c = λ n other ready name number messages are.
    rows_end g.T.RowTable.counted n c.args.query.now name number c.args.page.now.rows c.loop-place.place messages (sofar c.args.counts.now c.args.expanded.now) (sofar c.loop-place.counts c.loop-place.expanded) (search rules) (c.loop-place.invariant.past n name number messages other ready are)
