use Rattle.std.proofs.Common.{[], rules}
use Rattle.std.proofs.lemmas.Result.{err_from_is_err_and}
use Rattle.search_walk.proofs.ReadyLemmas.{lent_at}
use Rattle.column_store.specs.Row.{row_of}
use Rattle.group_count.specs.StepsCounted.{sofar}
use Rattle.group_count.proofs.CountedLemmas.{rows_damaged, rows_end, rows_first, rows_next}
use Rattle.group_count.proofs.row_counting.count_stored_rows.Goals as goal

pub loop-place-init : goal.loop-place-init
loop-place-init g c = λ n name number ticks messages plain ready are. rows_first g.T.RowTable.counted n c.args.query.now name number c.args.page.now.rows messages (sofar c.args.counts.now ticks) are

pub loop-place-preserved : goal.loop-place-preserved
loop-place-preserved g c = λ n name number ticks messages plain ready are.
    let lent = lent_at n c.args.query.now c.args.held.now c.args.page.now.rows c.args.verdicts.now c.loop-place.place (row_of c.row-row.result) c.verdict_at-verdict.result are.told ready c.row-row.ensures c.verdict_at-verdict.ensures in
    rows_next g.T.RowTable.counted n c.args.query.now name number c.args.page.now.rows c.loop-place.place (row_of c.row-row.result) messages (sofar c.args.counts.now ticks) (sofar c.loop-place.counts ticks) (sofar c.count_stored.new.counts ticks) c.row-row.ensures
    (c.loop-place.invariant n name number ticks messages plain ready are)
    (λ at message is. c.in_ok-count_stored.ensures.done n plain lent name at ticks message is)

pub returns-in_err-count_stored-clause-damaged : goal.returns-in_err-count_stored-clause-damaged
returns-in_err-count_stored-clause-damaged g c = λ is n plain ready messages are.
    let p = err_from_is_err_and c.from_residual.result c.from_residual.ensures.1 in
    let lent = lent_at n c.args.query.now c.args.held.now c.args.page.now.rows c.args.verdicts.now c.loop-place.place (row_of c.row-row.result) c.verdict_at-verdict.result are.told ready c.row-row.ensures c.verdict_at-verdict.ensures in
    rows_damaged g.T.RowTable.counted n c.args.query.now [] 0 c.args.page.now.rows c.loop-place.place (row_of c.row-row.result) messages (sofar c.args.counts.now 0) (sofar c.loop-place.counts 0) c.row-row.ensures (c.in_err-count_stored.ensures.damaged (search (rules, is, p.1, p.2)) n lent)
    (c.loop-place.invariant n [] 0 0 messages plain ready are)

pub returns-clause-done : goal.returns-clause-done
returns-clause-done g c = λ n plain ready name number ticks messages are.
    rows_end g.T.RowTable.counted n c.args.query.now name number c.args.page.now.rows c.loop-place.place messages (sofar c.args.counts.now ticks) (sofar c.loop-place.counts ticks) (search rules) (c.loop-place.invariant n name number ticks messages plain ready are)
