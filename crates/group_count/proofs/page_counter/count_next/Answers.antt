use Rattle.std.proofs.Common.{List, rules, subst, sym}
use Rattle.subquery_filter.specs.declared.verdicts.Verdict.{Verdict}
use Rattle.search_walk.specs.Ready.{IsReadyPage}
use Rattle.search_walk.proofs.AnswerLemmas.{on_err}
use Rattle.search_walk.proofs.PageLemmas.{past_page}
use Rattle.group_count.specs.StepsCounted.{Passes, sofar}
use Rattle.group_count.proofs.WalkedLemmas.{page_damaged, page_stopped, page_unread}
use Rattle.group_count.proofs.page_counter.count_next.Goals as goal

pub returns-in_err-read_page-clause-stopped : goal.returns-in_err-read_page-clause-stopped
returns-in_err-read_page-clause-stopped g c = on_err c.from_residual.result _ (λ name number. page_unread _ c.args.pages.now c.args.context.now.names c.args.context.now.query c.args.expanded.now name number)

pub count_rows-requires-clause-ready : goal.count_rows-requires-clause-ready
count_rows-requires-clause-ready g c =
    subst (λ (vs : List Verdict). IsReadyPage c.args.context.now.names c.args.context.now.query c.read_page.new.held c.read_page.new.room.columns.rows vs) (sym c.as_slice.ensures.value) c.in_ok-read_page.ensures.page.ready

pub returns-in_err-count_rows-clause-stopped : goal.returns-in_err-count_rows-clause-stopped
returns-in_err-count_rows-clause-stopped g c =
    on_err c.from_residual-in_err-count_rows.result _
    (page_stopped _ c.args.pages.now c.read_page.new.pages c.args.context.now.names c.args.context.now.query c.read_page.new.room.columns.rows c.args.expanded.now c.count_rows.new.expanded c.in_ok-read_page.ensures.page.next c.in_err-count_rows.ensures.stopped)

pub returns-in_err-count_rows-clause-damaged : goal.returns-in_err-count_rows-clause-damaged
returns-in_err-count_rows-clause-damaged g c = λ is.
    page_damaged _ c.args.pages.now c.read_page.new.pages c.args.context.now.names c.read_page.new.room.columns.rows c.in_ok-read_page.ensures.page.next (c.in_err-count_rows.ensures.damaged (search rules))

pub returns-clause-served : goal.returns-clause-served
returns-clause-served g c = record { serves = c.in_ok-read_page.ensures.page.ready.serves; way = c.requires.served.way }

pub returns-clause-gone : goal.returns-clause-gone
returns-clause-gone g c = (c.read_page.new.room.columns.rows, c.in_ok-read_page.ensures.page.after, c.in_ok-read_page.ensures.page.count, search rules)

pub returns-clause-done : goal.returns-clause-done
returns-clause-done g c = λ name number.
    let n = c.args.context.now.names in
    let q = c.args.context.now.query in
    past_page (λ l. Passes g.T.RowTable.counted n q l (sofar c.args.counter.now.counts c.args.expanded.now) (sofar c.count_rows.new.counts c.count_rows.new.expanded)) _ c.args.pages.now c.read_page.new.pages n name number _ c.read_page.new.room.columns.rows
    c.in_ok-read_page.ensures.page.next (search rules) (c.in_ok-count_rows.ensures.done name number)
