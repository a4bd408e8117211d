use Rattle.std.proofs.Common.{refl, rules}
use Rattle.search_walk.proofs.PageLemmas.{none_damaged}
use Rattle.search_walk.proofs.PagesReadLemmas.{columns_such}
use Rattle.group_count.specs.StepsCounted.{sofar}
use Rattle.group_count.proofs.ColumnLemmas.{rest_counted, rest_gone}
use Rattle.group_count.proofs.page_counter.count_rest.Goals as goal

pub returns-in_err-count_left-clause-reads : goal.returns-in_err-count_left-clause-reads
returns-in_err-count_left-clause-reads g c = columns_such c.args.context.now.names c.args.pages.now _ _ c.count_left.ensures.reads

pub returns-in_err-count_left-clause-damaged : goal.returns-in_err-count_left-clause-damaged
returns-in_err-count_left-clause-damaged g c = λ is. none_damaged _ c.args.pages.now c.args.context.now.names (c.in_err-count_left.ensures.damaged (search rules))

pub returns-clause-reads : goal.returns-clause-reads
returns-clause-reads g c = columns_such c.args.context.now.names c.args.pages.now _ _ c.count_left.ensures.reads

pub returns-clause-gone : goal.returns-clause-gone
returns-clause-gone g c = rest_gone c.args.pages.now c.pass_rest.new.self c.rows_left-rows.result c.requires.next.page c.pass_rest.ensures.end c.rows_left-rows.ensures

pub returns-clause-done : goal.returns-clause-done
returns-clause-done g c = λ name number ticks.
    rest_counted g.T.RowTable.counted c.args.context.now.names c.args.context.now.query _ c.args.pages.now c.pass_rest.new.self name number c.rows_left-rows.result (sofar c.args.counter.now.counts ticks) (sofar c.count_matched.new.counts ticks) _
    c.requires.all c.left_are_counted.ensures c.rows_left-rows.ensures c.pass_rest.ensures.left c.count_matched.ensures.table c.in_ok-count_left.ensures.counted c.count_matched.ensures.matched c.count_matched.ensures.expanded refl
