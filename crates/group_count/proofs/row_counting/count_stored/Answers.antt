use Rattle.std.proofs.Common.{refl, rules}
use Rattle.column_store.specs.Row.{row_of}
use Rattle.group_count.specs.StepsCounted.{sofar}
use Rattle.group_count.proofs.CountedLemmas.{none_stored, rejected_passes, stored_found, stored_left}
use Rattle.group_count.proofs.row_counting.count_stored.Goals as goal

pub returns-then-is_rejected-clause-done : goal.returns-then-is_rejected-clause-done
returns-then-is_rejected-clause-done g c = λ n plain lent name number ticks message is.
    rejected_passes g.T.RowTable.counted n c.args.query.now (row_of c.args.row) c.args.verdict name number message (sofar c.args.counts.now ticks) c.wide_is_wider.ensures.wider (c.is_rejected.ensures.yes (search rules)) lent.decided is

pub returns-in-None-clause-damaged : goal.returns-in-None-clause-damaged
returns-in-None-clause-damaged g c = λ _ n lent message is.
    none_stored n c.args.query.now c.args.held.now (row_of c.args.row) c.args.verdict (record { numbers = c.rows_are_of_type.ensures.numbers; spelling_of = c.rows_are_of_type.ensures.spelling; encoding_of = c.rows_are_of_type.ensures.encoding; spelling = c.rows_are_local.ensures.spelling; encoding = c.rows_are_local.ensures.encoding }) (c.is_rejected.ensures.no (search rules)) (c.in-None.ensures.damaged refl) lent message is

pub returns-in_ok-count_found-in-Some-true-clause-done : goal.returns-in_ok-count_found-in-Some-true-clause-done
returns-in_ok-count_found-in-Some-true-clause-done g c = λ n plain lent name number ticks message is.
    stored_found g.T.RowTable.counted n c.args.query.now c.args.held.now (row_of c.args.row) c.args.verdict c.plan.result.now (record { numbers = c.rows_are_of_type.ensures.numbers; spelling_of = c.rows_are_of_type.ensures.spelling; encoding_of = c.rows_are_of_type.ensures.encoding; spelling = c.rows_are_local.ensures.spelling; encoding = c.rows_are_local.ensures.encoding }) (c.is_rejected.ensures.no (search rules))
    c.plan.ensures plain lent c.in-Some-true.field-0 name number message (sofar c.args.counts.now ticks) (sofar c.count_found.new.counts ticks) (search rules) c.in-Some-true.ensures.found is (c.in_ok-count_found-in-Some-true.ensures ticks)

pub returns-in-Some-false-clause-done : goal.returns-in-Some-false-clause-done
returns-in-Some-false-clause-done g c = λ n plain lent name number ticks message is.
    stored_left g.T.RowTable.counted n c.args.query.now c.args.held.now (row_of c.args.row) c.args.verdict c.plan.result.now (record { numbers = c.rows_are_of_type.ensures.numbers; spelling_of = c.rows_are_of_type.ensures.spelling; encoding_of = c.rows_are_of_type.ensures.encoding; spelling = c.rows_are_local.ensures.spelling; encoding = c.rows_are_local.ensures.encoding }) (c.is_rejected.ensures.no (search rules))
    c.plan.ensures plain lent c.in-Some-false.field-0 name number message (sofar c.args.counts.now ticks) (search rules) c.in-Some-false.ensures.found is
