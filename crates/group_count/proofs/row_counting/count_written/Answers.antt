use Rattle.std.proofs.Common.{◌≡◌, ◌∙◌, ◌++◌, List, ℕ, ap, rules, subst, sym}
use Rattle.column_store.specs.Row.{row_of}
use Rattle.wild_match.specs.Matches.{Match}
use Rattle.query_plan.specs.Pieces.{wide}
use Rattle.group_count.specs.StepsCounted.{sofar}
use Rattle.group_count.proofs.CountedLemmas.{certain_matches, none_written, rejected_passes, written_passes}
use Rattle.group_count.proofs.row_counting.count_written.Goals as goal

pub returns-then-is_rejected-clause-done : goal.returns-then-is_rejected-clause-done
returns-then-is_rejected-clause-done g c = λ n other lent name number message is.
    rejected_passes g.T.RowTable.counted n c.args.query.now (row_of c.args.row) c.args.verdict name number message (sofar c.args.counts.now c.args.expanded.now) c.wide_is_wider.ensures.wider (c.is_rejected.ensures.yes (search rules)) lent.decided is

pub returns-then-not-branch-clause-damaged : goal.returns-then-not-branch-clause-damaged
returns-then-not-branch-clause-damaged g c = λ _ n lent message is.
    none_written n c.args.query.now c.args.held.now (row_of c.args.row) c.args.verdict (record { numbers = c.rows_are_of_type.ensures.numbers; spelling_of = c.rows_are_of_type.ensures.spelling; encoding_of = c.rows_are_of_type.ensures.encoding; spelling = c.rows_are_local.ensures.spelling; encoding = c.rows_are_local.ensures.encoding }) (c.is_rejected.ensures.no (search rules)) (c.in_ok-write_fitting.ensures.misfit (search rules)) lent message is

pub returns-clause-done : goal.returns-clause-done
returns-clause-done g c = λ n other lent name number message is.
    let q = c.args.query.now in
    let row = row_of c.args.row in
    let not = c.is_rejected.ensures.no (search rules) in
    let wrote = c.in_ok-write_fitting.ensures.written (search rules) in
    let text : c.as_slice.result.now ≡ wrote.0 = ◌∙◌ {A = List ℕ} c.as_slice.ensures.value (◌∙◌ {A = List ℕ} wrote.2 (ap (λ (l : List ℕ). l ++ wrote.0) c.clear.ensures.items)) in
    written_passes g.T.RowTable.counted n q c.args.held.now row c.args.verdict name number message wrote.0 c.as_slice.result.now c.judge-judgement.result (sofar c.args.counts.now c.args.expanded.now)
    (sofar c.count_judged.new.counts c.count_judged.new.expanded) (record { numbers = c.rows_are_of_type.ensures.numbers; spelling_of = c.rows_are_of_type.ensures.spelling; encoding_of = c.rows_are_of_type.ensures.encoding; spelling = c.rows_are_local.ensures.spelling; encoding = c.rows_are_local.ensures.encoding }) not other lent is wrote.1 text
    (c.judge-judgement.ensures
    (λ truly. subst (Match (wide q.pattern)) (sym text) (certain_matches n q c.args.held.now row c.args.verdict wrote.0 (record { numbers = c.rows_are_of_type.ensures.numbers; spelling_of = c.rows_are_of_type.ensures.spelling; encoding_of = c.rows_are_of_type.ensures.encoding; spelling = c.rows_are_local.ensures.spelling; encoding = c.rows_are_local.ensures.encoding }) (c.is_certain.ensures truly) not lent wrote.1)))
    c.in_ok-count_judged.ensures.counted
