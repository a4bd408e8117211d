use Rattle.std.proofs.Common.{refl, ◌∙◌, ap₂, drop, List, ℕ, rules}
use Rattle.column_store.specs.Row.{row_of}
use Rattle.word_places.specs.Held.{lends}
use Rattle.search_walk.proofs.VerdictLemmas.{certain_matches, decided_inside, lent_canonical, lent_has, lent_spelling}
use Rattle.search_engine.proofs.RowLemmas.{rejected_row}
use Rattle.search_engine.proofs.RowLemmas.{row_passes}
use Rattle.search_engine.proofs.printing.print_row.Goals as goal

pub returns-then-is_rejected-clause-done : goal.returns-then-is_rejected-clause-done
returns-then-is_rejected-clause-done g c = λ n lent w message is.
    rejected_row n c.args.printer.now.query.now (row_of c.args.row) c.args.verdict c.args.label.name.now c.args.label.number message w _ _ _ c.wide_is_wider.ensures.wider (search rules) lent.decided is

pub returns-then-not-branch-clause-damaged : goal.returns-then-not-branch-clause-damaged
returns-then-not-branch-clause-damaged g c = λ _ n lent message is.
    c.in_ok-write_fitting.ensures.misfit (search rules)
    (lent_has n c.args.printer.now.query.now c.args.printer.now.held.now (row_of c.args.row) c.args.verdict message c.rows_are_of_type.ensures.numbers c.rows_are_of_type.ensures.encoding c.rows_are_local.ensures.encoding (c.is_rejected.ensures.no (search rules)) lent is)

pub returns-clause-done : goal.returns-clause-done
returns-clause-done g c = λ n lent w message is.
    let not = c.is_rejected.ensures.no (search rules) in
    let words = lends c.args.printer.now.held.now.records in
    let wrote = c.in_ok-write_fitting.ensures.written (search rules) in
    let cut = c.split_at.ensures.back ∙ ap₂ (λ (n : ℕ) (l : List ℕ). drop n l) (search rules) c.as_slice.ensures.value in
    row_passes n.version c.args.printer.now.query.now c.args.printer.now.query.now.range (row_of c.args.row) n.types words c.args.label.name.now c.args.label.number message wrote.0 w _ _ _ _ _ _ _ _ c.judge-judgement.result c.len-len.result
    c.split_at.result.1.now refl
    (decided_inside n c.args.printer.now.query.now (row_of c.args.row) c.args.verdict not lent.decided)
    (lent_canonical n c.args.printer.now.query.now c.args.printer.now.held.now (row_of c.args.row) c.args.verdict message c.rows_are_of_type.ensures.numbers c.rows_are_local.ensures.encoding not lent is)
    (lent_spelling n c.args.printer.now.query.now c.args.printer.now.held.now (row_of c.args.row) c.args.verdict wrote.0 c.rows_are_of_type.ensures.spelling not lent wrote.1) (search rules) c.in_ok-put_label.ensures wrote.2 cut
    (c.judge-judgement.ensures
    (λ truly.
    certain_matches n c.args.printer.now.query.now c.args.printer.now.held.now (row_of c.args.row) c.args.verdict wrote.0 _ _ c.split_at.result.1.now c.len-start.result c.rows_are_of_type.ensures.numbers c.rows_are_of_type.ensures.spelling c.rows_are_local.ensures.spelling (c.is_certain.ensures truly) not lent wrote.1
    (search rules) wrote.2 (c.split_at.ensures.back ∙ ap₂ (λ (n : ℕ) (l : List ℕ). drop n l) refl c.as_slice.ensures.value)))
    c.in_ok-keep.ensures.kept
