use Rattle.std.proofs.Common.{◌≡◌, ◌∙◌, ap₂, drop, length, List, ℕ, rules}
use Rattle.column_store.specs.Row.{row_of}
use Rattle.printed_lines.proofs.RowLemmas.{has_spelling, row_lines, row_passed}
use Rattle.printed_lines.proofs.line.print_row.Goals as goal

pub returns-then-not-may_match-clause-done : goal.returns-then-not-may_match-clause-done
returns-then-not-may_match-clause-done g c = λ _ knows version message is.
    row_passed c.args.pattern.now c.args.name.now c.args.number message _ (c.may_match.ensures (search rules) c.args.pattern.now _ _ knows version message is)

pub returns-then-not-branch-clause-misfit : goal.returns-then-not-branch-clause-misfit
returns-then-not-branch-clause-misfit g c = λ _ version message is.
    c.in_ok-write_fitting.ensures.misfit (search rules) (has_spelling version (row_of c.args.row) _ _ message is)

pub returns-clause-done : goal.returns-clause-done
returns-clause-done g c = λ _ knows version message is.
    let wrote = c.in_ok-write_fitting.ensures.written (search rules) in
    let at : c.len-start.result ≡ length c.put_label.new.gathered.items = search rules in
    let cut = c.split_at.ensures.back ∙ ap₂ (λ (n : ℕ) (l : List ℕ). drop n l) at c.as_slice.ensures.value in
    row_lines c.args.pattern.now version (row_of c.args.row) _ _ c.args.name.now c.args.number message wrote.0 _ _ _ _ c.split_at.result.1.now c.matches-matched.result c.len-len.result
    is wrote.1 (search rules) c.in_ok-put_label.ensures wrote.2 cut c.matches-matched.ensures c.in_ok-end_line.ensures
