use Rattle.std.proofs.Common.{refl, rules}
use Rattle.printed_lines.proofs.AnswerLemmas.{on_err}
use Rattle.printed_lines.proofs.RowLemmas.{rows_cut, rows_end, rows_first, rows_kept, rows_misfit, rows_next}
use Rattle.printed_lines.proofs.rows.print_rows.Goals as goal

pub loop-place-init : goal.loop-place-init
loop-place-init g c = record {
  past = λ knows version messages are. rows_first version _ _ c.args.pattern.now c.args.name.now c.args.number c.args.rows.now.rows messages _ _ c.requires.none are;
  counts = refl;
}

pub loop-place-preserved : goal.loop-place-preserved
loop-place-preserved g c = record {
  past = λ knows version messages are.
      rows_next version _ _ c.args.pattern.now c.args.name.now c.args.number c.args.rows.now.rows messages _ c.loop-place.place _ _ _ _ _ _ _ (search rules) c.row-row.ensures
      (c.loop-place.invariant.past knows version messages are) (c.in_ok-print_row.ensures.done (search rules) knows version) c.in_ok-flush_piece.ensures.ok;
  counts = search rules;
}

pub returns-in_err-print_row-clause-front : goal.returns-in_err-print_row-clause-front
returns-in_err-print_row-clause-front g c = on_err c.from_residual.result _ (λ knows version messages are.
    rows_kept version _ _ c.args.pattern.now c.args.name.now c.args.number c.args.rows.now.rows messages _ c.loop-place.place _ _ (c.loop-place.invariant.past knows version messages are))

pub returns-then-not-branch-clause-misfit : goal.returns-then-not-branch-clause-misfit
returns-then-not-branch-clause-misfit g c = λ _ version messages are.
    rows_misfit version _ _ c.args.rows.now.rows messages c.loop-place.place _ c.row-row.ensures (c.in_ok-print_row.ensures.misfit (search rules) version) are

pub returns-in_err-flush_piece-clause-front : goal.returns-in_err-flush_piece-clause-front
returns-in_err-flush_piece-clause-front g c = on_err c.from_residual-in_err-flush_piece.result _ (λ knows version messages are.
    rows_cut version _ _ c.args.pattern.now c.args.name.now c.args.number c.args.rows.now.rows messages _ c.loop-place.place _ _ _ _ _ _ (search rules) c.row-row.ensures
    (c.loop-place.invariant.past knows version messages are) (c.in_ok-print_row.ensures.done (search rules) knows version) c.in_err-flush_piece.ensures.err)

pub returns-clause-done : goal.returns-clause-done
returns-clause-done g c = λ _ knows version messages are.
    rows_end version _ _ c.args.pattern.now c.args.name.now c.args.number c.args.rows.now.rows messages _ c.loop-place.place _ _ (search rules) (c.loop-place.invariant.past knows version messages are)
