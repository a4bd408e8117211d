use Rattle.std.proofs.Common.{◌∙◌, ℕ, List, rules, subst, sym}
use Rattle.row_codec.specs.Laid.{AreCut}
use Rattle.std.proofs.lemmas.Result.{err_from_is_err_and}
use Rattle.search_walk.proofs.ReadyLemmas.{lent_at}
use Rattle.search_walk.proofs.AnswerLemmas.{on_err}
use Rattle.search_engine.proofs.RowLemmas.{rows_damaged, rows_end, rows_first, rows_next, rows_ticks}
use Rattle.search_engine.proofs.printing.print_page.Goals as goal

pub loop-place-init : goal.loop-place-init
loop-place-init g c = record {
  past = λ n messages ready are. rows_first n c.args.printer.now.query.now c.args.label.name.now c.args.label.number c.args.page.now.rows messages _ _ _ are;
  types = subst (λ (cut : List (List ℕ)). AreCut cut c.args.printer.now.held.now.types) (sym c.new-writer.ensures) c.requires.types;
}

pub loop-place-preserved : goal.loop-place-preserved
loop-place-preserved g c = record {
  past = λ n messages ready are.
      let lent = lent_at n c.args.printer.now.query.now c.args.printer.now.held.now c.args.page.now.rows c.args.verdicts.now c.loop-place.place _ c.verdict_at-verdict.result are.told ready c.row-row.ensures c.verdict_at-verdict.ensures in
      rows_next n c.args.printer.now.query.now c.args.label.name.now c.args.label.number _ c.args.page.now.rows c.loop-place.place _ messages _ _ _ (search rules) c.row-row.ensures
      (c.loop-place.invariant.past n messages ready are) (c.in_ok-print_row.ensures.done n lent);
  types = subst (λ (cut : List (List ℕ)). AreCut cut c.args.printer.now.held.now.types) (sym (c.print_row.ensures.types ∙ c.look_ahead.ensures)) c.loop-place.invariant.types;
}

pub returns-in_err-print_row-clause-ticks : goal.returns-in_err-print_row-clause-ticks
returns-in_err-print_row-clause-ticks g c =
    on_err c.from_residual.result _ (λ n ready messages are.
    rows_ticks n c.args.printer.now.query.now c.args.label.name.now c.args.label.number c.args.page.now.rows c.loop-place.place messages _ _ c.print_row.new.expanded c.in_err-print_row.ensures.ticks
    (c.loop-place.invariant.past n messages ready are))

pub returns-in_err-print_row-clause-damaged : goal.returns-in_err-print_row-clause-damaged
returns-in_err-print_row-clause-damaged g c = λ is n ready messages are.
    let p = err_from_is_err_and c.from_residual.result c.from_residual.ensures.1 in
    let lent = lent_at n c.args.printer.now.query.now c.args.printer.now.held.now c.args.page.now.rows c.args.verdicts.now c.loop-place.place _ c.verdict_at-verdict.result are.told ready c.row-row.ensures c.verdict_at-verdict.ensures in
    rows_damaged n c.args.printer.now.query.now c.args.label.name.now c.args.label.number c.args.page.now.rows c.loop-place.place _ messages _ _ c.row-row.ensures
    (c.in_err-print_row.ensures.damaged (search (rules, is, p.1, p.2)) n lent) (c.loop-place.invariant.past n messages ready are)

pub returns-clause-done : goal.returns-clause-done
returns-clause-done g c = λ n ready w messages are.
    rows_end n c.args.printer.now.query.now c.args.label.name.now c.args.label.number c.args.page.now.rows c.loop-place.place messages _ _ (search rules) (c.loop-place.invariant.past n messages ready are) w
