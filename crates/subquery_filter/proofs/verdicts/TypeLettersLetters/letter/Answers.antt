use Rattle.std.proofs.Common.{sym, ◌∙◌}
use Rattle.subquery_filter.specs.StepsLetters.{mark_of}
use Rattle.subquery_filter.proofs.VerdictLemmas.{marked_stuck}
use Rattle.subquery_filter.proofs.verdicts.TypeLettersLetters.letter.Goals as goal

pub returns-in_err-symbol-clause-none : goal.returns-in_err-symbol-clause-none
returns-in_err-symbol-clause-none c =
    let l = c.loop-symbol.self in
    let nothing = marked_stuck (mark_of l.mark) l.text.now c.in_err-symbol.ensures.none in
    rw c.from_residual.ensures (sym c.loop-symbol.invariant ∙ nothing, nothing)
