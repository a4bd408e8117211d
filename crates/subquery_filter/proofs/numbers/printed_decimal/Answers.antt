use Rattle.std.proofs.Common.{List, ℕ, subst, sym}
use Rattle.subquery_filter.specs.Filter.{MarksOpen}
use Rattle.subquery_filter.proofs.numbers.printed_decimal.Goals as goal

pub returns : goal.returns
returns c = λ text is. subst (λ (t : List ℕ). MarksOpen c.args.tokens.now t c.open_marks.result) (sym (c.decimal_text-len.ensures.only text is)) c.open_marks.ensures
