use Rattle.std.proofs.Common.{Some, arith, rules}
use Rattle.subquery_filter.proofs.ClosedLemmas.{closed_by, closed_variable_is}
use Rattle.subquery_filter.proofs.tokens.closed_variable.Goals as goal

pub returns : goal.returns
returns c = λ n is.
    closed_variable_is c.args.pieces.now c.args.text.now n _ (search rules)
    (closed_by c.args.pieces.now c.args.place c.in_ok-before.before c.in_ok-behind.behind c.args.text.now c.in_ok-code.code (omega (arith, c.if-place-eq0.false)) (c.mark_at.ensures c.in_ok-before.before (search rules))
    c.requires (c.mark_at-2.ensures c.in_ok-behind.behind (search rules)) (c.variable_code.ensures.variable c.in_ok-code.code (search rules) (Some c.in_ok-before.before))
    (c.variable_code.ensures.coded c.in_ok-code.code (search rules)))
