use Rattle.std.proofs.Common.{rules}
use Rattle.subquery_filter.proofs.DecimalLemmas.{told_marks}
use Rattle.subquery_filter.proofs.numbers.open_decimal.Goals as goal

pub returns-then-not-are_plain : goal.returns-then-not-are_plain
returns-then-not-are_plain c = λ small. c.printed_decimal.ensures

pub returns-in-Some : goal.returns-in-Some
returns-in-Some c = λ small text is.
    told_marks c.args.tokens.now c.args.word c.number_in.result c.in-Some.bits c.number_in.ensures (c.bits_of.ensures c.args.tokens.now c.in-Some.bits small (search rules)) (c.are_plain.ensures (search rules)) text is

pub returns-in-None : goal.returns-in-None
returns-in-None c = λ small. c.printed_decimal-in-None.ensures
