use Rattle.std.proofs.Common.{rules}
use Rattle.var_codec.specs.declared.Coded.TheVariants.{Decimal as DecimalWord}
use Rattle.subquery_filter.proofs.ClosedLemmas.{both_marks, exact_marks}
use Rattle.subquery_filter.proofs.NumberLemmas.{decimal_part, open_none}
use Rattle.subquery_filter.proofs.numbers.decimal_bits.Goals as goal

pub returns-then-not-has_open : goal.returns-then-not-has_open
returns-then-not-has_open c = λ small coded variable is.
    exact_marks c.one_word.ensures c.args.tokens.now variable (DecimalWord c.args.word) c.coded_bits-exact.result is coded (search rules)
    (open_none c.args.tokens.now variable c.coded_bits-exact.result (c.has_open.ensures (search rules)) (λ t m. decimal_part t variable c.args.word is m))

pub returns : goal.returns
returns c = λ small coded variable is.
    both_marks c.one_word.ensures c.args.tokens.now variable (DecimalWord c.args.word) c.coded_bits-exact.result c.open_decimal.result is coded (search rules) (c.open_decimal.ensures small variable is)
