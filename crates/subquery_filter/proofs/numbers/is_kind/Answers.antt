use Rattle.std.proofs.Common.{rules, tests}
use Rattle.subquery_filter.proofs.NumberLemmas.{is_decimal_kind, is_whole_kind}
use Rattle.subquery_filter.proofs.numbers.is_kind.Goals as goal

pub returns-in-Whole : goal.returns-in-Whole
returns-in-Whole c = λ words variable word has coded.
    let same = is_whole_kind c.one_word.ensures words c.args.kind variable word c.args.code c.in-Whole.field-0 c.in-Whole.is has coded in search (rules, tests)

pub returns-in-Decimal : goal.returns-in-Decimal
returns-in-Decimal c = λ words variable word has coded.
    let same = is_decimal_kind c.one_word.ensures words c.args.kind variable word c.args.code c.in-Decimal.field-0 c.in-Decimal.is has coded in search (rules, tests)
