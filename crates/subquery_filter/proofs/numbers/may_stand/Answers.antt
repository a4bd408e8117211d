use Rattle.std.proofs.Common.{◌∙◌, ap}
use Rattle.std.specs.Prelude.{false, true}
use Rattle.subquery_filter.proofs.NumberLemmas.{decimal_stands, whole_stands}
use Rattle.subquery_filter.specs.NumberText.{is_digits}
use Rattle.subquery_filter.proofs.numbers.may_stand.Goals as goal

pub returns-in-Whole : goal.returns-in-Whole
returns-in-Whole c = λ words variable word has m. c.is_digits.ensures ∙ ap (is_digits false) c.unsigned.ensures ∙ whole_stands words c.args.kind c.args.text.now variable word c.in-Whole.is has m

pub returns-in-Decimal : goal.returns-in-Decimal
returns-in-Decimal c = λ words variable word has m. c.is_digits-in-Decimal.ensures ∙ ap (is_digits true) c.unsigned-in-Decimal.ensures ∙ decimal_stands words c.args.kind c.args.text.now variable word c.in-Decimal.is has m
