use Rattle.std.proofs.Common.{subst}
use Rattle.logtype_text.specs.declared.symbols.Kind.{Kind}
use Rattle.row_codec.specs.Means.{HasWord}
use Rattle.subquery_filter.proofs.filter.Filter.variable_bits.Goals as goal

pub returns-in-Whole : goal.returns-in-Whole
returns-in-Whole c = λ words variable marks small coded has.
    (rw (c.as_slice.ensures.value) at c.whole_bits.ensures) small coded words variable (subst (λ (k : Kind). HasWord words k variable c.args.word) c.in-Whole.is has)

pub returns-in-Decimal : goal.returns-in-Decimal
returns-in-Decimal c = λ words variable marks small coded has.
    (rw (c.as_slice-in-Decimal.ensures.value) at c.decimal_bits.ensures) small coded variable (subst (λ (k : Kind). HasWord words k variable c.args.word) c.in-Decimal.is has)
