use Rattle.std.proofs.Common.{subst}
use Rattle.logtype_text.specs.declared.symbols.Kind.{Kind}
use Rattle.row_codec.specs.Means.{HasWord}
use Rattle.subquery_filter.proofs.slots.KindBits.of.Goals as goal

pub returns-in-Whole : goal.returns-in-Whole
returns-in-Whole c = λ tokens are words variable word has k d lt m. are.whole words variable word (subst (λ (x : Kind). HasWord words x variable word) c.in-Whole.is has) k d lt m

pub returns-in-Decimal : goal.returns-in-Decimal
returns-in-Decimal c = λ tokens are words variable word has k d lt m. are.decimal words variable word (subst (λ (x : Kind). HasWord words x variable word) c.in-Decimal.is has) k d lt m
