use Rattle.std.proofs.Common.{rules, tests}
use Rattle.subquery_filter.proofs.ClosedLemmas.{digit_tells}
use Rattle.subquery_filter.proofs.tokens.has_digit.Goals as goal

pub returns-then-is_ascii_digit : goal.returns-then-is_ascii_digit
returns-then-is_ascii_digit c = λ _ before. digit_tells c.args.text.now c.loop-byte.byte-index before (search rules) (search (rules, tests))
