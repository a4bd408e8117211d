use Rattle.std.proofs.Common.{rules}
use Rattle.subquery_filter.proofs.small.SmallNumbers.bits_of.Goals as goal

pub returns-then-word-self : goal.returns-then-word-self
returns-then-word-self c = λ tokens bits tells is. search rules

pub returns : goal.returns
returns c = λ tokens bits tells is. tells.marks c.args.word bits (search rules)
