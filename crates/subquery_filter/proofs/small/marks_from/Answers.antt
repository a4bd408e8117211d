use Rattle.std.proofs.Common.{rules}
use Rattle.subquery_filter.proofs.small.marks_from.Goals as goal

pub returns-then-word-least : goal.returns-then-word-least
returns-then-word-least c = λ least. least c.args.word (search rules)

pub returns : goal.returns
returns c = λ least. c.whole_marks.ensures
