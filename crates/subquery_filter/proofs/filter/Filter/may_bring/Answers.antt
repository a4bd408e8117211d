use Rattle.subquery_filter.proofs.SlotLemmas.{own_brings, word_brings}
use Rattle.subquery_filter.proofs.filter.Filter.may_bring.Goals as goal

pub returns-in-Word : goal.returns-in-Word
returns-in-Word c = λ all more. word_brings c.args.self.now c.args.slot all c.in-Word.is more

pub returns-in-Whole : goal.returns-in-Whole
returns-in-Whole c = λ all more. own_brings c.args.self.now c.args.slot all more
