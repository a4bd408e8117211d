use Rattle.std.proofs.Common.{rules}
use Rattle.subquery_filter.proofs.SlotLemmas.{gives_brought, gives_short}
use Rattle.subquery_filter.proofs.filter.Filter.word_bits.Goals as goal

pub returns-in-Some : goal.returns-in-Some
returns-in-Some c = λ all more. gives_brought c.args.self.now c.args.slot c.args.words.now all c.variable_bits.result c.in-Some.word (search rules) more c.variable_bits.ensures

pub returns-in-None : goal.returns-in-None
returns-in-None c = λ all more. gives_short c.args.self.now c.args.slot c.args.words.now all (search rules)
