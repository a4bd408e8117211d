use Rattle.std.proofs.Common.{rules}
use Rattle.subquery_filter.proofs.BitLemmas.{has_through}
use Rattle.subquery_filter.proofs.SlotLemmas.{is_given}
use Rattle.subquery_filter.proofs.filter.Filter.slot_bits.Goals as goal

pub returns-then-has : goal.returns-then-has
returns-then-has c = λ all more none.
    is_given c.args.self.now c.args.at c.args.words.now all c.in-Some.slot (search rules)
    (λ word here. c.may_bring.ensures all (has_through all c.args.bits c.may_bring.result more (c.has.ensures.yes c.if-has.true)) word)

pub returns : goal.returns
returns c = λ all more brought. is_given c.args.self.now c.args.at c.args.words.now all c.in-Some.slot (search rules) (c.word_bits.ensures all brought)
