use Rattle.std.proofs.Common.{rules}
use Rattle.std.specs.Prelude.{bit_or}
use Rattle.subquery_filter.proofs.BitLemmas.{has_left, has_right, has_self, has_through}
use Rattle.subquery_filter.proofs.SlotLemmas.{gives_any, gives_word}
use Rattle.subquery_filter.proofs.filter.Filter.any_bits.Goals as goal

pub returns-then-has : goal.returns-then-has
returns-then-has c = λ all more mine.
    gives_word c.args.self.now c.args.words.now c.args.place c.in-Some.word all c.variable_bits-by_word.result (search rules) c.variable_bits-by_word.ensures mine
    (has_through all c.args.bits c.args.self.now.numbers more (c.has.ensures.yes c.if-has.true))

pub returns : goal.returns
returns c = λ all more mine.
    let by_word = c.variable_bits-by_word.result in
    let by_whole = c.variable_bits-by_whole.result in
    let by_decimal = c.variable_bits.result in
    let front = bit_or by_word by_whole in
    let every = bit_or front by_decimal in
    gives_any c.args.self.now c.args.words.now c.args.place c.in-Some.word all by_word by_whole by_decimal (search rules) c.variable_bits-by_word.ensures c.variable_bits-by_whole.ensures c.variable_bits.ensures
    (has_through all every by_word mine (has_left front by_decimal by_word (has_left by_word by_whole by_word (has_self by_word))))
    (has_through all every by_whole mine (has_left front by_decimal by_whole (has_right by_word by_whole)))
    (has_through all every by_decimal mine (has_right front by_decimal))
