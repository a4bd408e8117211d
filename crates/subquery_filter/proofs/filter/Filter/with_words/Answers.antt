use Rattle.std.proofs.Common.{arith, rules}
use Rattle.std.specs.Prelude.{bit_or}
use Rattle.subquery_filter.proofs.BitLemmas.{has_left, has_right, has_self}
use Rattle.subquery_filter.proofs.SlotLemmas.{words_step}
use Rattle.subquery_filter.proofs.filter.Filter.with_words.Goals as goal

pub loop-at-preserved : goal.loop-at-preserved
loop-at-preserved c =
    let l = c.loop-at in
    let more = c.dictionary_bits-all.result in
    let left = has_left l.all more l.all (has_self l.all) in
    (has_left l.all more c.args.bits l.invariant.0, words_step c.args.self.now c.args.words.now c.args.test.now.first l.at l.all more left (c.dictionary_bits-all.ensures (bit_or l.all more) left (has_right l.all more)) l.invariant.1)

pub loop-at-init : goal.loop-at-init
loop-at-init c = (has_self c.args.bits, λ at from to. absurd (omega (arith, from, to)))

pub returns-clause-slots : goal.returns-clause-slots
returns-clause-slots c = λ at from to. c.loop-at.invariant.1 at from (search rules)
