use Rattle.std.proofs.Common.{rules}
use Rattle.pair_sieve.specs.Pairs.{Supplies}
use Rattle.pair_sieve.proofs.MarkLemmas.{marks_next}
use Rattle.pair_sieve.proofs.marks.mark_words.Goals as goal

pub loop-number-preserved : goal.loop-number-preserved
loop-number-preserved g c = record {
  count = search rules;
  marks = λ old.
      marks_next (Supplies c.args.pair.before c.args.pair.after) (g.N.Names.words c.args.names.now) c.loop-number.flags.items c.push.new.self.items c.loop-number.number _ c.in-Some.word.now c.can_supply.result
      c.loop-number.invariant.count (search rules) c.in-Some.ensures.found c.can_supply.ensures (search rules) (c.loop-number.invariant.marks old);
}
