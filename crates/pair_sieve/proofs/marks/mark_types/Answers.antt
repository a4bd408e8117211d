use Rattle.std.proofs.Common.{rules}
use Rattle.pair_sieve.specs.Pairs.{HasPair}
use Rattle.pair_sieve.proofs.MarkLemmas.{marks_next}
use Rattle.pair_sieve.proofs.marks.mark_types.Goals as goal

pub loop-number-preserved : goal.loop-number-preserved
loop-number-preserved g c = record {
  count = search rules;
  marks = λ old.
      marks_next (HasPair c.args.pair.before c.args.pair.after) (g.N.Names.types c.args.names.now) c.loop-number.flags.items c.push.new.self.items c.loop-number.number _ c.in-Some.text.now c.has_pair.result
      c.loop-number.invariant.count (search rules) c.in-Some.ensures c.has_pair.ensures (search rules) (c.loop-number.invariant.marks old);
}
