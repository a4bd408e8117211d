use Rattle.std.proofs.Common.{◌≡◌, length}
use Rattle.pair_sieve.specs.Pairs.{Supplies}
use Rattle.pair_sieve.specs.Sieve.{Marks}
use Rattle.pair_sieve.proofs.marks.mark_words.Given as goal

abbrev pub invariant-loop-number : goal.invariant-loop-number
invariant-loop-number g l = record {
  count : l.number ≡ length l.flags.items;
  marks : Marks (Supplies l.pair.before l.pair.after) (g.N.Names.words l.names) l.fn.flags.items → Marks (Supplies l.pair.before l.pair.after) (g.N.Names.words l.names) l.flags.items;
}
