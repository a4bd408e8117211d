use Rattle.std.proofs.Common.{◌≡◌, length}
use Rattle.pair_sieve.specs.Pairs.{HasPair}
use Rattle.pair_sieve.specs.Sieve.{Marks}
use Rattle.pair_sieve.proofs.marks.mark_types.Given as goal

abbrev pub invariant-loop-number : goal.invariant-loop-number
invariant-loop-number g l = record {
  count : l.number ≡ length l.flags.items;
  marks : Marks (HasPair l.pair.before l.pair.after) (g.N.Names.types l.names) l.fn.flags.items → Marks (HasPair l.pair.before l.pair.after) (g.N.Names.types l.names) l.flags.items;
}
