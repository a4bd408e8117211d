use Rattle.std.proofs.Common.{drop}
use Rattle.pair_sieve.specs.Pairs.{HasPair}
use Rattle.pair_sieve.proofs.PairLemmas.{HasOn}
use Rattle.pair_sieve.proofs.marks.has_pair.Given as goal

abbrev pub invariant-loop-byte : goal.invariant-loop-byte
invariant-loop-byte l = HasPair l.pair.before l.pair.after l.text → HasOn l.pair.before l.pair.after l.before (drop l.byte-index l.text)
