use Rattle.std.proofs.Common.{[], ◌∷◌, ◌++◌, drop}
use Rattle.pair_sieve.specs.Pairs.{Supplies}
use Rattle.pair_sieve.proofs.PairLemmas.{HasOn}
use Rattle.pair_sieve.proofs.marks.can_supply.Given as goal

abbrev pub invariant-loop-byte : goal.invariant-loop-byte
invariant-loop-byte l =
    Supplies l.pair.before l.pair.after l.word → HasOn l.pair.before l.pair.after l.before (drop l.byte-index l.word ++ l.pair.after ∷ [])
