use Rattle.std.specs.Prelude.{IfSome}
use Rattle.pair_sieve.specs.Pairs.{IsPairOf}
use Rattle.pair_sieve.proofs.pair.rarest_pair.Given as goal

abbrev pub invariant-loop-place : goal.invariant-loop-place
invariant-loop-place l = IfSome l.found (λ p. IsPairOf l.items p.before p.after)
