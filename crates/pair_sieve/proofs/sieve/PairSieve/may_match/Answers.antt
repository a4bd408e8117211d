use Rattle.std.proofs.Common.{rules, arith}
use Rattle.column_store.specs.Row.{row_of}
use Rattle.pair_sieve.proofs.SieveLemmas.{some_match}
use Rattle.pair_sieve.proofs.sieve.PairSieve.may_match.Goals as goal

pub returns : goal.returns
returns c = λ _.
    some_match c.args.self.now (row_of c.args.row) (search rules) (search rules) (λ i small. c.loop-word.invariant i (omega (arith, small)))
