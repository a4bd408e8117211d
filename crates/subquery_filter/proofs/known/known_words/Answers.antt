use Rattle.std.proofs.Common.{length, ap, arith}
use Rattle.query_plan.specs.Pieces.{Free}
use Rattle.subquery_filter.proofs.RuleLemmas.{flags_long}
use Rattle.subquery_filter.proofs.known.known_words.Goals as goal

pub bounds-variables-place : goal.bounds-variables-place
bounds-variables-place g c =
    let long = flags_long Free c.args.plan.now in
    omega (arith, ap length c.needed_variables-variables.ensures, ap length c.as_slice-words.ensures, ap length c.needed.ensures, long, c.loop-place-test.true)
