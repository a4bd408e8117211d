use Rattle.std.proofs.Common.{arith}
use Rattle.std.proofs.lemmas.Bool.{true_from_ne_false, iff_false}
use Rattle.token_rules.proofs.ClassLemmas.{classes_more, classes_none, one_further}
use Rattle.token_rules.proofs.tokens.run_from.Goals as goal

pub loop-end-init : goal.loop-end-init
loop-end-init c = record {
  ordered = omega arith;
  in_range = omega arith;
  unbroken = λ k low high. absurd (omega arith);
  classes = classes_none c.args.body.now c.args.start;
}

-- one byte more
pub loop-end-preserved : goal.loop-end-preserved
loop-end-preserved c =
    let so_far = c.loop-end.invariant in
    let class = c.of-class.ensures in
    record {
      ordered = omega arith;
      in_range = omega arith;
      unbroken = one_further c.args.body.now c.args.start c.loop-end.end so_far.unbroken (true_from_ne_false _ (iff_false c.is_delim.ensures c.if-not-is_delim.true));
      classes = classes_more c.args.body.now c.args.start c.loop-end.end so_far.ordered (omega arith) c.loop-end.any c.loop-end.all c.of-class.result so_far.classes class.small class.digit class.letter class.hexadecimal;
    }
