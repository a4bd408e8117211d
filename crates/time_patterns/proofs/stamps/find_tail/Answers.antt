use Rattle.std.proofs.Common.{◌-◌, refl, arith}
use Rattle.time_patterns.proofs.PlaceLemmas.{form_at, IsForm_sound}
use Rattle.time_patterns.proofs.StampLemmas.{lack_more}
use Rattle.time_patterns.proofs.stamps.find_tail.Goals as goal

pub read_form-requires : goal.read_form-requires
read_form-requires c = IsForm_sound c.loop-pattern.pattern _ (form_at c.loop-pattern.pattern (c.from.result - 1) _ (omega arith) (omega arith) (omega arith))

pub returns-in-Some-clause-some : goal.returns-in-Some-clause-some
returns-in-Some-clause-some c = record {
  form = _;
  is = form_at c.loop-pattern.pattern (c.from.result - 1) _ (omega arith) (omega arith) (omega arith);
  same = c.in-Some.ensures.some.0;
  tick_is = refl;
  from = omega arith;
  to = omega arith;
  tail = c.in-Some.ensures.some.1;
  least = c.loop-pattern.invariant;
}

pub loop-pattern-preserved : goal.loop-pattern-preserved
loop-pattern-preserved c =
    lack_more c.args.shape c.args.first c.loop-pattern.pattern c.args.text.now c.loop-pattern.invariant _
    (form_at c.loop-pattern.pattern (c.from.result - 1) _ (omega arith) (omega arith) (omega arith)) c.in_default.ensures.none
