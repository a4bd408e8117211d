use Rattle.std.proofs.Common.{refl}
use Rattle.pair_sieve.proofs.pair.pair_at.Goals as goal

pub returns-then-serves : goal.returns-then-serves
returns-then-serves c = record {
  stands = (c.args.place, c.in_ok-before.ensures.byte, c.in_ok-after.ensures.byte);
  first = c.if-serves.ensures.first refl;
  second = c.if-serves.ensures.second refl;
  stamp = c.if-serves.ensures.stamp refl;
  plain = c.if-serves.ensures.plain refl;
}
