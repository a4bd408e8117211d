use Rattle.std.proofs.Common.{sym}
use Rattle.time_patterns.specs.Digits.{digits}
use Rattle.time_patterns.proofs.PairLemmas as pairs
use Rattle.time_patterns.proofs.digits.six_digits.Goals as goal

pub returns : goal.returns
unfolding digits
returns c = rw (c.two_digits.ensures, c.two_digits-2.ensures, c.two_digits-3.ensures) (sym (pairs.six_digits c.args.number))
