use Rattle.std.proofs.Common.{refl}
use Rattle.time_patterns.specs.Digits.{digits}
use Rattle.time_patterns.proofs.digits.three_digits.Goals as goal

pub returns : goal.returns
unfolding digits
returns c = rw (c.two_digits.ensures) refl
