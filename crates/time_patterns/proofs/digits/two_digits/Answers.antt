use Rattle.std.proofs.Common.{refl}
use Rattle.time_patterns.specs.Digits.{digits}
use Rattle.time_patterns.proofs.PairLemmas.{PAIRS_at}
use Rattle.time_patterns.proofs.digits.two_digits.Goals as goal

pub returns : goal.returns
unfolding digits
returns c =
    let pair = PAIRS_at c.args.number c.requires in
    rw (pair.0, pair.1) refl
