use Rattle.std.proofs.Common.{refl, unsigned_abs}
use Rattle.std.proofs.Math.Nat.{sub-zero}
use Rattle.time_patterns.specs.Digits.{digits, fields_text}
use Rattle.time_patterns.proofs.shape.long_front.Goals as goal

pub returns : goal.returns
unfolding digits fields_text
returns c = λ t date clock. rw (date, clock, sub-zero (unsigned_abs t.date.year)) refl
