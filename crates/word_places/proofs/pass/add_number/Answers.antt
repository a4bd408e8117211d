use Rattle.std.proofs.Common.{inr, refl}
use Rattle.word_places.proofs.pass.add_number.Goals as goal

pub returns-else-has_needle : goal.returns-else-has_needle
returns-else-has_needle c = inr (λ has. absurd (cc (c.has_needle.ensures.1 has, c.if-has_needle.false)), refl)
