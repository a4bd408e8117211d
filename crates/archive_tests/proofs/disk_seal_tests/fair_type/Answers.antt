use Rattle.std.proofs.Common.{arith, refl}
use Rattle.archive_tests.proofs.disk_seal_tests.fair_type.Goals as goal

pub returns : goal.returns
returns c = λ _. record { good = c.if-not-text_ok.ensures.good.0 refl; short = omega arith }
