use Rattle.std.proofs.Common.{arith, refl}
use Rattle.dict_tests.proofs.dict_lock_tests.is_fair.Goals as goal

pub returns-then-number-lt-WORDS_FIRST : goal.returns-then-number-lt-WORDS_FIRST
returns-then-number-lt-WORDS_FIRST c = λ _. record {
  type = λ _. record { good = c.if-not-text_ok.ensures.good.0 refl; short = omega arith };
  word = λ high. absurd (omega arith);
  other = λ same. absurd (omega arith);
}
