use Rattle.std.proofs.Common.{List, ℕ, length, ap, refl, arith, length-append}
use Rattle.record_format.specs.Lists.{four_bytes}
use Rattle.record_format.proofs.ListLemmas.{length-four_bytes}
use Rattle.record_format.proofs.texts.texts_front.Goals as goal

pub returns-in_err-count-clause-none : goal.returns-in_err-count-clause-none
returns-in_err-count-clause-none c = λ _. omega (
  arith,
  ap (λ (l : List ℕ). length l) c.in_ok-first.ensures.some,
  length-append (four_bytes c.in_ok-first.first) c.in_ok-first.rest.now,
  length-four_bytes c.in_ok-first.first,
  c.in_err-count.ensures.none refl,
)
