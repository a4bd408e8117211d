use Rattle.std.proofs.Common.{inr}
use Rattle.subquery_filter.proofs.BitLemmas.{has_left}
use Rattle.subquery_filter.proofs.slots.passed_test.Goals as goal

pub returns : goal.returns
returns c = λ plan tokens others slots text all. record {
  right = tt;
  gives = λ tried typed j d lt m. all j d lt;
  slots_are = λ tried listed place kind at. inr (λ words variable word is j d lt m. all j d lt);
  sums_are = λ tried place kind at words variable word is j d lt m. has_left c.args.tokens _ _ (all j d lt);
}
