use Rattle.log_messages.specs.GroupLaws.{Passes}
use Rattle.log_messages.proofs.GroupLemmas.{passes, begins_or_goes_on, never_both}
use Rattle.log_messages.proofs.begins_or_goes_on.Goals as goal

pub returns : goal.returns
returns c = record {
  one = λ test limit. begins_or_goes_on (Passes test) limit (passes test);
  not_both = λ test. never_both (Passes test);
}
