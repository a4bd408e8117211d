use Rattle.log_messages.specs.GroupLaws.{Passes}
use Rattle.log_messages.proofs.GroupLemmas.{passes}
use Rattle.log_messages.proofs.GroupLawLemmas.{group_messages_exist, group_messages_agree, group_messages_join}
use Rattle.log_messages.proofs.one_grouped_answer.Goals as goal

pub returns : goal.returns
returns c = record {
  exists = λ test limit. group_messages_exist (Passes test) limit (passes test);
  unique = λ test. group_messages_agree (Passes test);
  joins = λ test. group_messages_join (Passes test);
}
