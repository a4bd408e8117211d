use Rattle.log_messages.specs.GroupLaws.{Passes}
use Rattle.log_messages.proofs.GroupLawLemmas.{group_messages_empty, group_messages_first, group_messages_open, followed_by_lines}
use Rattle.log_messages.proofs.group_by_group.Goals as goal

pub returns : goal.returns
returns c = record {
  nothing = λ test. group_messages_empty (Passes test);
  group = λ test. group_messages_first (Passes test);
  last = λ test. group_messages_open (Passes test);
  first = λ test. followed_by_lines (Passes test);
}
