use Rattle.log_messages.specs.GroupLaws.{Passes}
use Rattle.line_cut.proofs.GroupLemmas.{torn_message, whole_not_long}
use Rattle.line_cut.proofs.laws.joined_answers.Goals as goal

pub returns : goal.returns
returns c = record { torn = λ test. torn_message (Passes test); whole = whole_not_long }
