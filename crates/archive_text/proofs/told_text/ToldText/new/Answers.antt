use Rattle.archive_text.proofs.DecideText.{told_value}
use Rattle.archive_text.proofs.told_text.ToldText.new.Goals as goal

pub invariant_of-result : goal.invariant_of-result
invariant_of-result g c = record { has = told_value _ _ }
