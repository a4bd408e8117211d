use Rattle.disk_journal.proofs.SpellingLemmas.{stands_one}
use Rattle.disk_journal.proofs.laws.stand_for_one.Goals as goal

pub returns : goal.returns
returns c = stands_one
