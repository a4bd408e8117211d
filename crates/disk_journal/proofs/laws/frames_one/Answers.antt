use Rattle.disk_journal.proofs.SpellingLemmas.{saved_of-frame}
use Rattle.disk_journal.proofs.laws.frames_one.Goals as goal

pub returns : goal.returns
returns c = saved_of-frame
