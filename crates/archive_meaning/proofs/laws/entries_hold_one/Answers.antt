use Rattle.archive_meaning.proofs.RunLemmas.{one_held}
use Rattle.archive_meaning.proofs.laws.entries_hold_one.Goals as goal

pub returns : goal.returns
returns c = one_held
