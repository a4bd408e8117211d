use Rattle.archive_meaning.proofs.UniqueLemmas.{legal_back}
use Rattle.archive_meaning.proofs.laws.entries_read_back.Goals as goal

pub returns : goal.returns
returns c = legal_back
