use Rattle.archive_meaning.proofs.UniqueLemmas.{one_beginning, one_journal}
use Rattle.archive_meaning.proofs.laws.bytes_stand_for_one.Goals as goal

pub returns-clause-stands : goal.returns-clause-stands
returns-clause-stands c = one_journal

pub returns-clause-begins : goal.returns-clause-begins
returns-clause-begins c = one_beginning
