use Rattle.archive_machine.proofs.LeadLemmas.{legal_growth}
use Rattle.archive_machine.proofs.laws.legal_growth.Goals as goal

pub returns : goal.returns
returns c = legal_growth
