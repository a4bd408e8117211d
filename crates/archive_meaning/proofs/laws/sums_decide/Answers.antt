use Rattle.archive_meaning.proofs.JudgeLemmas.{admitted, legal_admitted}
use Rattle.archive_meaning.proofs.laws.sums_decide.Goals as goal

pub returns-clause-admitted : goal.returns-clause-admitted
returns-clause-admitted c = admitted

pub returns-clause-legal : goal.returns-clause-legal
returns-clause-legal c = legal_admitted
