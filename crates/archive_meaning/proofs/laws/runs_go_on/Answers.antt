use Rattle.archive_meaning.proofs.RunLemmas.{runs_go_on, runs_split}
use Rattle.archive_meaning.proofs.laws.runs_go_on.Goals as goal

pub returns-clause-joined : goal.returns-clause-joined
returns-clause-joined c = runs_go_on

pub returns-clause-split : goal.returns-clause-split
returns-clause-split c = runs_split
