use Rattle.query_plan.proofs.SufficeLemmas.{constants_suffice}
use Rattle.query_plan.proofs.laws.constants_suffice.Goals as goal

pub returns : goal.returns
returns c m p s parts one others k = constants_suffice m p s parts one others k
