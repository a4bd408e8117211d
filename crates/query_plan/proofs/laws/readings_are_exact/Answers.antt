use Rattle.query_plan.proofs.ExactLemmas.{exact}
use Rattle.query_plan.proofs.PartsLemmas.{symbols_of}
use Rattle.query_plan.proofs.laws.readings_are_exact.Goals as goal

pub returns : goal.returns
returns c p s body parts widened behind are = exact p s body parts widened behind (symbols_of c.parts_are_cut.ensures body parts are)
