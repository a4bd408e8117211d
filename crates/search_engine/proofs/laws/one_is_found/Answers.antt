use Rattle.search_engine.proofs.LawLemmas.{one_found}
use Rattle.search_engine.proofs.laws.one_is_found.Goals as goal

pub returns : goal.returns
returns c = one_found
