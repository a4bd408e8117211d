use Rattle.time_patterns.proofs.LawLemmas.{one_moment}
use Rattle.time_patterns.proofs.laws.text_tells_moment.Goals as goal

pub returns : goal.returns
returns c = one_moment
