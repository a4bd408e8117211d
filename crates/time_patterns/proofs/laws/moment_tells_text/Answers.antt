use Rattle.time_patterns.proofs.LawLemmas.{one_text}
use Rattle.time_patterns.proofs.laws.moment_tells_text.Goals as goal

pub returns : goal.returns
returns c = one_text
