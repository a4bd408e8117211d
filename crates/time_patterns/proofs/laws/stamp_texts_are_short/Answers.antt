use Rattle.time_patterns.proofs.LawLemmas.{short_texts}
use Rattle.time_patterns.proofs.laws.stamp_texts_are_short.Goals as goal

pub returns : goal.returns
returns c = short_texts
