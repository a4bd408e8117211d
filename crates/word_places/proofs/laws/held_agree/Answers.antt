use Rattle.word_places.proofs.HeldLemmas.{held_agrees}
use Rattle.word_places.proofs.laws.held_agree.Goals as goal

pub returns : goal.returns
returns c = held_agrees
