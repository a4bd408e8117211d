use Rattle.word_places.proofs.HeldLemmas.{held_stays}
use Rattle.word_places.proofs.laws.held_stay.Goals as goal

pub returns : goal.returns
returns c = held_stays
