use Rattle.word_places.proofs.HeldLemmas.{grow_places}
use Rattle.places_tests.proofs.word_places_tests.read_on.Goals as goal

pub returns : goal.returns
returns c = grow_places _ _ c.hold.ensures.grow
