use Rattle.word_places.proofs.TakenLemmas.{words_are_one}
use Rattle.word_places.proofs.laws.words_are_one.Goals as goal

pub returns : goal.returns
returns c = words_are_one
