use Rattle.word_places.proofs.HolderLemmas.{holders_have}
use Rattle.word_places.proofs.laws.holders_have.Goals as goal

pub returns : goal.returns
returns c = holders_have
