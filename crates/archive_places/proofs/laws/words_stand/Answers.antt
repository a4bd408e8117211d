use Rattle.archive_places.proofs.TextLemmas.{words_stand}
use Rattle.archive_places.proofs.laws.words_stand.Goals as goal

pub returns : goal.returns
returns c = words_stand
