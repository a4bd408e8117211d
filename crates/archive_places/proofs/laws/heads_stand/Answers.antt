use Rattle.archive_places.proofs.HeadLemmas.{heads_stand}
use Rattle.archive_places.proofs.laws.heads_stand.Goals as goal

pub returns : goal.returns
returns c = heads_stand
