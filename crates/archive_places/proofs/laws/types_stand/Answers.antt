use Rattle.archive_places.proofs.TextLemmas.{types_stand}
use Rattle.archive_places.proofs.laws.types_stand.Goals as goal

pub returns : goal.returns
returns c = types_stand
