use Rattle.row_codec.proofs.MeansLemmas.{canonical_stays}
use Rattle.row_codec.proofs.laws.canonical_stays.Goals as goal

pub returns : goal.returns
returns c = canonical_stays
