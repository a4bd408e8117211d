use Rattle.segment_pages.proofs.StandLemmas.{segments_held}
use Rattle.segment_pages.proofs.laws.segments_are_held.Goals as goal

pub returns : goal.returns
returns c = segments_held
