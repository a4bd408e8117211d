use Rattle.segment_format.proofs.LawsLemmas.{segments_once}
use Rattle.segment_format.proofs.laws.segments_are_unique.Goals as goal

pub returns : goal.returns
returns c = segments_once
