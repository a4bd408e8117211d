use Rattle.segment_format.proofs.LawsLemmas.{read_back}
use Rattle.segment_format.proofs.laws.segments_read_back.Goals as goal

pub returns : goal.returns
returns c = read_back
