use Rattle.segment_format.proofs.LawsLemmas.{heads_once}
use Rattle.segment_format.proofs.laws.heads_are_unique.Goals as goal

pub returns : goal.returns
returns c = heads_once
