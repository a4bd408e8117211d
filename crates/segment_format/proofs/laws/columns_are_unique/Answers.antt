use Rattle.segment_format.proofs.LawsLemmas.{rows_once}
use Rattle.segment_format.proofs.laws.columns_are_unique.Goals as goal

pub returns : goal.returns
returns c = rows_once
