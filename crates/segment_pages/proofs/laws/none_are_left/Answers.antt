use Rattle.segment_pages.proofs.PageLemmas.{none_left}
use Rattle.segment_pages.proofs.laws.none_are_left.Goals as goal

pub returns : goal.returns
returns c = none_left
