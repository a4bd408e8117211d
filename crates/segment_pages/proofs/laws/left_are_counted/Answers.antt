use Rattle.segment_pages.proofs.ColumnLemmas.{counted_left}
use Rattle.segment_pages.proofs.laws.left_are_counted.Goals as goal

pub returns : goal.returns
returns c = counted_left
