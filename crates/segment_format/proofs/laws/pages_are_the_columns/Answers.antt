use Rattle.segment_format.proofs.PagesLawLemmas.{pages_are_rows}
use Rattle.segment_format.proofs.laws.pages_are_the_columns.Goals as goal

pub returns : goal.returns
returns c = pages_are_rows
