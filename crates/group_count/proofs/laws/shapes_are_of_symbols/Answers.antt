use Rattle.group_count.proofs.ShapeLemmas.{shape_is}
use Rattle.group_count.proofs.laws.shapes_are_of_symbols.Goals as goal

pub returns : goal.returns
returns c = shape_is
