use Rattle.logtype_text.proofs.CutLemmas.{parts_are_cut}
use Rattle.logtype_text.proofs.laws.parts_are_cut.Goals as goal

pub returns : goal.returns
returns c = parts_are_cut
