use Rattle.record_format.proofs.ListLemmas.{one_texts}
use Rattle.record_format.proofs.laws.texts_are_unique.Goals as goal

pub returns : goal.returns
returns c = one_texts
