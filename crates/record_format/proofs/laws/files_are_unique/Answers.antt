use Rattle.record_format.proofs.ListLemmas.{one_list}
use Rattle.record_format.proofs.laws.files_are_unique.Goals as goal

pub returns : goal.returns
returns c = one_list
