use Rattle.row_rename.proofs.RenameLemmas.{renamed_means_same}
use Rattle.row_rename.proofs.laws.renamed_means_same.Goals as goal

pub returns : goal.returns
returns c = renamed_means_same
