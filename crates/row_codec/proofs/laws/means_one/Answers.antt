use Rattle.row_codec.proofs.MeansLemmas.{meaning_is_spelling, one_meaning, one_spelling}
use Rattle.row_codec.proofs.laws.means_one.Goals as goal

pub returns-clause-meaning : goal.returns-clause-meaning
returns-clause-meaning c = one_meaning

pub returns-clause-spelling : goal.returns-clause-spelling
returns-clause-spelling c = one_spelling

pub returns-clause-spells : goal.returns-clause-spells
returns-clause-spells c = meaning_is_spelling
