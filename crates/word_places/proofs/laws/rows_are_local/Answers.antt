use Rattle.word_places.proofs.LocalLemmas.{encoding_is_local, meaning_is_local, spelling_is_local}
use Rattle.word_places.proofs.laws.rows_are_local.Goals as goal

pub returns-clause-spelling : goal.returns-clause-spelling
returns-clause-spelling c = spelling_is_local

pub returns-clause-meaning : goal.returns-clause-meaning
returns-clause-meaning c = meaning_is_local

pub returns-clause-encoding : goal.returns-clause-encoding
returns-clause-encoding c = encoding_is_local
