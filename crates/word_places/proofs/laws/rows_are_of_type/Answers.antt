use Rattle.word_places.proofs.LocalLemmas.{encoding_is_of_type, meaning_is_of_type, numbers_are_of_type, spelling_is_of_type}
use Rattle.word_places.proofs.laws.rows_are_of_type.Goals as goal

pub returns-clause-numbers : goal.returns-clause-numbers
returns-clause-numbers c = numbers_are_of_type

pub returns-clause-spelling : goal.returns-clause-spelling
returns-clause-spelling c = spelling_is_of_type

pub returns-clause-meaning : goal.returns-clause-meaning
returns-clause-meaning c = meaning_is_of_type

pub returns-clause-encoding : goal.returns-clause-encoding
returns-clause-encoding c = encoding_is_of_type
