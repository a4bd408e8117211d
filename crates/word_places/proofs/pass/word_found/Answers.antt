use Rattle.std.proofs.Common.{rules}
use Rattle.std.proofs.lemmas.Option.{slice_get-get_or}
use Rattle.word_places.proofs.HolderLemmas.{no_word, word_of}
use Rattle.word_places.proofs.pass.word_found.Goals as goal

pub returns-then-is_empty : goal.returns-then-is_empty
returns-then-is_empty c = λ needle words holders. no_word needle words c.args.numbers.now holders (search rules)

pub returns : goal.returns
returns c = λ needle words holders. word_of needle words c.args.numbers.now _ holders (slice_get-get_or c.args.numbers.now 0 0 (search rules))
