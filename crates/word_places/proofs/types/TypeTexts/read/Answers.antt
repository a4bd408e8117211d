use Rattle.word_places.proofs.TakenLemmas.{kept_all}
use Rattle.word_places.proofs.types.TypeTexts.read.Goals as goal

pub returns-clause-read : goal.returns-clause-read
returns-clause-read g c = kept_all _ c.args.places.now c.in_ok-types.types c.take_texts.new.taker c.in_ok-types.ensures c.in_ok-take_texts.ensures.taken
