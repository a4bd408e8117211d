use Rattle.subquery_filter.proofs.LetterLemmas.{text_missing}
use Rattle.subquery_filter.proofs.letters.word_text.Goals as goal

pub returns-in-None : goal.returns-in-None
returns-in-None g c = text_missing (g.N.Names.words c.args.names.now) c.args.word c.in-None.ensures
