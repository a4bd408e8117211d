use Rattle.search_walk.proofs.AnswerLemmas.{if_ok_to}
use Rattle.search_walk.proofs.PageLemmas.{page_gone}
use Rattle.search_engine.proofs.page_taking.PrintingTakesPages.take_page.Goals as goal

pub returns-clause-gone : goal.returns-clause-gone
returns-clause-gone g c =
    if_ok_to c.read_next.result _ _ (λ rows gone. page_gone c.args.pages.now c.read_next.new.pages rows c.requires.left.page gone) c.read_next.ensures.gone
