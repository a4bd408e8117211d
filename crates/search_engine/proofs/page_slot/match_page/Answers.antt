use Rattle.search_engine.proofs.SlotLemmas.{worked_so}
use Rattle.search_engine.proofs.page_slot.match_page.Goals as goal

pub returns-clause-worked : goal.returns-clause-worked
returns-clause-worked c =
    worked_so c.args.printer.now.query.now c.args.printer.now.held.now _ _ _ c.match_counted-answer.result c.slot.view_is c.match_counted-answer.ensures.page c.match_counted-answer.ensures.done c.match_counted-answer.ensures.damaged
