use Rattle.search_engine.proofs.page_slot.match_page.Given as goal

abbrev pub ghosts-match_counted : goal.ghosts-match_counted
ghosts-match_counted a = record { name = a.blank.name; parts = a.blank.parts }
