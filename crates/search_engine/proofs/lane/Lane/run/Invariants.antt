use Rattle.search_engine.proofs.lane.Lane.run.Given as goal

abbrev pub ghosts-search_into-L-Ledger : goal.ghosts-search_into-L-Ledger
ghosts-search_into-L-Ledger g a = record { name = a.one.name; parts = a.one.parts }

abbrev pub ghosts-search_into-M-Ledger : goal.ghosts-search_into-M-Ledger
ghosts-search_into-M-Ledger g a = record { name = a.two.name; parts = a.two.parts }
