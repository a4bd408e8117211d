use Rattle.archive_tests.proofs.search_engine_tests.searched_failing.Given as goal

abbrev pub ghosts-search_with-L-Ledger : goal.ghosts-search_with-L-Ledger
ghosts-search_with-L-Ledger g a = record { name = a.one.name; parts = a.one.parts }

abbrev pub ghosts-search_with-M-Ledger : goal.ghosts-search_with-M-Ledger
ghosts-search_with-M-Ledger g a = record { name = a.two.name; parts = a.two.parts }
