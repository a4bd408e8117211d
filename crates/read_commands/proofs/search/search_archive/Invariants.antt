use Rattle.read_commands.proofs.search.search_archive.Given as goal

abbrev pub ghosts-search_with-L-Ledger : goal.ghosts-search_with-L-Ledger
ghosts-search_with-L-Ledger g a = record { name = a.opened.name; parts = a.opened.parts }

abbrev pub ghosts-search_with-M-Ledger : goal.ghosts-search_with-M-Ledger
ghosts-search_with-M-Ledger g a = record { name = a.expanded.name; parts = a.expanded.parts }
