use Rattle.reading_tests.proofs.group_count_tests.group_of.Given as goal

abbrev pub ghosts-group_with-L-Ledger : goal.ghosts-group_with-L-Ledger
ghosts-group_with-L-Ledger g a = record { name = a.one.name; parts = a.one.parts }

abbrev pub ghosts-group_with-M-Ledger : goal.ghosts-group_with-M-Ledger
ghosts-group_with-M-Ledger g a = record { name = a.two.name; parts = a.two.parts }
