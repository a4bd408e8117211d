use Rattle.seal_tests.proofs.looks_tests.looks.Given as goal

abbrev pub ghosts-over_journal-A-Ledger : goal.ghosts-over_journal-A-Ledger
ghosts-over_journal-A-Ledger g a = record { name = a.a.name; parts = a.a.parts }

abbrev pub ghosts-over_journal-B-Ledger : goal.ghosts-over_journal-B-Ledger
ghosts-over_journal-B-Ledger g a = record { name = a.b.name; parts = a.b.parts }

abbrev pub ghosts-over_journal-C-Ledger : goal.ghosts-over_journal-C-Ledger
ghosts-over_journal-C-Ledger g a = record { name = a.c.name; parts = a.c.parts }
