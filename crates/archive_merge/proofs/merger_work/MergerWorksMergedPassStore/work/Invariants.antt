use Rattle.archive_merge.proofs.merger_work.MergerWorksMergedPassStore.work.Given as goal

abbrev pub ghosts-move_with-A-Ledger : goal.ghosts-move_with-A-Ledger
ghosts-move_with-A-Ledger g a = record { name = a.blanks.0.name; parts = a.blanks.0.parts }

abbrev pub ghosts-move_with-B-Ledger : goal.ghosts-move_with-B-Ledger
ghosts-move_with-B-Ledger g a = record { name = a.blanks.1.name; parts = a.blanks.1.parts }

abbrev pub ghosts-move_with-C-Ledger : goal.ghosts-move_with-C-Ledger
ghosts-move_with-C-Ledger g a = record { name = a.blanks.2.name; parts = a.blanks.2.parts }
