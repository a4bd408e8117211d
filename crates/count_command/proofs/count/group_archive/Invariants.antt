use Rattle.count_command.proofs.count.group_archive.Given as goal

abbrev pub ghosts-group_with-L-Ledger : goal.ghosts-group_with-L-Ledger
ghosts-group_with-L-Ledger g a = record { name = a.opened.name; parts = a.opened.parts }

abbrev pub ghosts-group_with-M-Ledger : goal.ghosts-group_with-M-Ledger
ghosts-group_with-M-Ledger g a = record { name = a.expanded.name; parts = a.expanded.parts }
