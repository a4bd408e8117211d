use Rattle.bench_command.proofs.summary.count.Given as goal

abbrev pub ghosts-count_with-L-Ledger : goal.ghosts-count_with-L-Ledger
ghosts-count_with-L-Ledger g a = record { name = a.opened.name; parts = a.opened.parts }

abbrev pub ghosts-count_with-M-Ledger : goal.ghosts-count_with-M-Ledger
ghosts-count_with-M-Ledger g a = record { name = a.expanded.name; parts = a.expanded.parts }
