use Rattle.group_count.proofs.lane.Lane.run.Given as goal

abbrev pub ghosts-count_part-L-Ledger : goal.ghosts-count_part-L-Ledger
ghosts-count_part-L-Ledger g a = record { name = a.one.name; parts = a.one.parts }

abbrev pub ghosts-count_part-M-Ledger : goal.ghosts-count_part-M-Ledger
ghosts-count_part-M-Ledger g a = record { name = a.two.name; parts = a.two.parts }
