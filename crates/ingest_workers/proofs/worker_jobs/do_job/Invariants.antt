use Rattle.ingest_workers.proofs.worker_jobs.do_job.Given as goal

abbrev pub ghosts-do_with_blanks-A-Ledger : goal.ghosts-do_with_blanks-A-Ledger
ghosts-do_with_blanks-A-Ledger g a = record { name = a.blanks.0.name; parts = a.blanks.0.parts }

abbrev pub ghosts-do_with_blanks-B-Ledger : goal.ghosts-do_with_blanks-B-Ledger
ghosts-do_with_blanks-B-Ledger g a = record { name = a.blanks.1.name; parts = a.blanks.1.parts }

abbrev pub ghosts-do_with_blanks-C-Ledger : goal.ghosts-do_with_blanks-C-Ledger
ghosts-do_with_blanks-C-Ledger g a = record { name = a.blanks.2.name; parts = a.blanks.2.parts }
