use Rattle.reading_tests.proofs.archive_jobs_tests.read_jobs_of.Given as goal

abbrev pub ghosts-read_jobs : goal.ghosts-read_jobs
ghosts-read_jobs g a = record { lent = record { name = a.disk.ghost_name; disk = g.D.Disk.state a.disk.now; types = a.layouts.now } }
