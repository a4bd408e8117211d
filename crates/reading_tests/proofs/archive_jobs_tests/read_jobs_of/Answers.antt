use Rattle.reading_tests.proofs.OpenLemmas.{rests_none}
use Rattle.reading_tests.proofs.archive_jobs_tests.read_jobs_of.Goals as goal

pub read_jobs-answer-requires-clause-rests : goal.read_jobs-answer-requires-clause-rests
read_jobs-answer-requires-clause-rests g c = rests_none (g.D.Disk.state c.args.disk.now)
