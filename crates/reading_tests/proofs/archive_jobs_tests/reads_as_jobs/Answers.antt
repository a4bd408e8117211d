use Rattle.reading_tests.proofs.OpenLemmas.{opens_after}
use Rattle.reading_tests.proofs.archive_jobs_tests.reads_as_jobs.Goals as goal

pub read_jobs_of-requires : goal.read_jobs_of-requires
read_jobs_of-requires c = opens_after _ _ _ c.open_archive.ensures.keeps.seen c.in-Ok.ensures.opened
