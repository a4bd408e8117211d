use Rattle.reading_tests.proofs.OpenLemmas.{opens_after}
use Rattle.reading_tests.proofs.archive_text_tests.read_of.Goals as goal

pub read_opened-requires : goal.read_opened-requires
read_opened-requires c = opens_after _ _ _ c.open_archive.ensures.keeps.seen c.in-Ok.ensures.opened
