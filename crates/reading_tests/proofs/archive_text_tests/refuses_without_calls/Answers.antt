use Rattle.reading_tests.proofs.OpenLemmas.{opens_after}
use Rattle.reading_tests.proofs.archive_text_tests.refuses_without_calls.Goals as goal

pub refuses_opened-requires : goal.refuses_opened-requires
refuses_opened-requires c = opens_after _ _ _ c.open_archive.ensures.keeps.seen c.in-Ok.ensures.opened
