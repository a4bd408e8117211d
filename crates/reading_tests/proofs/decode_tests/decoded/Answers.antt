use Rattle.reading_tests.proofs.OpenLemmas.{opens_after}
use Rattle.reading_tests.proofs.decode_tests.decoded.Goals as goal

pub decode-outcome-requires-clause-opened : goal.decode-outcome-requires-clause-opened
decode-outcome-requires-clause-opened c = opens_after _ _ _ c.in-Ok.ensures.keeps.seen c.in-Ok.ensures.opened
