use Rattle.std.proofs.Common.{refl}
use Rattle.ingest_workers.proofs.FollowLemmas.{begins_always}
use Rattle.ingest_workers.proofs.ingesting.ingest.Goals as goal

pub ingest_beside-requires-clause-beside : goal.ingest_beside-requires-clause-beside
ingest_beside-requires-clause-beside g c κs within = begins_always _ c.args.journal refl refl refl (λ h es hs. tt)
