use Rattle.std.proofs.Common.{refl}
use Rattle.ingest_workers.proofs.naming.add_message.Goals as goal

pub add_by_keys-answer-requires-clause-keys : goal.add_by_keys-answer-requires-clause-keys
add_by_keys-answer-requires-clause-keys g c = (record { lock = refl; number = refl; about_is = refl }, record { lock = refl; number = refl; about_is = refl })
