use Rattle.ingest_workers.specs.NamerKeys.{key_of}
use Rattle.ingest_workers.proofs.naming.add_message.Given as goal

abbrev pub ghosts-add_by_keys : goal.ghosts-add_by_keys
ghosts-add_by_keys g a = record {
  name = a.lent.namer.ghost_name;
  types = key_of (g.N.PassNamer.types a.lent.namer.now);
  words = key_of (g.N.PassNamer.words a.lent.namer.now);
}
