use Rattle.std.proofs.Common.{◌≡◌, ◌-◌, ℕ, List, Option}
use Rattle.archive_meaning.specs.declared.TheConstants.{MAX_MESSAGES}
use Rattle.disk_seal.specs.declared.namer.LockNamer.{LockNamer}
use Rattle.disk_seal.specs.Fixed.{KeeperPass}
use Rattle.ingest_workers.specs.Taking.{KeepsSource, Taking}
use Rattle.ingest_workers.proofs.messages.add_messages.Given as goal

abbrev pub invariant-messages : goal.invariant-messages
invariant-messages g l = record {
  source : KeepsSource g.S.Source.name g.S.Source.faults l.initial.reader.source l.reader.source;
  steady : g.S.Source.faults l.reader.source ≡ g.S.Source.faults l.initial.reader.source;
  taking : (bytes : Option (List ℕ)) (start : KeeperPass _) (begin : LockNamer _ _ _ _) (taken : List (List ℕ)) → Taking g.D.Disk.state g.S.Source.left l.rows bytes start l.initial.keeper begin l.initial.namer l.initial.segment l.initial.reader taken
      → (more : List (List ℕ)) × Taking g.D.Disk.state g.S.Source.left l.rows bytes start l.keeper begin l.namer l.segment l.reader more;
}

abbrev pub decreases-messages : goal.decreases-messages
decreases-messages g l = MAX_MESSAGES - l.reader.given
