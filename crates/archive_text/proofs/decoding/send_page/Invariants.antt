use Rattle.std.proofs.Common.{◌≡◌, ◌-◌, ℕ, List, Option, length}
use Rattle.archive_text.specs.Ahead.{ahead, work}
use Rattle.archive_text.specs.Sent.{Sends}
use Rattle.archive_text.proofs.decoding.send_page.Given as goal

abbrev pub invariant-loop-walk : goal.invariant-loop-walk
invariant-loop-walk g l = record {
  sends : (seen : Option (List ℕ)) → Sends seen (g.N.Names.types l.names) (g.N.Names.words l.names) (g.K.Sink.written l.fn.out) (g.K.Sink.written l.out) l.fn.walk l.walk;
  same : work (ahead l.walk) ≡ work (ahead l.fn.walk);
  sink : g.K.Sink.faults l.out ≡ g.K.Sink.faults l.fn.out;
}

abbrev pub decreases-loop-walk : goal.decreases-loop-walk
decreases-loop-walk g l = length l.walk.columns.rows - l.walk.row
