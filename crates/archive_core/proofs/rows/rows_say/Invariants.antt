use Rattle.std.proofs.Common.{◌≡◌, ℕ, List, take}
use Rattle.archive_meaning.specs.Sums.{open_after}
use Rattle.archive_core.specs.LogTypes.{AreKnown}
use Rattle.archive_core.specs.Rows.{AreMessages}
use Rattle.archive_core.proofs.rows.rows_say.Given as goal

abbrev pub invariant-loop-place : goal.invariant-loop-place
invariant-loop-place g l = record {
  says : (messages : List (List ℕ)) × AreMessages (g.N.Names.version l.names) (g.N.Names.types l.names) (g.N.Names.words l.names) (take l.place (g.R.Rows.rows l.rows)) messages × (l.open_end ≡ open_after l.before messages);
  writer : l.writer ≡ (g.N.Names.types l.names);
  known : AreKnown (g.N.Names.types l.names) l.known.items;
}
