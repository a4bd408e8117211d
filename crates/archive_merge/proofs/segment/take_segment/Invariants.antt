use Rattle.std.proofs.Common.{◌≡◌, ◌-◌, ◌≤◌}
use Rattle.log_seams.specs.Disk.{Rests}
use Rattle.row_rename.specs.Paths.{HasNamedMore}
use Rattle.archive_merge.specs.InHand.{SameMarks}
use Rattle.archive_merge.specs.Needed.{IsTextThere}
use Rattle.archive_merge.specs.Taken.{HasNamed, books_by, texts_by, texts_in}
use Rattle.archive_merge.proofs.SegmentLemmas.{IsUnderWay}
use Rattle.archive_merge.proofs.segment.take_segment.Given as goal

abbrev pub ghosts-open_pages : goal.ghosts-open_pages
ghosts-open_pages g a = record { name = a.blank.name; parts = a.blank.parts }

abbrev pub invariant-loop-pages : goal.invariant-loop-pages
invariant-loop-pages g l = record {
  rests : Rests (g.E.Disk.state l.fn.disk) (g.E.Disk.state l.disk);
  version : g.N.Namer.version l.namer ≡ g.N.Namer.version l.fn.namer;
  named : HasNamed (IsTextThere (texts_by g.M.Names.types g.M.Names.words l.names) (g.E.Disk.state l.fn.disk).seen l.place) (g.M.Names.version l.names) (texts_by g.M.Names.types g.M.Names.words l.names) (books_by g.N.Namer.types g.N.Namer.words l.fn.namer) (books_by g.N.Namer.types g.N.Namer.words l.namer) l.taker;
  path : HasNamedMore g.N.Namer.naming l.fn.namer l.namer;
  marks : SameMarks l.fn.hand l.hand;
  way : IsUnderWay (g.M.Names.version l.names) (texts_by g.M.Names.types g.M.Names.words l.names) (texts_in (books_by g.N.Namer.types g.N.Namer.words l.fn.namer)) l.place (g.E.Disk.state l.fn.disk).seen l.fn.hand l.before
      l.pages (texts_in (books_by g.N.Namer.types g.N.Namer.words l.namer)) l.hand l.open_end;
  few : l.place.head.rows ≤ 65536;
  disk : (g.E.Disk.state l.disk).faults ≡ (g.E.Disk.state l.fn.disk).faults;
}

abbrev pub decreases-loop-pages : goal.decreases-loop-pages
decreases-loop-pages g l = l.pages.pages.rows - l.pages.pages.row
