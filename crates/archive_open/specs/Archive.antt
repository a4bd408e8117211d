-- What the fields of an archive say.
use Rattle.archive_open.specs.declared.archive.Archive.{Archive}
use Rattle.archive_open.specs.Kept.{Kept}
use Rattle.archive_open.specs.Shown.{Shown}

-- where this tells which texts are kept
abbrev pub shown : {K : Type 0} → (K → Kept) → Archive K → Shown
shown kept a = record {
  header = a.header;
  kept = kept a.names;
  files = a.files;
  segments = a.segments;
  entries = a.entries;
  end = a.end;
}
