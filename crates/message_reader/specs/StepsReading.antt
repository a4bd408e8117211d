-- A reader by what is inside of it.
use Rattle.std.specs.Prelude.{◌≡◌, ◌≢◌, ℕ, false, is_some, if◌then◌else◌}
use Rattle.line_cut.specs.Cutting.{CutterState}
use Rattle.line_cut.specs.Joining.{JoinerState}
use Rattle.line_cut.specs.declared.cut.Cut.TheVariants.{OutOfMemory}
use Rattle.line_cut.specs.declared.cut.Progress.TheVariants.{Refused}
use Rattle.line_cut.specs.declared.cutter.TheConstants.{MAX_LINE_LEN}
use Rattle.message_reader.specs.Reading.{ReaderState}
use Rattle.message_reader.specs.declared.reader.TheConstants.{MAX_MESSAGES}
use Rattle.message_reader.specs.declared.heads.Stamps.{Stamps}
use Rattle.message_reader.specs.declared.reader.Cuts.{Cuts}
use Rattle.message_reader.specs.declared.reader.Cuts.TheVariants.{Lines, Groups}

-- the version whose messages begin with these stamps
abbrev pub version_of : Stamps → ℕ
version_of s = if s.micro then 3 else 2

-- a cutter of lines as a reader
abbrev pub line_reader : {S : Type 0} → CutterState S → ReaderState S
line_reader c = record {
  version = 1;
  source = c.source;
  pending = c.pending;
  message = c.line;
  given = c.given;
  lines = c.given;
  looked = false;
  progress = c.progress;
}

-- a joiner of lines as a reader
abbrev pub group_reader : {S : Type 0} → JoinerState S Stamps → ReaderState S
group_reader j = record {
  version = version_of j.heads;
  source = j.cutter.source;
  pending = j.cutter.pending;
  message = j.cutter.line;
  given = j.cutter.given;
  lines = j.lines;
  looked = is_some j.behind;
  progress = j.cutter.progress;
}

abbrev pub reader_of : {S : Type 0} → Cuts S → ReaderState S
reader_of (Lines c) = line_reader c
reader_of (Groups j) = group_reader j

-- its limits are those of an archive, and it never met want of memory
abbrev pub HasLimits : {S : Type 0} → CutterState S → Type 0
HasLimits c = (c.max_line ≡ MAX_LINE_LEN) × (c.max_lines ≡ MAX_MESSAGES) × (c.progress ≢ Refused OutOfMemory)

abbrev pub HasArchiveLimits : {S : Type 0} → Cuts S → Type 0
HasArchiveLimits (Lines c) = HasLimits c
HasArchiveLimits (Groups j) = HasLimits j.cutter
