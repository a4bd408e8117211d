-- What came of a merge, as it is told.
use Rattle.std.specs.Prelude.{◌≡◌, ◌≢◌, ◌<◌, ◌≤◌, ◌+◌, ◌-◌, ℕ, List, [], ◌∷◌, Option, None, Some, Result, Ok, Err, slice_get}
use Rattle.log_seams.specs.Disk.{DiskState}
use Rattle.log_seams.specs.Outside.{Rose}
use Rattle.archive_meaning.specs.declared.TheConstants.{MAX_FILES}
use Rattle.archive_open.specs.Archive.{shown}
use Rattle.archive_open.specs.Kept.{Kept}
use Rattle.archive_open.specs.Shown.{RefusedAt, Shown}
use Rattle.archive_open.specs.declared.files.FileEntry.{FileEntry}
use Rattle.archive_open.specs.declared.plain.PlainBooks.{PlainBooks}
use Rattle.archive_merge.specs.Behind.{SecondView}
use Rattle.archive_merge.specs.Laws.{texts_kept}
use Rattle.archive_merge.specs.declared.cause.MergeCause.TheVariants.{ArchiveFull, FirstFault, Full}
use Rattle.archive_merge.specs.declared.cause.MergeCause.TheVariants.{OutOfMemory, SecondDamaged, SecondFault}
use Rattle.archive_merge.specs.declared.file.Merged.{Merged}
use Rattle.archive_merge.specs.declared.refusal.MergeRefusal.{MergeRefusal as Why}
use Rattle.archive_merge.specs.declared.refusal.MergeRefusal.TheVariants.{LongName, Names, Stopped, OutOfMemory as NoMemory}
use Rattle.file_lines.specs.Directory.{FileLine}
use Rattle.command_refusals.specs.Outcome.{merge_from_register}
use Rattle.command_refusals.specs.declared.outcome.MergeRefusal.{MergeRefusal}
use Rattle.command_answers.specs.Merging.{IsOfSecond, Merge}
use Rattle.merge_command.specs.declared.over.Came.{Came}

-- each file of the second archive with what was merged of it
abbrev pub lines_by : List FileEntry → List Merged → List FileLine
lines_by files [] = []
lines_by [] (m ∷ ms) = []
lines_by (f ∷ fs) (m ∷ ms) = record { name = f.name; messages = m.messages; whole = m.whole } ∷ lines_by fs ms

-- why not all was merged, where the second archive's damage is told at a place
abbrev pub refusal_by : ℕ → Why → MergeRefusal
refusal_by last LongName = MergeRefusal.SecondDamaged last
refusal_by last (Names refusal) = merge_from_register refusal
refusal_by last (Stopped file (Full book count)) = MergeRefusal.Full book count
refusal_by last (Stopped file (ArchiveFull end need)) = MergeRefusal.SegmentFull end need
refusal_by last (Stopped file (FirstFault opened now)) = MergeRefusal.DiskFault
refusal_by last (Stopped file SecondFault) = MergeRefusal.DiskFault
refusal_by last (Stopped file SecondDamaged) = MergeRefusal.SecondDamaged last
refusal_by last (Stopped file OutOfMemory) = MergeRefusal.OutOfMemory
refusal_by last NoMemory = MergeRefusal.OutOfMemory

-- the place of the file that stopped it
abbrev pub place_stopped : ℕ → Option Why → Option ℕ
place_stopped first (Some (Stopped file cause)) = Some (file - first)
place_stopped first _ = None

abbrev pub name_in : Option FileEntry → List ℕ
name_in None = []
name_in (Some file) = file.name

abbrev pub name_at : List FileEntry → Option ℕ → List ℕ
name_at files None = []
name_at files (Some place) = name_in (slice_get files place)

-- the texts that are kept, by both books
abbrev pub kept_by : PlainBooks → Kept
kept_by b = record {
  types = b.types.texts;
  words = b.words.texts;
  types_limit = b.types.limit;
  words_limit = b.words.limit;
  version = b.version;
}

-- what contracts tell of a second archive, by what was opened over a disk that tells these bytes
abbrev pub view_shown : Shown → Option (List ℕ) → SecondView
view_shown a told = record { version = a.kept.version; texts = texts_kept a.kept; told = told; segments = a.segments }

abbrev pub merge_of : Came → Merge
merge_of c = record {
  files = lines_by (shown kept_by c.second).files c.files.items;
  refusal = c.refusal;
  name = name_at (shown kept_by c.second).files c.stopped;
}

-- nothing was merged, for this
abbrev pub refused_by : MergeRefusal → Merge
refused_by refusal = record { files = []; refusal = Some refusal; name = [] }

-- the one or the other
abbrev pub merge_by : Result Came MergeRefusal → Merge
merge_by (Ok came) = merge_of came
merge_by (Err refusal) = refused_by refusal

-- The archive was open before. No damage of it is told; and where a cause of the second archive is told, and no file, its disk
-- was left alone.
pub record ComesBehind {D : Type 0} (m : Merge) (old new : D) : Type 0 where
  pub undamaged : (at : ℕ) → m.refusal ≢ Some (MergeRefusal.Damaged at)
  pub alone : IsOfSecond m.refusal → m.files ≡ [] → new ≡ old

-- the second archive may come behind the first, whose versions agree and whose files are not too many; or it may not
abbrev pub Agrees : ℕ → ℕ → ℕ → ℕ → Result Unit MergeRefusal → Type 0
Agrees version held other more (Ok done) = (other ≡ version) × (held + more ≤ MAX_FILES)
Agrees version held other more (Err (MergeRefusal.VersionDiffers first second)) =
    (first ≡ version) × (second ≡ other) × (first ≢ second)
Agrees version held other more (Err (MergeRefusal.TooManyFiles told further)) =
    (other ≡ version) × (told ≡ held) × (further ≡ more) × (MAX_FILES < held + more)
Agrees version held other more (Err _) = ⊥

-- why the second archive was not opened
abbrev pub RefusesSecond : DiskState → DiskState → MergeRefusal → Type 0
RefusesSecond old new MergeRefusal.DiskFault = Rose old.faults new.faults
RefusesSecond old new (MergeRefusal.SecondDamaged at) = RefusedAt at old.seen
RefusesSecond old new MergeRefusal.OutOfMemory = Unit {0}
RefusesSecond old new _ = ⊥
