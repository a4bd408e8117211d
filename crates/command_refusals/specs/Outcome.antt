-- How the commands of each kind end, and which refusal that is.
use Rattle.std.specs.Prelude.{ℕ, List, [], Option, Some, None, Result, Ok, Err}
use Rattle.disk_journal.specs.declared.refusals.CreateRefusal.{CreateRefusal}
use Rattle.disk_journal.specs.declared.refusals.CreateRefusal.TheVariants.{DiskFault as CreateDiskFault}
use Rattle.disk_journal.specs.declared.refusals.CreateRefusal.TheVariants.{NotEmpty as CreateNotEmpty}
use Rattle.wild_match.specs.declared.read.PatternRefusal.{PatternRefusal}
use Rattle.wild_match.specs.declared.read.PatternRefusal.TheVariants.{BadPattern as ReadBadPattern}
use Rattle.wild_match.specs.declared.read.PatternRefusal.TheVariants.{OutOfMemory as ReadOutOfMemory}
use Rattle.command_words.specs.declared.command.WordsRefusal.{WordsRefusal}
use Rattle.command_words.specs.declared.command.WordsRefusal.TheVariants.{Usage as WordsUsage, OutOfMemory as WordsOutOfMemory}
use Rattle.command_refusals.specs.declared.outcome.LogRefusal.{LogRefusal}
use Rattle.command_refusals.specs.declared.outcome.LogRefusal.TheVariants.{
  OpenFault as LogOpenFault,
  ReadFault as LogReadFault,
  LineTooLong as LogLineTooLong,
  TooManyLines as LogTooManyLines,
  SinkFault as LogSinkFault,
  OutOfMemory as LogOutOfMemory,
}
use Rattle.archive_open.specs.declared.refusal.ArchiveRefusal.{ArchiveRefusal}
use Rattle.disk_journal.specs.declared.refusals.StartRefusal.{StartRefusal}
use Rattle.ingest_meaning.specs.declared.refusal.RegisterRefusal.{RegisterRefusal}
use Rattle.check_meaning.specs.declared.refusal.CheckRefusal.{CheckRefusal}
use Rattle.sink_pieces.specs.declared.refusal.PrintRefusal.{PrintRefusal}
use Rattle.command_refusals.specs.declared.outcome.AddRefusal.{AddRefusal}
use Rattle.command_refusals.specs.declared.outcome.FileRefusal.{FileRefusal}
use Rattle.command_refusals.specs.declared.outcome.MergeRefusal.{MergeRefusal}
use Rattle.command_refusals.specs.declared.outcome.PartCause.{PartCause}
use Rattle.command_refusals.specs.declared.outcome.ReadRefusal.{ReadRefusal}
use Rattle.command_refusals.specs.declared.outcome.UpgradeRefusal.{UpgradeRefusal}
use Rattle.command_refusals.specs.Refusal.{ending_of, file_ending_of}
use Rattle.command_refusals.specs.declared.refusal.Refusal.{Refusal}
use Rattle.command_refusals.specs.declared.refusal.Refusal.TheVariants.{Usage, BadPattern, OpenFault, ReadFault}
use Rattle.command_refusals.specs.declared.refusal.Refusal.TheVariants.{LineTooLong, TooManyLines, DiskFault, Damaged}
use Rattle.command_refusals.specs.declared.refusal.Refusal.TheVariants.{SinkFault, NotEmpty, NoSuchFile, OutOfMemory}
use Rattle.command_refusals.specs.declared.refusal.Refusal.TheVariants.{NameTooLong, TooManyFiles, Full, ArchiveFull}
use Rattle.command_refusals.specs.declared.refusal.Refusal.TheVariants.{SecondDamaged, VersionDiffers, AlreadyNewest}

-- the answer of a call that may refuse, where no refusal is `None`
abbrev pub answer_of : {E : Type 0} → Result Unit E → Option E
answer_of (Ok _) = None
answer_of (Err refusal) = Some refusal

-- of a command that prints a log
abbrev pub of_log : LogRefusal → Refusal
of_log LogOpenFault = OpenFault
of_log LogReadFault = ReadFault
of_log (LogLineTooLong line) = LineTooLong line
of_log LogTooManyLines = TooManyLines
of_log LogSinkFault = SinkFault
of_log LogOutOfMemory = OutOfMemory

-- of a command that reads an archive
abbrev pub of_read : ReadRefusal → Refusal
of_read ReadRefusal.DiskFault = DiskFault
of_read (ReadRefusal.Damaged at) = Damaged at
of_read ReadRefusal.SinkFault = SinkFault
of_read ReadRefusal.OutOfMemory = OutOfMemory

-- of the command that prints a file
abbrev pub of_file : FileRefusal → Refusal
of_file FileRefusal.DiskFault = DiskFault
of_file (FileRefusal.Damaged at) = Damaged at
of_file (FileRefusal.NoSuchFile number count) = NoSuchFile number count
of_file FileRefusal.SinkFault = SinkFault
of_file FileRefusal.OutOfMemory = OutOfMemory

-- of the making of an archive
abbrev pub of_create : CreateRefusal → Refusal
of_create CreateDiskFault = DiskFault
of_create (CreateNotEmpty len) = NotEmpty len

-- of words
abbrev pub of_words : WordsRefusal → Refusal
of_words WordsUsage = Usage
of_words WordsOutOfMemory = OutOfMemory

-- of a pattern
abbrev pub of_pattern : PatternRefusal → Refusal
of_pattern (ReadBadPattern at) = BadPattern at
of_pattern ReadOutOfMemory = OutOfMemory

-- why a command that reads an archive is refused where opening it was, where checking it was, and where printing was
abbrev pub from_archive : ArchiveRefusal → ReadRefusal
from_archive ArchiveRefusal.DiskFault = ReadRefusal.DiskFault
from_archive (ArchiveRefusal.Damaged at) = ReadRefusal.Damaged at
from_archive ArchiveRefusal.OutOfMemory = ReadRefusal.OutOfMemory

abbrev pub from_check : CheckRefusal → ReadRefusal
from_check CheckRefusal.DiskFault = ReadRefusal.DiskFault
from_check (CheckRefusal.Damaged at) = ReadRefusal.Damaged at
from_check CheckRefusal.OutOfMemory = ReadRefusal.OutOfMemory

abbrev pub from_print : PrintRefusal → ReadRefusal
from_print PrintRefusal.SinkFault = ReadRefusal.SinkFault
from_print PrintRefusal.OutOfMemory = ReadRefusal.OutOfMemory

-- why the bytes of a file were not printed where opening was refused
abbrev pub file_from_archive : ArchiveRefusal → FileRefusal
file_from_archive ArchiveRefusal.DiskFault = FileRefusal.DiskFault
file_from_archive (ArchiveRefusal.Damaged at) = FileRefusal.Damaged at
file_from_archive ArchiveRefusal.OutOfMemory = FileRefusal.OutOfMemory

-- why no file was added where the reading of the archive's header was refused, the opening, and the naming of the files
abbrev pub add_from_start : StartRefusal → AddRefusal
add_from_start StartRefusal.DiskFault = AddRefusal.DiskFault
add_from_start (StartRefusal.Damaged at) = AddRefusal.Damaged at

abbrev pub add_from_archive : ArchiveRefusal → AddRefusal
add_from_archive ArchiveRefusal.DiskFault = AddRefusal.DiskFault
add_from_archive (ArchiveRefusal.Damaged at) = AddRefusal.Damaged at
add_from_archive ArchiveRefusal.OutOfMemory = AddRefusal.OutOfMemory

abbrev pub add_from_register : RegisterRefusal → AddRefusal
add_from_register RegisterRefusal.OutOfMemory = AddRefusal.OutOfMemory
add_from_register (RegisterRefusal.ArchiveFull end need) = AddRefusal.ArchiveFull end need
add_from_register RegisterRefusal.DiskFault = AddRefusal.DiskFault

-- of a command that adds files
abbrev pub of_add : AddRefusal → Refusal
of_add (AddRefusal.NameTooLong index) = NameTooLong index
of_add (AddRefusal.TooManyFiles held more) = TooManyFiles held more
of_add (AddRefusal.ArchiveFull end need) = ArchiveFull end need
of_add AddRefusal.DiskFault = DiskFault
of_add (AddRefusal.Damaged at) = Damaged at
of_add AddRefusal.OutOfMemory = OutOfMemory

-- of a file that is not whole
abbrev pub of_part : PartCause → Refusal
of_part PartCause.OpenFault = OpenFault
of_part PartCause.ReadFault = ReadFault
of_part (PartCause.LineTooLong line) = LineTooLong line
of_part PartCause.TooManyLines = TooManyLines
of_part (PartCause.Full book count) = Full book count
of_part (PartCause.ArchiveFull end need) = ArchiveFull end need
of_part PartCause.DiskFault = DiskFault
of_part PartCause.OutOfMemory = OutOfMemory

-- why not all files of a second archive were added where the reading of the archive's header was refused, its opening, the naming
-- of the files, and the opening of the second archive
abbrev pub merge_from_start : StartRefusal → MergeRefusal
merge_from_start StartRefusal.DiskFault = MergeRefusal.DiskFault
merge_from_start (StartRefusal.Damaged at) = MergeRefusal.Damaged at

abbrev pub merge_from_archive : ArchiveRefusal → MergeRefusal
merge_from_archive ArchiveRefusal.DiskFault = MergeRefusal.DiskFault
merge_from_archive (ArchiveRefusal.Damaged at) = MergeRefusal.Damaged at
merge_from_archive ArchiveRefusal.OutOfMemory = MergeRefusal.OutOfMemory

abbrev pub merge_from_register : RegisterRefusal → MergeRefusal
merge_from_register RegisterRefusal.OutOfMemory = MergeRefusal.OutOfMemory
merge_from_register (RegisterRefusal.ArchiveFull end need) = MergeRefusal.ArchiveFull end need
merge_from_register RegisterRefusal.DiskFault = MergeRefusal.DiskFault

abbrev pub merge_from_second : ArchiveRefusal → MergeRefusal
merge_from_second ArchiveRefusal.DiskFault = MergeRefusal.DiskFault
merge_from_second (ArchiveRefusal.Damaged at) = MergeRefusal.SecondDamaged at
merge_from_second ArchiveRefusal.OutOfMemory = MergeRefusal.OutOfMemory

-- The status and the line of a merge that was refused. A dictionary that is full, and a segment without room, are told with the
-- name of their file.
abbrev pub merge_ending : List ℕ → MergeRefusal → ℕ × List ℕ
merge_ending name MergeRefusal.DiskFault = ending_of [] DiskFault
merge_ending name (MergeRefusal.Damaged at) = ending_of [] (Damaged at)
merge_ending name (MergeRefusal.SecondDamaged at) = ending_of [] (SecondDamaged at)
merge_ending name (MergeRefusal.VersionDiffers first second) = ending_of [] (VersionDiffers first second)
merge_ending name (MergeRefusal.TooManyFiles held more) = ending_of [] (TooManyFiles held more)
merge_ending name (MergeRefusal.ArchiveFull end need) = ending_of [] (ArchiveFull end need)
merge_ending name (MergeRefusal.Full book count) = file_ending_of name (Full book count)
merge_ending name (MergeRefusal.SegmentFull end need) = file_ending_of name (ArchiveFull end need)
merge_ending name MergeRefusal.OutOfMemory = ending_of [] OutOfMemory

abbrev pub merge_status : MergeRefusal → ℕ
merge_status refusal = (merge_ending [] refusal).0

abbrev pub merge_line : List ℕ → MergeRefusal → List ℕ
merge_line name refusal = (merge_ending name refusal).1

-- why an archive was not upgraded where opening it was refused, the making of the new one, and the naming of its files
abbrev pub upgrade_from_archive : ArchiveRefusal → UpgradeRefusal
upgrade_from_archive ArchiveRefusal.DiskFault = UpgradeRefusal.DiskFault
upgrade_from_archive (ArchiveRefusal.Damaged at) = UpgradeRefusal.Damaged at
upgrade_from_archive ArchiveRefusal.OutOfMemory = UpgradeRefusal.OutOfMemory

abbrev pub upgrade_from_create : CreateRefusal → UpgradeRefusal
upgrade_from_create CreateDiskFault = UpgradeRefusal.SecondFault
upgrade_from_create (CreateNotEmpty len) = UpgradeRefusal.NotEmpty len

abbrev pub upgrade_from_register : RegisterRefusal → UpgradeRefusal
upgrade_from_register RegisterRefusal.OutOfMemory = UpgradeRefusal.OutOfMemory
upgrade_from_register (RegisterRefusal.ArchiveFull end need) = UpgradeRefusal.ArchiveFull end need
upgrade_from_register RegisterRefusal.DiskFault = UpgradeRefusal.SecondFault

-- of the command that makes a new archive of an older one
abbrev pub of_upgrade : UpgradeRefusal → Refusal
of_upgrade UpgradeRefusal.DiskFault = DiskFault
of_upgrade (UpgradeRefusal.Damaged at) = Damaged at
of_upgrade (UpgradeRefusal.AlreadyNewest version) = AlreadyNewest version
of_upgrade UpgradeRefusal.SecondFault = DiskFault
of_upgrade (UpgradeRefusal.NotEmpty len) = NotEmpty len
of_upgrade (UpgradeRefusal.ArchiveFull end need) = ArchiveFull end need
of_upgrade UpgradeRefusal.OutOfMemory = OutOfMemory
