-- What a refusal ends the program with: its status, and its line on the error output.
use Rattle.std.specs.Prelude.{◌≡◌, ◌⊎◌, ℕ, List, [], ◌∷◌, ◌++◌, Option, codes}
use Rattle.std.specs.Fmt.{decimal}
use Rattle.log_seams.specs.Outside.{Rose}
use Rattle.sink_pieces.specs.Output.{Grew}
use Rattle.command_refusals.specs.declared.refusal.Refusal.{Refusal}
use Rattle.command_refusals.specs.declared.refusal.Refusal.TheVariants.{Usage, BadPattern, OpenFault, ReadFault}
use Rattle.command_refusals.specs.declared.refusal.Refusal.TheVariants.{LineTooLong, TooManyLines, DiskFault, Damaged}
use Rattle.command_refusals.specs.declared.refusal.Refusal.TheVariants.{SinkFault, NotEmpty, NoSuchFile, OutOfMemory}
use Rattle.command_refusals.specs.declared.refusal.Refusal.TheVariants.{NameTooLong, TooManyFiles, Full, ArchiveFull}
use Rattle.command_refusals.specs.declared.refusal.Refusal.TheVariants.{SecondDamaged, VersionDiffers, AlreadyNewest}
use Rattle.row_codec.specs.declared.namer.Which.{Which}
use Rattle.row_codec.specs.declared.namer.Which.TheVariants.{Types, Words}

-- a text with a newline
abbrev pub line : List ℕ → List ℕ
line text = text ++ 10 ∷ []

-- the name of a dictionary
abbrev pub book_name : Which → List ℕ
book_name Types = codes "types"
book_name Words = codes "words"

-- where an archive ends, and how many bytes more it has no room for
abbrev pub full_at : ℕ → ℕ → List ℕ
full_at end need = decimal end ++ (codes ", " ++ (decimal need ++ line (codes " more needed")))

-- the status that the program ends with, and the line on the error output, where `name` is the log's
abbrev pub ending_of : List ℕ → Refusal → ℕ × List ℕ
ending_of name Usage = (2, line (codes "clpa: usage: clpa ARCHIVE COMMAND [OPTION]... [WORD]..."))
ending_of name (BadPattern at) = (3, codes "clpa: pattern: lone backslash at " ++ line (decimal at))
ending_of name OpenFault = (4, codes "clpa: " ++ (name ++ line (codes ": cannot open")))
ending_of name ReadFault = (4, codes "clpa: " ++ (name ++ line (codes ": read failed")))
ending_of name (LineTooLong n) = (4, codes "clpa: " ++ (name ++ (codes ": line " ++ (decimal n ++ line (codes " is too long")))))
ending_of name TooManyLines = (4, codes "clpa: " ++ (name ++ line (codes ": too many lines")))
ending_of name DiskFault = (5, line (codes "clpa: archive: disk failed"))
ending_of name (Damaged at) = (6, codes "clpa: archive: damaged at " ++ line (decimal at))
ending_of name SinkFault = (7, line (codes "clpa: output failed"))
ending_of name (NotEmpty len) = (8, codes "clpa: archive: not empty, " ++ (decimal len ++ line (codes " bytes")))
ending_of name (NoSuchFile number count) =
    (8, codes "clpa: no file " ++ (decimal number ++ (codes ", the archive has " ++ line (decimal count))))
ending_of name OutOfMemory = (9, line (codes "clpa: out of memory"))
ending_of name (NameTooLong index) = (8, codes "clpa: name " ++ (decimal index ++ line (codes " is too long")))
ending_of name (TooManyFiles held more) =
    (8, codes "clpa: too many files: " ++ (decimal held ++ (codes " held, " ++ (decimal more ++ line (codes " more")))))
ending_of name (Full book count) = (
  4,
  codes "clpa: " ++ (name ++ (codes ": dictionary of "
      ++ (book_name book ++ (codes " is full at " ++ line (decimal count))))),
)
ending_of name (ArchiveFull end need) = (8, codes "clpa: archive: full at " ++ full_at end need)
ending_of name (SecondDamaged at) = (6, codes "clpa: second archive: damaged at " ++ line (decimal at))
ending_of name (VersionDiffers first second) = (
  8,
  codes "clpa: second archive: version " ++ (decimal second ++ (codes ", the archive has " ++ line (decimal first))),
)
ending_of name (AlreadyNewest version) =
    (8, codes "clpa: archive: version " ++ (decimal version ++ line (codes " is the newest")))

-- The same of a refusal that came of a file: the disk, the memory and the archive's limit of length are then told with the
-- file's name.
abbrev pub file_ending_of : List ℕ → Refusal → ℕ × List ℕ
file_ending_of name DiskFault = (5, codes "clpa: " ++ (name ++ line (codes ": disk failed")))
file_ending_of name OutOfMemory = (9, codes "clpa: " ++ (name ++ line (codes ": out of memory")))
file_ending_of name (ArchiveFull end need) =
    (4, codes "clpa: " ++ (name ++ (codes ": archive full at " ++ full_at end need)))
file_ending_of name refusal = ending_of name refusal

abbrev pub status_of : Refusal → ℕ
status_of refusal = (ending_of [] refusal).0

abbrev pub line_of : List ℕ → Refusal → List ℕ
line_of name refusal = (ending_of name refusal).1

-- the status is that of want of memory
abbrev pub TellsNoMemory : ℕ → Type 0
TellsNoMemory status = status ≡ status_of OutOfMemory

abbrev pub file_status_of : Refusal → ℕ
file_status_of refusal = (file_ending_of [] refusal).0

abbrev pub file_line_of : List ℕ → Refusal → List ℕ
file_line_of name refusal = (file_ending_of name refusal).1

-- The error output took this text and no more, unless its count of faults rose.
abbrev pub Says : Option (List ℕ) → Option (List ℕ) → ℕ → ℕ → List ℕ → Type 0
Says old new before after text = Grew old new text ⊎ Rose before after
