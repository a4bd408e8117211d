-- What `files` prints: a line for each file of the archive.
use Rattle.std.specs.Prelude.{ℕ, List, Option, Result, is_ok}
use Rattle.archive_open.specs.Shown.{files_of}
use Rattle.file_lines.specs.Directory.{directory}
use Rattle.sink_pieces.specs.Output.{Took}
use Rattle.command_refusals.specs.Reading.{OverJournal}
use Rattle.command_refusals.specs.declared.outcome.ReadRefusal.{ReadRefusal}

-- The output took the lines of the files that the journal holds, or a front of them where the command was refused.
abbrev pub PrintsDirectory : Result Unit ReadRefusal → Option (List ℕ) → Option (List ℕ) → Option (List ℕ) → Type 0
PrintsDirectory answer bytes old new = OverJournal bytes (λ held. Took (is_ok answer) old new (directory (files_of held)))
