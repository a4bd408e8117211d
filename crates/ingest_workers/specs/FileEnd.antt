-- What stops a file where a text was not named.
use Rattle.std.specs.Prelude.{ℕ, Option, None, Some}
use Rattle.row_codec.specs.declared.namer.NameRefusal.{NameRefusal}
use Rattle.row_codec.specs.declared.namer.NameRefusal.TheVariants.{Full as NameFull, OutOfMemory as NoMemory}
use Rattle.ingest_workers.specs.declared.outcome.Cause.{Cause}
use Rattle.ingest_workers.specs.declared.outcome.Cause.TheVariants.{Full, OutOfMemory}
use Rattle.ingest_workers.specs.declared.file_end.FileEnd.{FileEnd}
use Rattle.ingest_workers.specs.declared.file_end.FileEnd.TheVariants.{Part, Lost}

abbrev pub stop_by : NameRefusal → FileEnd
stop_by (NameFull book count) = Part (Full book count)
stop_by NoMemory = Lost OutOfMemory

-- a dictionary is full, or there was no memory
abbrev pub IsNameStop : FileEnd → Type 0
IsNameStop (Part (Full book count)) = Unit {0}
IsNameStop (Lost OutOfMemory) = Unit {0}
IsNameStop _ = ⊥

-- How many messages were met and not taken, where no further one is taken for this cause: a full dictionary stops the one that
-- names the text.
abbrev pub refused_by : Option Cause → ℕ
refused_by None = 0
refused_by (Some (Full book count)) = 1
refused_by (Some _) = 0
