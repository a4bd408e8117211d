-- Which refusal of a command that reads an archive the refusal of a search is.
use Rattle.std.specs.Prelude.{ℕ}
use Rattle.search_walk.specs.declared.refusal.SearchRefusal.{SearchRefusal}
use Rattle.command_refusals.specs.declared.outcome.ReadRefusal.{ReadRefusal}

-- why a command that reads an archive is refused where searching was, in an archive that is told as damaged at this place
abbrev pub from_search : ℕ → SearchRefusal → ReadRefusal
from_search at SearchRefusal.DiskFault = ReadRefusal.DiskFault
from_search at SearchRefusal.SinkFault = ReadRefusal.SinkFault
from_search at SearchRefusal.Damaged = ReadRefusal.Damaged at
from_search at SearchRefusal.OutOfMemory = ReadRefusal.OutOfMemory
