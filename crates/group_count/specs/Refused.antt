-- The refusals of a table, as those of the walk over an archive.
use Rattle.search_walk.specs.declared.refusal.SearchRefusal.{SearchRefusal}
use Rattle.group_count.specs.declared.refusal.TableRefusal.{TableRefusal}

abbrev pub from_table : TableRefusal → SearchRefusal
from_table TableRefusal.Damaged = SearchRefusal.Damaged
from_table TableRefusal.OutOfMemory = SearchRefusal.OutOfMemory
