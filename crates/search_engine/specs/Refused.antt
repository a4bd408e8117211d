-- The refusals of the printing and of a search into a text, as those of the search.
use Rattle.search_engine.specs.declared.refusal.PrintRefusal.{PrintRefusal}
use Rattle.search_walk.specs.declared.refusal.SearchRefusal.{SearchRefusal}

abbrev pub from_print : PrintRefusal → SearchRefusal
from_print PrintRefusal.Damaged = SearchRefusal.Damaged
from_print PrintRefusal.OutOfMemory = SearchRefusal.OutOfMemory

-- a text that cannot grow is want of memory
abbrev pub from_text : SearchRefusal → SearchRefusal
from_text SearchRefusal.DiskFault = SearchRefusal.DiskFault
from_text SearchRefusal.SinkFault = SearchRefusal.OutOfMemory
from_text SearchRefusal.Damaged = SearchRefusal.Damaged
from_text SearchRefusal.OutOfMemory = SearchRefusal.OutOfMemory
