-- The refusals of what a search calls, as those of the search.
use Rattle.segment_pages.specs.declared.refusal.PageRefusal.{PageRefusal}
use Rattle.word_places.specs.declared.refusal.HoldRefusal.{HoldRefusal}
use Rattle.search_walk.specs.declared.refusal.SearchRefusal.{SearchRefusal}

abbrev pub from_page : PageRefusal → SearchRefusal
from_page PageRefusal.DiskFault = SearchRefusal.DiskFault
from_page PageRefusal.Damaged = SearchRefusal.Damaged
from_page PageRefusal.OutOfMemory = SearchRefusal.OutOfMemory

abbrev pub from_hold : HoldRefusal → SearchRefusal
from_hold HoldRefusal.DiskFault = SearchRefusal.DiskFault
from_hold HoldRefusal.Damaged = SearchRefusal.Damaged
from_hold HoldRefusal.OutOfMemory = SearchRefusal.OutOfMemory
