-- The refusals of a reader of columns, as those of pages on a disk.
use Rattle.record_format.specs.declared.refusal.FormatRefusal.{FormatRefusal}
use Rattle.segment_pages.specs.declared.refusal.PageRefusal.{PageRefusal}

abbrev pub from_format : FormatRefusal → PageRefusal
from_format FormatRefusal.Malformed = PageRefusal.Damaged
from_format FormatRefusal.OutOfMemory = PageRefusal.OutOfMemory
