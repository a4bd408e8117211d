-- The refusals of what the reader stands on, as its own.
use Rattle.sink_pieces.specs.declared.refusal.PrintRefusal.{PrintRefusal}
use Rattle.disk_seal.specs.declared.found.FoundRefusal.{FoundRefusal}
use Rattle.live_search.specs.declared.refusal.LiveRefusal.{LiveRefusal}

abbrev pub from_print : PrintRefusal → LiveRefusal
from_print PrintRefusal.SinkFault = LiveRefusal.SinkFault
from_print PrintRefusal.OutOfMemory = LiveRefusal.OutOfMemory

-- of a look at the journal
abbrev pub from_found : FoundRefusal → LiveRefusal
from_found (FoundRefusal.DiskFault opened now) = LiveRefusal.DiskFault
from_found (FoundRefusal.Damaged at) = LiveRefusal.Damaged at
from_found FoundRefusal.OutOfMemory = LiveRefusal.OutOfMemory
