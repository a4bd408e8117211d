-- The refusals of the calls on a journal, as those of opening.
use Rattle.disk_journal.specs.declared.refusals.StartRefusal.{StartRefusal}
use Rattle.disk_journal.specs.declared.refusals.WalkRefusal.{WalkRefusal}
use Rattle.disk_journal.specs.declared.refusals.LoadRefusal.{LoadRefusal}
use Rattle.archive_open.specs.declared.refusal.ArchiveRefusal.{ArchiveRefusal}

abbrev pub from_start : StartRefusal → ArchiveRefusal
from_start StartRefusal.DiskFault = ArchiveRefusal.DiskFault
from_start (StartRefusal.Damaged at) = ArchiveRefusal.Damaged at

abbrev pub from_walk : WalkRefusal → ArchiveRefusal
from_walk WalkRefusal.DiskFault = ArchiveRefusal.DiskFault
from_walk (WalkRefusal.Damaged at) = ArchiveRefusal.Damaged at

abbrev pub from_load : LoadRefusal → ArchiveRefusal
from_load LoadRefusal.DiskFault = ArchiveRefusal.DiskFault
from_load (LoadRefusal.Damaged at) = ArchiveRefusal.Damaged at
from_load LoadRefusal.OutOfMemory = ArchiveRefusal.OutOfMemory
