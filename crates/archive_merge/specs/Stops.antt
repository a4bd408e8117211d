-- Why rows were not taken over.
use Rattle.row_rename.specs.declared.refusal.RenameRefusal.{RenameRefusal}
use Rattle.row_rename.specs.declared.refusal.RenameRefusal.TheVariants.{Full, Damaged, OutOfMemory}
use Rattle.segment_pages.specs.declared.refusal.PageRefusal.{PageRefusal}
use Rattle.archive_merge.specs.declared.stop.Stop.{Stop}
use Rattle.archive_merge.specs.declared.stop.Stop.TheVariants.{Full as StopFull, SecondDamaged, SecondFault, OutOfMemory as StopOutOfMemory}

-- where a row was not renamed
abbrev pub stop_by : RenameRefusal → Stop
stop_by (Full book count) = StopFull book count
stop_by Damaged = SecondDamaged
stop_by OutOfMemory = StopOutOfMemory

-- where a page was not read
abbrev pub stop_by_page : PageRefusal → Stop
stop_by_page PageRefusal.DiskFault = SecondFault
stop_by_page PageRefusal.Damaged = SecondDamaged
stop_by_page PageRefusal.OutOfMemory = StopOutOfMemory
