-- Why the text of a file cannot be had, and what that says of the disk.
use Rattle.std.specs.Prelude.{◌≡◌, ◌≢◌, ℕ, ◌≤◌, Option, Some}
use Rattle.log_seams.specs.Outside.{Rose}
use Rattle.segment_pages.specs.declared.refusal.PageRefusal.{PageRefusal}
use Rattle.archive_text.specs.declared.cause.TextCause.{TextCause}

-- the refusal of a page
abbrev pub from_page : PageRefusal → TextCause
from_page PageRefusal.DiskFault = TextCause.DiskFault
from_page PageRefusal.Damaged = TextCause.Damaged
from_page PageRefusal.OutOfMemory = TextCause.OutOfMemory

-- what the cause says of a disk's count of faults: at a fault it rose, and else it is as it was
pub record CountsBy (before now : ℕ) (cause : Option TextCause) : Type 0 where
  pub later : before ≤ now
  pub failed : cause ≡ Some TextCause.DiskFault → Rose before now
  pub spared : cause ≢ Some TextCause.DiskFault → now ≡ before
