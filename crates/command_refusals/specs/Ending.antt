-- How a call ends: its status, and its line on the error output.
use Rattle.std.specs.Prelude.{◌≡◌, ◌⊎◌, ℕ, List, [], Option, Some, None}
use Rattle.log_seams.specs.Disk.{DiskState, KeepsBytes}
use Rattle.log_seams.specs.Outside.{Adds, Rose}
use Rattle.command_refusals.specs.Outside.{Outside}
use Rattle.command_refusals.specs.Refusal.{Says, status_of, line_of}
use Rattle.command_refusals.specs.declared.refusal.Refusal.{Refusal}
use Rattle.command_refusals.specs.declared.refusal.Refusal.TheVariants.{BadPattern, OutOfMemory, SinkFault}
use Rattle.wild_match.specs.Reading.{IsLoneBackslash}
use Rattle.wild_match.specs.declared.read.PatternRefusal.{PatternRefusal}
use Rattle.wild_match.specs.declared.read.PatternRefusal.TheVariants.{BadPattern as ReadBadPattern}
use Rattle.wild_match.specs.declared.read.PatternRefusal.TheVariants.{OutOfMemory as ReadOutOfMemory}

-- the count of faults rose during the call
abbrev pub RoseIn : ℕ × ℕ → Type 0
RoseIn counts = Rose counts.0 counts.1

-- the output took nothing
abbrev pub TookNothing : Option (List ℕ) × Option (List ℕ) → Type 0
TookNothing texts = texts.1 ≡ texts.0

-- no write to the output failed
abbrev pub Stayed : ℕ × ℕ → Type 0
Stayed counts = counts.1 ≡ counts.0

-- no read of the log failed: their count is as it was, unless it stands at the last value of u64
abbrev pub NoneAdded : ℕ × ℕ → Type 0
NoneAdded counts = Adds 0 counts.0 counts.1

-- the error output took this text and no more, unless its count of faults rose
abbrev pub SaysIn : Outside → List ℕ → Type 0
SaysIn seen text = Says seen.err.0 seen.err.1 seen.err_faults.0 seen.err_faults.1 text

-- the status for an answer, where no refusal is `None`
abbrev pub exit_status : Option Refusal → ℕ
exit_status None = 0
exit_status (Some refusal) = status_of refusal

-- the line for an answer
abbrev pub error_line : List ℕ → Option Refusal → List ℕ
error_line name None = []
error_line name (Some refusal) = line_of name refusal

-- The call ended with this answer: with its status, and with its line on the error output.
pub record EndsWith (seen : Outside) (name : List ℕ) (status : ℕ) (answer : Option Refusal) : Type 0 where
  pub status_is : status ≡ exit_status answer
  pub said : SaysIn seen (error_line name answer)

-- The call ended for want of memory.
abbrev pub EndsWithoutMemory : Outside → ℕ → Type 0
EndsWithoutMemory seen status = EndsWith seen [] status (Some OutOfMemory)

-- The call ended since the output failed.
abbrev pub EndsWithoutOutput : Outside → ℕ → Type 0
EndsWithoutOutput seen status = EndsWith seen [] status (Some SinkFault)

-- The call was refused before anything was printed.
pub record Refuses (seen : Outside) (status : ℕ) (refusal : Refusal) : Type 0 where
  pub ends : EndsWith seen [] status (Some refusal)
  pub nothing : TookNothing seen.out
  pub sink : Stayed seen.out_faults

-- The call was refused before anything was printed and before a log was touched.
pub record RefusesSoon (seen : Outside) (status : ℕ) (refusal : Refusal) : Type 0 where
  pub refuses : Refuses seen status refusal
  pub opens : (name : List ℕ) → Stayed (seen.opens name)
  pub reads : (name : List ℕ) → Stayed (seen.reads name)

-- The call was refused before anything was touched: the disk, the outputs and the logs are as they were.
pub record RefusesAtOnce (seen : Outside) (old new : DiskState) (status : ℕ) (refusal : Refusal) : Type 0 where
  pub soon : RefusesSoon seen status refusal
  pub bytes : KeepsBytes old new
  pub ranges : new.ranges ≡ old.ranges
  pub faults : new.faults ≡ old.faults

-- There was no memory to read what was asked for, and nothing was touched.
abbrev pub LacksMemoryAtOnce : Outside → DiskState → DiskState → ℕ → Type 0
LacksMemoryAtOnce seen old new status = RefusesAtOnce seen old new status OutOfMemory

-- A pattern with a lone backslash at this place is refused before a log is touched, or there is no memory to read it.
abbrev pub RefusesPattern : Outside → ℕ → ℕ → Type 0
RefusesPattern seen status at = RefusesSoon seen status (BadPattern at) ⊎ RefusesSoon seen status OutOfMemory

-- the same before the archive is touched
abbrev pub RefusesPatternAtOnce : Outside → DiskState → DiskState → ℕ → ℕ → Type 0
RefusesPatternAtOnce seen old new status at =
    RefusesAtOnce seen old new status (BadPattern at)
    ⊎ LacksMemoryAtOnce seen old new status

-- A pattern is refused with the place of its lone backslash, or for want of memory.
abbrev pub IsPatternRefusal : List ℕ → PatternRefusal → Type 0
IsPatternRefusal text (ReadBadPattern at) = IsLoneBackslash text at
IsPatternRefusal text ReadOutOfMemory = Unit {0}
