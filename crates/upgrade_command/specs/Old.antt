-- The archive that is upgraded.
use Rattle.std.specs.Prelude.{◌≡◌, ◌-◌, ◌<◌, ◌≤◌, ℕ, List, length, All, Option}
use Rattle.log_seams.specs.Disk.{DiskState}
use Rattle.log_seams.specs.Outside.{Rose}
use Rattle.record_format.specs.Header.{IsHeader}
use Rattle.record_format.specs.declared.header.TheConstants.{LAST_VERSION}
use Rattle.archive_meaning.specs.declared.TheConstants.{MAX_FILES, MAX_NAME_LEN}
use Rattle.archive_open.specs.Shown.{HasLastGate, Opens, RefusedAt, Shown}
use Rattle.archive_open.specs.declared.files.FileEntry.{FileEntry}
use Rattle.search_meaning.specs.Journal.{OfJournal}
use Rattle.command_refusals.specs.declared.outcome.UpgradeRefusal.{UpgradeRefusal}

-- the archive may have so many files with such names
pub record MayBeNamed (files : List FileEntry) : Type 0 where
  pub few : length files ≤ MAX_FILES
  pub short : All (λ (f : FileEntry). length f.name ≤ MAX_NAME_LEN) files

-- It is the archive of these bytes, of an earlier version, and its log types are cut.
pub record IsOld (seen : Option (List ℕ)) (a : Shown) (layouts : List (List ℕ)) : Type 0 where
  pub opens : Opens seen a
  pub last : HasLastGate seen a
  pub header : IsHeader a.header
  pub older : a.header.version < LAST_VERSION
  pub layouts_are : layouts ≡ a.kept.types
  pub named : MayBeNamed a.files

-- why it is not upgraded
abbrev pub RefusesOld : DiskState → DiskState → UpgradeRefusal → Type 0
RefusesOld old new UpgradeRefusal.DiskFault = Rose old.faults new.faults
RefusesOld old new (UpgradeRefusal.Damaged at) = RefusedAt at old.seen
RefusesOld old new UpgradeRefusal.OutOfMemory = Unit {0}
RefusesOld old new (UpgradeRefusal.AlreadyNewest version) =
    (version ≡ LAST_VERSION) × OfJournal old.seen (λ h es held. h.version ≡ LAST_VERSION)
RefusesOld old new _ = ⊥

-- why an archive that was opened is not upgraded: it may be a damaged one
abbrev pub RefusesOpened : Shown → UpgradeRefusal → Type 0
RefusesOpened a (UpgradeRefusal.Damaged at) = (at ≡ a.end - 1) × ¬ MayBeNamed a.files
RefusesOpened a UpgradeRefusal.OutOfMemory = Unit {0}
RefusesOpened a (UpgradeRefusal.AlreadyNewest version) = (version ≡ LAST_VERSION) × (a.header.version ≡ LAST_VERSION)
RefusesOpened a _ = ⊥
