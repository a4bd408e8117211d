-- What causes say.
use Rattle.std.proofs.Common.{◌≡◌, ⊎_elim, inl, inr, ℕ, List, refl, ◌∙◌, Option, None, Some}
use Rattle.log_seams.specs.Disk.{DiskState}
use Rattle.turn_lock.specs.Words.{about}
use Rattle.row_codec.specs.declared.namer.Which.{Which}
use Rattle.row_codec.specs.declared.namer.NameRefusal.{NameRefusal}
use Rattle.row_codec.specs.declared.namer.NameRefusal.TheVariants.{Full as NameFull, OutOfMemory as NoMemory}
use Rattle.disk_seal.specs.Fixed.{KeeperPass}
use Rattle.ingest_workers.specs.declared.outcome.Cause.{Cause}
use Rattle.ingest_workers.specs.declared.outcome.Cause.TheVariants.{ReadFault, LineTooLong, TooManyLines, Full, DiskFault, ArchiveFull, OutOfMemory}
use Rattle.ingest_workers.specs.declared.file_end.FileEnd.TheVariants.{Part as PartStop, Lost}
use Rattle.ingest_workers.specs.Causes.{EndsLog, Grounds, Log, HasJobCause, HasLogCause, HasSealCause, IsFullCause, NoneFailed, grounds_of}
use Rattle.ingest_meaning.specs.Given.{AreAllOf}
use Rattle.ingest_workers.specs.Full.{Books, WasFullBehind}
use Rattle.ingest_workers.specs.FileEnd.{IsNameStop, stop_by}

-- ---- a message that is not named

pub name_stop : (r : NameRefusal) → IsNameStop (stop_by r)
name_stop (NameFull book count) = tt
name_stop NoMemory = tt

pub full_cause : (fills : Which → ℕ → Type 0) (cause : Cause) → IsNameStop (PartStop cause) → ((book : Which) (count : ℕ) → cause ≡ Full book count → fills book count) → IsFullCause fills cause
full_cause fills ReadFault named full = absurd named
full_cause fills (LineTooLong line) named full = absurd named
full_cause fills TooManyLines named full = absurd named
full_cause fills (Full book count) named full = full book count refl
full_cause fills (DiskFault opened now) named full = absurd named
full_cause fills OutOfMemory named full = absurd named
full_cause fills (ArchiveFull end need) named full = absurd named

module _ {D : Type 0} (state : D → DiskState) (start p : KeeperPass D) where
  pub lost_cause : (room : ℕ → ℕ → Type 0) (cause : Cause) → IsNameStop (Lost cause) → HasSealCause state room start p cause
  lost_cause room ReadFault named = absurd named
  lost_cause room (LineTooLong line) named = absurd named
  lost_cause room TooManyLines named = absurd named
  lost_cause room (Full book count) named = absurd named
  lost_cause room (DiskFault opened now) named = absurd named
  lost_cause room OutOfMemory named = tt
  lost_cause room (ArchiveFull end need) named = absurd named

-- no read failed before it
pub name_cause : (fills : Which → ℕ → Type 0) (full : List (List ℕ) → Which → ℕ → Type 0) (log : Log) (version : ℕ) (taken : List (List ℕ)) → ((book : Which) (count : ℕ) → fills book count → full taken book count) → (cause : Cause) → NoneFailed log → IsFullCause fills cause
    → HasLogCause full log version taken cause
name_cause fills full log version taken f ReadFault steady is = absurd is
name_cause fills full log version taken f (LineTooLong line) steady is = absurd is
name_cause fills full log version taken f TooManyLines steady is = absurd is
name_cause fills full log version taken f (Full book count) steady is = (steady, f book count is)
name_cause fills full log version taken f (DiskFault opened now) steady is = absurd is
name_cause fills full log version taken f OutOfMemory steady is = absurd is
name_cause fills full log version taken f (ArchiveFull end need) steady is = absurd is

-- ---- a segment that is not sealed

module _ {D : Type 0} (state : D → DiskState) (start p q : KeeperPass D) (same : about p ≡ about start) where
  -- told of the pass at the start of the file, and of what had no room
  pub seal_cause : (was room : ℕ → ℕ → Type 0) (cause : Cause) → ((end need : ℕ) → cause ≡ ArchiveFull end need → room end need) → HasSealCause state was p q cause → HasSealCause state room start q cause
  seal_cause was room ReadFault found has = absurd has
  seal_cause was room (LineTooLong line) found has = absurd has
  seal_cause was room TooManyLines found has = absurd has
  seal_cause was room (Full book count) found has = absurd has
  seal_cause was room (DiskFault opened now) found has = record { fault = record { opened = λ a is. has.fault.opened a (same ∙ is); rose = has.fault.rose }; mark = has.mark }
  seal_cause was room OutOfMemory found has = tt
  seal_cause was room (ArchiveFull end need) found has = found end need refl

-- ---- a job

module _ {D : Type 0} (state : D → DiskState) (limit : ℕ) (books : Books) (start q : KeeperPass D) (log : Log) (version : ℕ) (sealed : List (List ℕ)) where
  abbrev grounds : Grounds
  grounds = grounds_of state limit version books log.bytes start q

  pub of_seal : (room : ℕ → ℕ → Type 0) → ((end need : ℕ) → room end need → grounds.no_room (EndsLog grounds.full log version) sealed end need) → (cause : Cause) → HasSealCause state room start q cause → HasJobCause grounds log version sealed (Some cause)
  of_seal room found ReadFault has = absurd has
  of_seal room found (LineTooLong line) has = absurd has
  of_seal room found TooManyLines has = absurd has
  of_seal room found (Full book count) has = absurd has
  of_seal room found (DiskFault opened now) has = has
  of_seal room found OutOfMemory has = tt
  of_seal room found (ArchiveFull end need) has = found end need has

  pub of_log : (cause : Cause) → HasLogCause (WasFullBehind version books log.bytes) log version sealed cause → HasJobCause grounds log version sealed (Some cause)
  of_log ReadFault has = has
  of_log (LineTooLong line) has = has
  of_log TooManyLines has = has
  of_log (Full book count) has = has
  of_log (DiskFault opened now) has = absurd has
  of_log OutOfMemory has = absurd has
  of_log (ArchiveFull end need) has = absurd has

-- a cause of the log says the same where more is known of full books
pub log_cause_on : (full full' : List (List ℕ) → Which → ℕ → Type 0) (log : Log) (version : ℕ) (taken : List (List ℕ)) (cause : Cause) → ((book : Which) (count : ℕ) → full taken book count → full' taken book count)
    → HasLogCause full log version taken cause → HasLogCause full' log version taken cause
log_cause_on full full' log version taken ReadFault wider has = has
log_cause_on full full' log version taken (LineTooLong line) wider has = has
log_cause_on full full' log version taken TooManyLines wider has = has
log_cause_on full full' log version taken (Full book count) wider has = (has.0, wider book count has.1)
log_cause_on full full' log version taken (DiskFault opened now) wider has = absurd has
log_cause_on full full' log version taken OutOfMemory wider has = absurd has
log_cause_on full full' log version taken (ArchiveFull end need) wider has = absurd has

ends_on : (full full' : List (List ℕ) → Which → ℕ → Type 0) (log : Log) (version : ℕ) → ((ms : List (List ℕ)) (book : Which) (count : ℕ) → full ms book count → full' ms book count)
    → (taken : List (List ℕ)) → EndsLog full log version taken → EndsLog full' log version taken
ends_on full full' log version wider taken ends = ⊎_elim
    (λ (all : AreAllOf version log.bytes taken). inl all)
    (λ (has : (cause : Cause) × HasLogCause full log version taken cause). inr (has.0, log_cause_on full full' log version taken has.0 (wider taken) has.1))
    ends

-- a cause says the same on other grounds
pub cause_on : (g h : Grounds) (log : Log) (version : ℕ) (sealed : List (List ℕ)) (o : Option Cause)
    → ((ms : List (List ℕ)) (book : Which) (count : ℕ) → g.full ms book count → h.full ms book count)
    → ((last last' : List (List ℕ) → Type 0) → ((ms : List (List ℕ)) → last ms → last' ms) → (end need : ℕ) → g.no_room last sealed end need → h.no_room last' sealed end need) → ((opened now : ℕ) → g.failed opened now → h.failed opened now)
    → HasJobCause g log version sealed o → HasJobCause h log version sealed o
cause_on g h log version sealed None full room failed has = has
cause_on g h log version sealed (Some ReadFault) full room failed has = has
cause_on g h log version sealed (Some (LineTooLong line)) full room failed has = has
cause_on g h log version sealed (Some TooManyLines) full room failed has = has
cause_on g h log version sealed (Some (Full book count)) full room failed has = (has.0, full sealed book count has.1)
cause_on g h log version sealed (Some (DiskFault opened now)) full room failed has = failed opened now has
cause_on g h log version sealed (Some OutOfMemory) full room failed has = tt
cause_on g h log version sealed (Some (ArchiveFull end need)) full room failed has = room (EndsLog g.full log version) (EndsLog h.full log version) (ends_on g.full h.full log version full) end need has
