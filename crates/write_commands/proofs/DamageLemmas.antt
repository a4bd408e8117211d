-- What is told of the adding of logs over a disk that tells its bytes only where it is to.
use Rattle.std.proofs.Common.{◌≡◌, inl, inr, sym, subst, ℕ, Bool, true, false, List, drop, take, Some, arith}
use Rattle.std.specs.Prelude.{IfErr, IsErrOf, is_some, Result, Ok, Err}
use Rattle.log_seams.specs.Disk.{DiskState, KeepsBytes}
use Rattle.record_format.specs.declared.header.Header.{Header}
use Rattle.disk_journal.specs.Calls.{HasNoHeader}
use Rattle.disk_journal.specs.State.{JournalState}
use Rattle.disk_journal.specs.declared.refusals.StartRefusal.{StartRefusal}
use Rattle.archive_meaning.specs.declared.entry.JournalEntry.{JournalEntry}
use Rattle.archive_open.specs.Shown.{RefusedAt}
use Rattle.archive_open.specs.declared.refusal.ArchiveRefusal.{ArchiveRefusal}
use Rattle.archive_open.proofs.OpenLemmas.{start_refused}
use Rattle.disk_seal.specs.Beside.{Follower, StandsOn}
use Rattle.disk_seal.specs.Told.{IfTold}
use Rattle.ingest_workers.specs.Ingested.{told_entries}
use Rattle.command_refusals.specs.Outcome.{add_from_archive, add_from_start}
use Rattle.command_refusals.specs.declared.outcome.AddRefusal.{AddRefusal}
use Rattle.command_answers.specs.Ingested.{FromArchive, HasCallCause, TakesNothing, TellsDamage}
use Rattle.command_answers.specs.Known.{told_if}
use Rattle.command_answers.specs.Names.{RefusesNames}
use Rattle.write_commands.specs.Followed.{MayBeginAt}
use Rattle.write_commands.specs.StepsAdding.{RefusesNewLogs}
use Rattle.file_outcomes.specs.StepsKnown.{IsNoDamage}
use Rattle.write_commands.specs.declared.ingest.NewLogs.{NewLogs}

-- one that stands for everything, and neither began with an entry nor handled one
pub begins_at : {F : Type 0} (f : Follower F) (j : JournalState) → f.first ≡ 0 → f.handled ≡ 0 → f.halted ≡ false → ((h : Header) (es hs : List JournalEntry) → f.stands h es hs) → MayBeginAt f j
begins_at {F} f j first handled running always = record {
  within = omega (arith, first, handled);
  stands = by_told (is_some j.disk.seen) (told_entries j);
  running = running;
}
  where
    by_told : (b : Bool) (es : List JournalEntry) → IfTold b (StandsOn f j.header es)
    by_told false es = tt
    by_told true es = record { within = omega (arith, first, handled); stands = always j.header (take f.first es) (take f.handled (drop f.first es)) }

-- ---- refused

cause_told : (tells : Bool) (names : List (List ℕ)) (old new : DiskState) (refusal : AddRefusal) → HasCallCause names old new refusal → HasCallCause names (told_if tells old) (told_if tells new) refusal
cause_told true names old new refusal cause = cause
cause_told false names old new (AddRefusal.NameTooLong index) cause = cause
cause_told false names old new (AddRefusal.TooManyFiles held more) (inl cause) = inl cause
cause_told false names old new (AddRefusal.TooManyFiles held more) (inr cause) = inr (cause.0, cause.1, tt)
cause_told false names old new AddRefusal.DiskFault cause = (cause.0, inr tt)
cause_told false names old new (AddRefusal.Damaged at) cause = tt
cause_told false names old new AddRefusal.OutOfMemory cause = tt
cause_told false names old new (AddRefusal.ArchiveFull end need) cause = tt

nothing_told : (tells : Bool) (old new : DiskState) → FromArchive old (λ h before bytes stood. TakesNothing h before old new) → FromArchive (told_if tells old) (λ h before bytes stood. TakesNothing h before (told_if tells old) (told_if tells new))
nothing_told true old new nothing = nothing
nothing_told false old new nothing = tt

refuses_one : (tells : Bool) (asked : NewLogs) (old new : DiskState) (refusal : AddRefusal) → RefusesNewLogs asked old new refusal → RefusesNewLogs asked (told_if tells old) (told_if tells new) refusal
refuses_one tells asked old new refusal refuses = record { cause = cause_told tells _ old new refusal refuses.cause; nothing = nothing_told tells old new refuses.nothing }

pub refuses_told : {A : Type 0} (tells : Bool) (asked : NewLogs) (old new : DiskState) (result : Result A AddRefusal) → IfErr result (RefusesNewLogs asked old new) → IfErr result (RefusesNewLogs asked (told_if tells old) (told_if tells new))
refuses_told tells asked old new (Ok done) refuses = tt
refuses_told tells asked old new (Err refusal) refuses = refuses_one tells asked old new refusal refuses

-- ---- where damage is told

-- the header could not be read
pub start_damage : {A : Type 0} (old new : DiskState) (result : Result A StartRefusal) (r : StartRefusal) → result ≡ Err r → KeepsBytes old new → ((at : ℕ) → IsErrOf result (StartRefusal.Damaged at) → HasNoHeader at old) → TellsDamage old new (add_from_start r)
start_damage old new result StartRefusal.DiskFault is keeps damaged = tt
start_damage old new result (StartRefusal.Damaged at) is keeps damaged = (start_refused at old (damaged at is), keeps)

-- the archive could not be opened
pub archive_damage : {A : Type 0} (old new : DiskState) (result : Result A ArchiveRefusal) (r : ArchiveRefusal) → result ≡ Err r → KeepsBytes old new → ((at : ℕ) → IsErrOf result (ArchiveRefusal.Damaged at) → RefusedAt at old.seen) → TellsDamage old new (add_from_archive r)
archive_damage old new result ArchiveRefusal.DiskFault is keeps damaged = tt
archive_damage old new result (ArchiveRefusal.Damaged at) is keeps damaged = (damaged at is, keeps)
archive_damage old new result ArchiveRefusal.OutOfMemory is keeps damaged = tt

-- and after the bytes were looked at
pub damage_sooner : (old late new : DiskState) → late.seen ≡ old.seen → KeepsBytes old new → (refusal : AddRefusal) → TellsDamage late new refusal → TellsDamage old new refusal
damage_sooner old late new same keeps (AddRefusal.NameTooLong index) tells = tt
damage_sooner old late new same keeps (AddRefusal.TooManyFiles held more) tells = tt
damage_sooner old late new same keeps AddRefusal.DiskFault tells = tt
damage_sooner old late new same keeps (AddRefusal.Damaged at) tells = (subst (RefusedAt at) same tells.0, keeps)
damage_sooner old late new same keeps AddRefusal.OutOfMemory tells = tt
damage_sooner old late new same keeps (AddRefusal.ArchiveFull end need) tells = tt

-- the names alone are refused
pub names_damage : (names : List (List ℕ)) (old new : DiskState) (refusal : AddRefusal) → RefusesNames names (Some refusal) → TellsDamage old new refusal
names_damage names old new (AddRefusal.NameTooLong index) refuses = tt
names_damage names old new (AddRefusal.TooManyFiles held more) refuses = tt
names_damage names old new AddRefusal.DiskFault refuses = tt
names_damage names old new (AddRefusal.Damaged at) refuses = absurd refuses
names_damage names old new AddRefusal.OutOfMemory refuses = tt
names_damage names old new (AddRefusal.ArchiveFull end need) refuses = tt

-- no damage is told
pub no_damage : (old new : DiskState) (refusal : AddRefusal) → IsNoDamage refusal → TellsDamage old new refusal
no_damage old new (AddRefusal.NameTooLong index) none = tt
no_damage old new (AddRefusal.TooManyFiles held more) none = tt
no_damage old new AddRefusal.DiskFault none = tt
no_damage old new (AddRefusal.Damaged at) none = absurd none
no_damage old new AddRefusal.OutOfMemory none = tt
no_damage old new (AddRefusal.ArchiveFull end need) none = tt

-- the answer of the call
pub damaged_with : {A : Type 0} (old new : DiskState) (result : Result A AddRefusal) (r r' : AddRefusal) → result ≡ Err r → r ≡ r' → TellsDamage old new r' → IfErr result (TellsDamage old new)
damaged_with {A} old new result r r' is same tells =
    subst (λ (x : Result A AddRefusal). IfErr x (TellsDamage old new)) (sym is) (subst (TellsDamage old new) (sym same) tells)
