-- Why an ingest is refused as a whole.
use Rattle.std.proofs.Common.{◌≡◌, ◌+◌, ◌<◌, ◌≤◌, inl, inr, refl, sym, ap, ap₂, subst, ◌∙◌, ℕ, true, List, length, Option, Some, None, arith}
use Rattle.std.specs.Prelude.{IfErr, IfSome, IsErrOf, Result, Err, Ok, is_some}
use Rattle.log_seams.specs.Disk.{DiskState, KeepsBytes}
use Rattle.log_seams.specs.Outside.{CountsOf}
use Rattle.log_seams.proofs.MomentLemmas.{rose}
use Rattle.record_format.specs.declared.header.Header.{Header}
use Rattle.disk_journal.specs.Calls.{HasNoHeader}
use Rattle.disk_journal.specs.State.{JournalState}
use Rattle.disk_journal.specs.declared.refusals.StartRefusal.{StartRefusal}
use Rattle.archive_meaning.specs.declared.entry.JournalEntry.{JournalEntry}
use Rattle.archive_meaning.specs.Spelled.{end_of}
use Rattle.archive_meaning.specs.Stands.{StandsFor}
use Rattle.dict_core.specs.Books.{BookState}
use Rattle.archive_open.specs.Shown.{RefusedAt, StandsForNone}
use Rattle.archive_open.proofs.OpenLemmas.{start_refused}
use Rattle.archive_open.specs.declared.refusal.ArchiveRefusal.{ArchiveRefusal}
use Rattle.disk_seal.specs.Opening.{MayOpen}
use Rattle.disk_seal.specs.Registered.{IsFullFor}
use Rattle.ingest_meaning.specs.declared.refusal.RegisterRefusal.{RegisterRefusal}
use Rattle.disk_seal.proofs.NextLemmas.{gate_at}
use Rattle.ingest_workers.specs.Ingested.{told_entries}
use Rattle.command_answers.specs.Ingested.{FromArchive, GoPast, HasCallCause, TakesNothing}
use Rattle.command_answers.specs.Names.{RefusesMore, RefusesNames}
use Rattle.command_refusals.specs.Outcome.{add_from_archive, add_from_register, add_from_start}
use Rattle.command_refusals.specs.Reading.{OverJournal}
use Rattle.command_refusals.specs.declared.outcome.AddRefusal.{AddRefusal}
use Rattle.write_commands.specs.declared.ingest.NewLogs.{NewLogs}
use Rattle.write_commands.specs.StepsAdding.{RefusesNewLogs, names_asked}
use Rattle.file_outcomes.specs.Naming.{IsHeldBy}
use Rattle.file_outcomes.specs.StepsKnown.{IsNoDamage}
use Rattle.write_commands.proofs.RegisterLemmas.{held_same}
use Rattle.file_outcomes.proofs.LeavesLemmas.{from_archive, of_told, opened_as}
use Rattle.file_outcomes.proofs.StepsLemmas.{Looked, no_more, same_bytes}

-- bytes that are refused stand for no journal
refused_none : (at : ℕ) (told : Option (List ℕ)) → RefusedAt at told → IfSome told StandsForNone
refused_none at None refused = tt
refused_none at (Some bytes) refused = refused.none

-- the archive could not be opened
pub archive_cause : {A : Type 0} (names : List (List ℕ)) (old new : DiskState) (result : Result A ArchiveRefusal) (r : ArchiveRefusal) → result ≡ Err r → KeepsBytes old new
    → ((at : ℕ) → IsErrOf result (ArchiveRefusal.Damaged at) → RefusedAt at old.seen) → CountsOf ArchiveRefusal.DiskFault old.faults new.faults result → HasCallCause names old new (add_from_archive r)
archive_cause names old new result ArchiveRefusal.DiskFault is keeps damaged counts = (counts.failed is, inl (keeps.seen, keeps.no_more))
archive_cause names old new result (ArchiveRefusal.Damaged at) is keeps damaged counts = refused_none at old.seen (damaged at is)
archive_cause names old new result ArchiveRefusal.OutOfMemory is keeps damaged counts = tt

-- where its bytes are told, the journal holds so many names
holds_told : (j : JournalState) (types words : BookState) (held : ℕ) → IsHeldBy j types words held → (bytes : List ℕ) → j.disk.seen ≡ Some bytes → (h : Header) (before : List JournalEntry) (stood : StandsFor bytes h before) → held ≡ length stood.legal.held.names
holds_told j types words held of bytes told h before stood =
    let may = of.opens in
    let opened = opened_as j h before bytes may.header may.spelled may.legal may.ends.ends told stood in
    held_same j.header h (told_entries j) before held opened.0 opened.1 (of_told (is_some j.disk.seen) (ap is_some told) of.names) stood.legal

-- it would have too many files
pub many_cause : (names : List (List ℕ)) (j : JournalState) (types words : BookState) (held more : ℕ) (refusal : AddRefusal) → IsHeldBy j types words held → more ≡ length names → RefusesMore held more (Some refusal) → HasCallCause names j.disk j.disk refusal
many_cause names j types words held more refusal of counted refuses =
    subst (HasCallCause names j.disk j.disk) (sym refuses.0) (inr ((refl, refuses.1), counted, over j.disk.seen refl))
  where
    over : (told : Option (List ℕ)) → j.disk.seen ≡ told → OverJournal told (λ journal. held ≡ length journal.names)
    over None is = tt
    over (Some bytes) is = λ h es stood. holds_told j types words held of bytes is h es stood

-- the names could not be appended
pub register_cause : {A : Type 0} (names : List (List ℕ)) (j new : JournalState) (types words : BookState) (held : ℕ) (of : IsHeldBy j types words held) → held + length names ≤ 1048576 → (result : Result A RegisterRefusal) (r : RegisterRefusal) → result ≡ Err r
    → ((end need : ℕ) → IsErrOf result (RegisterRefusal.ArchiveFull end need) → IsFullFor names end need j) → CountsOf RegisterRefusal.DiskFault j.disk.faults new.disk.faults result
    → HasCallCause names j.disk new.disk (add_from_register r)
register_cause names j new types words held of few result RegisterRefusal.OutOfMemory is full counts = tt
register_cause names j new types words held of few result RegisterRefusal.DiskFault is full counts = (counts.failed is, inr (few_in j.disk.seen refl))
  where
    few_in : (told : Option (List ℕ)) → j.disk.seen ≡ told → IfSome told (λ bytes. (h : Header) (before : List JournalEntry) (stood : StandsFor bytes h before) → ((c : List ℕ) → j.disk.images c → StandsFor c h before) → length stood.legal.held.names + length names ≤ 1048576)
    few_in None told = tt
    few_in (Some bytes) told = λ h before stood only. omega (arith, few, holds_told j types words held of bytes told h before stood)
register_cause names j new types words held of few result (RegisterRefusal.ArchiveFull end need) is full counts = go j.disk.seen refl
  where
    may : MayOpen j
    may = of.opens

    past : IsFullFor names end need j
    past = full end need is

    go : (told : Option (List ℕ)) → j.disk.seen ≡ told
        → IfSome told (λ bytes. (h : Header) (before : List JournalEntry) (stood : StandsFor bytes h before) → ((c : List ℕ) → j.disk.images c → StandsFor c h before) → GoPast names h before (length stood.legal.held.names) end need)
    go None told = tt
    go (Some bytes) told = λ h before stood only.
        let some : is_some j.disk.seen ≡ true = ap is_some told in
        let opened = opened_as j h before bytes may.header may.spelled may.legal may.ends.ends told stood in
        let gate : j.place + 1 ≡ end_of j.header (told_entries j) = of_told (is_some j.disk.seen) some (gate_at j.header j.disk.seen j.place j.count j.disk.images may.ends.ends may.spelled) in record {
          ends = past.ends ∙ (gate ∙ ap₂ (λ x es. end_of x es) opened.0 opened.1);
          needs = past.needs;
          past = subst (λ (x : Header). x.length_limit < end + need) opened.0 past.past;
          few = omega (arith, few, holds_told j types words held of bytes told h before stood);
        }

pub register_undamaged : (r : RegisterRefusal) → IsNoDamage (add_from_register r)
register_undamaged RegisterRefusal.OutOfMemory = tt
register_undamaged RegisterRefusal.DiskFault = tt
register_undamaged (RegisterRefusal.ArchiveFull end need) = tt

pub undamaged_with : {A : Type 0} (result : Result A AddRefusal) (r r' : AddRefusal) → result ≡ Err r → r ≡ r' → IsNoDamage r' → IfErr result IsNoDamage
undamaged_with {A} result r r' is same none = subst (λ (x : Result A AddRefusal). IfErr x IsNoDamage) (sym is) (subst IsNoDamage (sym same) none)

-- the answer of the call
pub refused_with : {A : Type 0} (names : List (List ℕ)) (old new : DiskState) (result : Result A AddRefusal) (r r' : AddRefusal) → result ≡ Err r → r ≡ r' → HasCallCause names old new r' → IfErr result (HasCallCause names old new)
refused_with {A} names old new result r r' is same cause =
    subst (λ (x : Result A AddRefusal). IfErr x (HasCallCause names old new)) (sym is) (subst (HasCallCause names old new) (sym same) cause)

-- and nothing was taken in
pub refuses_with : {A : Type 0} (asked : NewLogs) (old new : DiskState) (result : Result A AddRefusal) → IfErr result (HasCallCause (names_asked asked) old new) → FromArchive old (λ h before bytes stood. TakesNothing h before old new) → IfErr result (RefusesNewLogs asked old new)
refuses_with asked old new (Ok done) cause nothing = tt
refuses_with asked old new (Err refusal) cause nothing = record { cause = cause; nothing = nothing }

-- ---- before the archive is opened

-- the names alone are refused
pub names_cause : (names : List (List ℕ)) (old new : DiskState) (refusal : AddRefusal) → RefusesNames names (Some refusal) → HasCallCause names old new refusal
names_cause names old new (AddRefusal.NameTooLong index) refuses = refuses
names_cause names old new (AddRefusal.TooManyFiles held more) refuses = inl refuses
names_cause names old new AddRefusal.DiskFault refuses = absurd refuses
names_cause names old new (AddRefusal.Damaged at) refuses = absurd refuses
names_cause names old new AddRefusal.OutOfMemory refuses = absurd refuses
names_cause names old new (AddRefusal.ArchiveFull end need) refuses = absurd refuses

-- the reading of the header is
pub start_cause : {A : Type 0} (names : List (List ℕ)) (old new : DiskState) (result : Result A StartRefusal) (r : StartRefusal) → result ≡ Err r → KeepsBytes old new
    → ((at : ℕ) → IsErrOf result (StartRefusal.Damaged at) → HasNoHeader at old) → CountsOf StartRefusal.DiskFault old.faults new.faults result → HasCallCause names old new (add_from_start r)
start_cause names old new result StartRefusal.DiskFault is keeps damaged counts = (counts.failed is, inl (keeps.seen, keeps.no_more))
start_cause names old new result (StartRefusal.Damaged at) is keeps damaged counts = refused_none at old.seen (start_refused at old (damaged at is))

-- the cause of what was refused after the header was read
pub cause_sooner : (names : List (List ℕ)) (old mid late new : DiskState) (looked : Looked old mid late) (r : AddRefusal) → HasCallCause names late new r → HasCallCause names old new r
cause_sooner names old mid late new looked (AddRefusal.NameTooLong index) cause = cause
cause_sooner names old mid late new looked (AddRefusal.TooManyFiles held more) (inl cause) = inl cause
cause_sooner names old mid late new looked (AddRefusal.TooManyFiles held more) (inr cause) =
    inr (cause.0, cause.1, subst (λ t. OverJournal t (λ journal. held ≡ length journal.names)) (same_bytes old mid late looked) cause.2)
cause_sooner names old mid late new looked AddRefusal.DiskFault (risen, inl none) =
    (rose old.faults late.faults new.faults new.faults looked.counts risen (omega arith), inl (none.0 ∙ same_bytes old mid late looked, λ c image. no_more old mid late looked c (none.1 c image)))
cause_sooner names old mid late new looked AddRefusal.DiskFault (risen, inr few) = (
  rose old.faults late.faults new.faults new.faults looked.counts risen (omega arith),
  inr (from_archive old late (λ h before bytes stood. length stood.legal.held.names + length names ≤ 1048576) (λ h before bytes stood. length stood.legal.held.names + length names ≤ 1048576)
      (same_bytes old mid late looked) (no_more old mid late looked) (λ h before bytes stood only is. is) few),
)
cause_sooner names old mid late new looked (AddRefusal.Damaged at) cause = subst (λ t. IfSome t StandsForNone) (same_bytes old mid late looked) cause
cause_sooner names old mid late new looked AddRefusal.OutOfMemory cause = tt
cause_sooner names old mid late new looked (AddRefusal.ArchiveFull end need) cause =
    from_archive old late (λ h before bytes stood. GoPast names h before (length stood.legal.held.names) end need) (λ h before bytes stood. GoPast names h before (length stood.legal.held.names) end need)
    (same_bytes old mid late looked) (no_more old mid late looked) (λ h before bytes stood only is. is) cause
