-- The opening of the archive, before a merge, and what comes behind it.
use Rattle.std.proofs.Common.{◌≡◌, ◌-◌, ◌≤◌, inl, inr, refl, sym, ap, subst, ◌∙◌, ℕ, Bool, true, false, List, [], ◌++◌, length, Option, Some, None, arith}
use Rattle.std.specs.Prelude.{IfSome, Result, Ok, Err, IsErrOf, OnOk}
use Rattle.log_seams.specs.Disk.{DiskState, IsLawful, KeepsBytes}
use Rattle.log_seams.specs.Outside.{CountsOf, Rose}
use Rattle.log_seams.proofs.MomentLemmas.{rose}
use Rattle.record_format.specs.declared.header.Header.{Header}
use Rattle.disk_journal.specs.Calls.{HasNoHeader}
use Rattle.disk_journal.specs.declared.refusals.StartRefusal.{StartRefusal}
use Rattle.archive_meaning.specs.declared.entry.JournalEntry.{JournalEntry}
use Rattle.archive_meaning.specs.Held.{Held}
use Rattle.archive_open.specs.Shown.{HasLastGate, IsLastGate, RefusedAt, Shown, StandsForNone}
use Rattle.archive_open.specs.declared.refusal.ArchiveRefusal.{ArchiveRefusal}
use Rattle.archive_open.proofs.OpenLemmas.{start_refused}
use Rattle.search_meaning.specs.Journal.{OfJournal}
use Rattle.command_refusals.specs.GoesOn.{DiskGoesOn}
use Rattle.command_refusals.specs.Outcome.{merge_from_archive, merge_from_start}
use Rattle.command_refusals.specs.Reading.{OverJournal}
use Rattle.command_refusals.specs.declared.outcome.MergeRefusal.{MergeRefusal}
use Rattle.command_refusals.proofs.GoingLemmas.{KeepsBytes-same}
use Rattle.command_answers.specs.Known.{seen_if, told_if}
use Rattle.command_answers.specs.Merging.{HasDiskCause, HasJournalCause, IsOfSecond, MayEndOpening, Merge, Merges, TellsInOrder}
use Rattle.merge_command.specs.Came.{Agrees, ComesBehind, RefusesSecond, merge_by, refused_by}
use Rattle.merge_command.specs.declared.over.Came.{Came}
use Rattle.file_outcomes.proofs.LentLemmas.{keeps_twice, looked_told}
use Rattle.file_outcomes.proofs.StepsLemmas.{Looked, looked_nothing}
use Rattle.merge_command.proofs.MergedLemmas.{takes_sooner}
use Rattle.merge_command.proofs.RefusedLemmas.{on_all, refused_early}

-- ---- the archive was not opened

-- why
abbrev pub RefusesOpening : DiskState → DiskState → MergeRefusal → Type 0
RefusesOpening old new MergeRefusal.DiskFault = Rose old.faults new.faults
RefusesOpening old new (MergeRefusal.Damaged at) = RefusedAt at old.seen
RefusesOpening old new MergeRefusal.OutOfMemory = Unit {0}
RefusesOpening old new _ = ⊥

-- its header was not read
pub start_refuses : {A : Type 0} (old new : DiskState) (result : Result A StartRefusal) (r : StartRefusal) → result ≡ Err r → ((at : ℕ) → IsErrOf result (StartRefusal.Damaged at) → HasNoHeader at old) → CountsOf StartRefusal.DiskFault old.faults new.faults result
    → RefusesOpening old new (merge_from_start r)
start_refuses old new result StartRefusal.DiskFault is damaged counts = counts.failed is
start_refuses old new result (StartRefusal.Damaged at) is damaged counts = start_refused at old (damaged at is)

-- or what is behind it
pub open_refuses : {A : Type 0} (old mid new : DiskState) (result : Result A ArchiveRefusal) (r : ArchiveRefusal) → result ≡ Err r → KeepsBytes old mid → old.faults ≤ mid.faults → ((at : ℕ) → IsErrOf result (ArchiveRefusal.Damaged at) → RefusedAt at mid.seen)
    → CountsOf ArchiveRefusal.DiskFault mid.faults new.faults result → RefusesOpening old new (merge_from_archive r)
open_refuses old mid new result ArchiveRefusal.DiskFault is keeps risen damaged counts = rose old.faults mid.faults new.faults new.faults risen (counts.failed is) (omega arith)
open_refuses old mid new result (ArchiveRefusal.Damaged at) is keeps risen damaged counts = subst (RefusedAt at) keeps.seen (damaged at is)
open_refuses old mid new result ArchiveRefusal.OutOfMemory is keeps risen damaged counts = tt

-- bytes that are refused stand for no journal
none_there : (tells : Bool) (at : ℕ) (told : Option (List ℕ)) → RefusedAt at told → IfSome (seen_if tells told) StandsForNone
none_there true at None refused = tt
none_there true at (Some bytes) refused = refused.none
none_there false at told refused = tt

-- nothing was written
module _ (tells : Bool) (old new second : DiskState) (law_old : IsLawful old) (law_new : IsLawful new) (keeps : KeepsBytes old new) (risen : old.faults ≤ new.faults) where
  early : (refusal : MergeRefusal) → HasDiskCause (told_if tells old) (told_if tells new) second second refusal
      → ((h : Header) (before : List JournalEntry) (held : ℕ) (g : Header) (es : List JournalEntry) (other : Held) → HasJournalCause h before (before ++ []) held g es other (refused_by refusal) 0 refusal)
      → Merges (refused_by refusal) 0 (told_if tells old) (told_if tells new) second second
  early refusal cause journal =
      let looked : Looked (told_if tells old) (told_if tells old) (told_if tells new) =
      looked_told tells old old new (record { law_old = law_old; law_mid = law_old; law_new = law_new; first = KeepsBytes-same old; second = keeps; counts = risen }) in
      refused_early refusal (told_if tells old) (told_if tells new) second second (looked_nothing (told_if tells old) (told_if tells old) (told_if tells new) looked) looked.second (KeepsBytes-same second) cause
      (on_all (told_if tells old) second.seen refusal journal)

  pub opening_merges : (r : MergeRefusal) → RefusesOpening old new r → Merges (refused_by r) 0 (told_if tells old) (told_if tells new) second second
  opening_merges MergeRefusal.DiskFault refuses = early MergeRefusal.DiskFault (inl refuses) (λ h before held g es other. tt)
  opening_merges (MergeRefusal.Damaged at) refuses = early (MergeRefusal.Damaged at) (none_there tells at old.seen refuses) (λ h before held g es other. tt)
  opening_merges MergeRefusal.OutOfMemory refuses = early MergeRefusal.OutOfMemory tt (λ h before held g es other. tt)
  opening_merges (MergeRefusal.SecondDamaged at) refuses = absurd refuses
  opening_merges (MergeRefusal.VersionDiffers one two) refuses = absurd refuses
  opening_merges (MergeRefusal.TooManyFiles told more) refuses = absurd refuses
  opening_merges (MergeRefusal.ArchiveFull end need) refuses = absurd refuses
  opening_merges (MergeRefusal.Full book count) refuses = absurd refuses
  opening_merges (MergeRefusal.SegmentFull end need) refuses = absurd refuses

-- damage has its place
module _ (old new : DiskState) (keeps : KeepsBytes old new) where
  ends_opening : (r : MergeRefusal) → RefusesOpening old new r → MayEndOpening (Some r)
  ends_opening MergeRefusal.DiskFault refuses = tt
  ends_opening (MergeRefusal.Damaged at) refuses = tt
  ends_opening MergeRefusal.OutOfMemory refuses = tt
  ends_opening (MergeRefusal.SecondDamaged at) refuses = absurd refuses
  ends_opening (MergeRefusal.VersionDiffers one two) refuses = absurd refuses
  ends_opening (MergeRefusal.TooManyFiles told more) refuses = absurd refuses
  ends_opening (MergeRefusal.ArchiveFull end need) refuses = absurd refuses
  ends_opening (MergeRefusal.Full book count) refuses = absurd refuses
  ends_opening (MergeRefusal.SegmentFull end need) refuses = absurd refuses

  none_second : (r : MergeRefusal) → RefusesOpening old new r → IsOfSecond (Some r) → ⊥
  none_second MergeRefusal.DiskFault refuses such = such
  none_second (MergeRefusal.Damaged at) refuses such = such
  none_second MergeRefusal.OutOfMemory refuses such = such
  none_second (MergeRefusal.SecondDamaged at) refuses such = refuses
  none_second (MergeRefusal.VersionDiffers one two) refuses such = refuses
  none_second (MergeRefusal.TooManyFiles told more) refuses such = refuses
  none_second (MergeRefusal.ArchiveFull end need) refuses such = refuses
  none_second (MergeRefusal.Full book count) refuses such = refuses
  none_second (MergeRefusal.SegmentFull end need) refuses such = refuses

  same_refusal : (r s : MergeRefusal) → Some r ≡ Some s → r ≡ s
  same_refusal r s is = cc (is)

  pub opening_tells : (r : MergeRefusal) → RefusesOpening old new r → TellsInOrder (refused_by r) old new
  opening_tells r refuses = record {
    damaged = λ at is. ((subst (RefusesOpening old new) (same_refusal r (MergeRefusal.Damaged at) is) refuses, keeps), refl);
    opened = λ apart. absurd (apart (ends_opening r refuses));
    second = λ such none. absurd (none_second r refuses such);
  }

-- so the call answers
pub tells_with : (old new : DiskState) (result : Result Came MergeRefusal) (r r' : MergeRefusal) → result ≡ Err r → r ≡ r' → TellsInOrder (refused_by r') old new → TellsInOrder (merge_by result) old new
tells_with old new result r r' is same tells = subst (λ x. TellsInOrder (merge_by x) old new) (sym (is ∙ ap (λ (x : MergeRefusal). Err x) same)) tells

-- ---- behind the opening

-- where the bytes are told, a walk past whole records comes to a closed gate
abbrev pub CanBeOpened : Option (List ℕ) → Type 0
CanBeOpened told = IfSome told (λ bytes. (at : ℕ) × IsLastGate at bytes)

-- an archive that was opened has a last gate
gate_of : (told : Option (List ℕ)) (a : Shown) → HasLastGate told a → CanBeOpened told
gate_of None a gate = tt
gate_of (Some bytes) a gate = (a.end - 1, gate)

pub can_be_opened : (old mid : DiskState) (a : Shown) → KeepsBytes old mid → HasLastGate mid.seen a → CanBeOpened old.seen
can_be_opened old mid a keeps gate = subst CanBeOpened keeps.seen (gate_of mid.seen a gate)

pub steady_with : {A E : Type 0} (old new : ℕ) (fault : E) (result : Result A E) (done : A) → result ≡ Ok done → CountsOf fault old new result → new ≡ old
steady_with {A} {E} old new fault result done is counts = subst (λ (r : Result A E). OnOk r (new ≡ old)) is counts.steady

-- the second archive was not opened, or may not come behind
module _ {D : Type 0} (d : D) where
  refused_behind : (r : MergeRefusal) → ((at : ℕ) → r ≡ MergeRefusal.Damaged at → ⊥) → ComesBehind (refused_by r) d d
  refused_behind r none = record { undamaged = λ at is. none at (same_one r (MergeRefusal.Damaged at) is); alone = λ such nothing. refl }
    where
      same_one : (x y : MergeRefusal) → Some x ≡ Some y → x ≡ y
      same_one x y is = cc (is)

  behind_with : (result : Result Came MergeRefusal) (r r' : MergeRefusal) → result ≡ Err r → r ≡ r' → ((at : ℕ) → r' ≡ MergeRefusal.Damaged at → ⊥) → ComesBehind (merge_by result) d d
  behind_with result r r' is same none = subst (λ x. ComesBehind (merge_by x) d d) (sym (is ∙ ap (λ (x : MergeRefusal). Err x) same)) (refused_behind r' none)

  pub second_behind : (second second_new : DiskState) (result : Result Came MergeRefusal) (r r' : MergeRefusal) → result ≡ Err r → r ≡ r' → RefusesSecond second second_new r' → ComesBehind (merge_by result) d d
  second_behind second second_new result r r' is same refuses = behind_with result r r' is same (λ at damaged. subst (RefusesSecond second second_new) damaged refuses)

  pub agree_behind : (version held other more : ℕ) (result : Result Came MergeRefusal) (r r' : MergeRefusal) → result ≡ Err r → r ≡ r' → Agrees version held other more (Err r') → ComesBehind (merge_by result) d d
  agree_behind version held other more result r r' is same agrees = behind_with result r r' is same (λ at damaged. subst (λ x. Agrees version held other more (Err x)) damaged agrees)

-- from the start of the call on
pub behind_tells : {D : Type 0} (state : D → DiskState) (m : Merge) (old : DiskState) (late new : D) → KeepsBytes old (state late) → (state late).faults ≡ old.faults → CanBeOpened old.seen → ComesBehind m late new → TellsInOrder m old (state new)
behind_tells {D} state m old late new keeps steady opened behind = record {
  damaged = λ at is. absurd (behind.undamaged at is);
  opened = λ ends. opened;
  second = λ such none. subst (λ (d : D). KeepsBytes old (state d) × ((state d).faults ≡ old.faults)) (sym (behind.alone such none)) (keeps, steady);
}

module _ (old late new second second_new : DiskState) (law_old : IsLawful old) (law_late : IsLawful late) (keeps : KeepsBytes old late) (risen : old.faults ≤ late.faults) where
  cause_sooner : (o : Option MergeRefusal) → IfSome o (HasDiskCause late new second second_new) → IfSome o (HasDiskCause old new second second_new)
  cause_sooner None cause = tt
  cause_sooner (Some MergeRefusal.DiskFault) (inl risen_late) = inl (rose old.faults late.faults new.faults new.faults risen risen_late (omega arith))
  cause_sooner (Some MergeRefusal.DiskFault) (inr risen_second) = inr risen_second
  cause_sooner (Some (MergeRefusal.Damaged at)) cause = subst (λ t. IfSome t StandsForNone) keeps.seen cause
  cause_sooner (Some (MergeRefusal.SecondDamaged at)) cause = cause
  cause_sooner (Some (MergeRefusal.VersionDiffers one two)) cause = tt
  cause_sooner (Some (MergeRefusal.TooManyFiles held more)) cause = tt
  cause_sooner (Some (MergeRefusal.ArchiveFull end need)) cause = tt
  cause_sooner (Some (MergeRefusal.Full book count)) cause = tt
  cause_sooner (Some (MergeRefusal.SegmentFull end need)) cause = tt
  cause_sooner (Some MergeRefusal.OutOfMemory) cause = tt

  idle_sooner : (told : Option (List ℕ)) → OfJournal told (λ g es other. other.names ≡ [] → KeepsBytes late new) → OfJournal told (λ g es other. other.names ≡ [] → KeepsBytes old new)
  idle_sooner None idle = tt
  idle_sooner (Some bytes) idle = λ g es stood none. keeps_twice old late new law_old keeps (idle g es stood none)

  pub merges_sooner : DiskGoesOn late new → (m : Merge) (first : ℕ) → Merges m first late new second second_new → Merges m first old new second second_new
  merges_sooner goes m first merges = record {
    takes = takes_sooner old late new law_old law_late keeps risen goes second.seen m merges.takes;
    numbered = λ some. subst (λ t. OverJournal t (λ journal. first ≡ length journal.names)) keeps.seen (merges.numbered some);
    cause = cause_sooner m.refusal merges.cause;
    idle = idle_sooner second.seen merges.idle;
    nothing = λ none. (keeps_twice old late new law_old keeps (merges.nothing none).0, (merges.nothing none).1);
    only_read = merges.only_read;
  }
