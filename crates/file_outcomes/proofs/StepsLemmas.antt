-- What the steps of an ingest leave, from the start of the call on.
use Rattle.std.proofs.Common.{◌≡◌, ◌≤◌, arith, append_assoc, refl, sym, subst, ◌∙◌, ℕ, List, [], ◌∷◌, ◌++◌, length, Option, Some, None}
use Rattle.std.specs.Prelude.{IfSome}
use mathlib.Core.List.{IsPrefix}
use Rattle.log_seams.specs.Disk.{DiskState, IsLawful, IsSynced, KeepsBytes, LeavesOnly, Only}
use Rattle.log_seams.proofs.MomentLemmas.{joined, keeps_leave, weaker}
use Rattle.record_format.specs.declared.header.Header.{Header}
use Rattle.disk_journal.specs.State.{JournalState}
use Rattle.archive_meaning.specs.declared.entry.JournalEntry.{JournalEntry}
use Rattle.archive_meaning.specs.declared.entry.JournalEntry.TheVariants.{Files}
use Rattle.archive_meaning.specs.Stands.{StandsFor}
use Rattle.command_refusals.specs.GoesOn.{DiskGoesOn}
use Rattle.command_answers.specs.Ingested.{FileOutcome, FromArchive, TakesIn, TakesNothing}
use Rattle.file_outcomes.specs.JournalLeft.{AddsNamesTo, StandsBetween, StandsStill, TakesInto}
use Rattle.command_refusals.specs.Reading.{OverJournal}
use Rattle.command_refusals.proofs.GoingLemmas.{KeepsBytes-same}
use Rattle.file_outcomes.proofs.LeavesLemmas.{begun_sooner, from_archive, keeps_still, prefix_same, still_between, still_leaves}

-- The bytes were looked at, and the header was read.
pub record Looked (old mid new : DiskState) : Type 0 where
  pub law_old : IsLawful old
  pub law_mid : IsLawful mid
  pub law_new : IsLawful new
  pub first : KeepsBytes old mid
  pub second : KeepsBytes mid new
  pub counts : old.faults ≤ new.faults

-- nothing was done yet
pub same_looked : (d : DiskState) → IsLawful d → Looked d d d
same_looked d law = record { law_old = law; law_mid = law; law_new = law; first = KeepsBytes-same d; second = KeepsBytes-same d; counts = omega arith }

looked_past : (old mid new : DiskState) → Looked old mid new → (h : Header) (before : List JournalEntry) → ((c : List ℕ) → old.images c → StandsFor c h before) → LeavesOnly old new (StandsStill h before)
looked_past old mid new looked h before only =
    keeps_still h before old mid new looked.law_mid looked.law_new
    (weaker old mid old.images (StandsStill h before) (keeps_leave old mid looked.law_old looked.law_mid looked.first) (λ c image. only c image)) looked.second

-- nothing more was done
pub looked_nothing : (old mid new : DiskState) → Looked old mid new → FromArchive old (λ h before bytes stood. TakesNothing h before old new)
looked_nothing old mid new looked = go old.seen
  where
    go : (told : Option (List ℕ)) → IfSome told (λ bytes. (h : Header) (before : List JournalEntry) (stood : StandsFor bytes h before) → ((c : List ℕ) → old.images c → StandsFor c h before) → TakesNothing h before old new)
    go None = tt
    go (Some bytes) = λ h before stood only. record { leaves = still_leaves h before old new looked.law_new (looked_past old mid new looked h before only) }

-- the header was not read either
pub kept_nothing : (old new : DiskState) → IsLawful old → IsLawful new → KeepsBytes old new → old.faults ≤ new.faults → FromArchive old (λ h before bytes stood. TakesNothing h before old new)
kept_nothing old new law_old law_new keeps counts =
    looked_nothing old old new (record { law_old = law_old; law_mid = law_old; law_new = law_new; first = KeepsBytes-same old; second = keeps; counts = counts })

-- no call was made
pub same_nothing : (d : DiskState) → IsLawful d → FromArchive d (λ h before bytes stood. TakesNothing h before d d)
same_nothing d law = kept_nothing d d law law (KeepsBytes-same d) (omega arith)

-- what was done after that, as from the start
module _ (old mid late : DiskState) (looked : Looked old mid late) where
  pub same_bytes : late.seen ≡ old.seen
  same_bytes = looked.second.seen ∙ looked.first.seen

  pub no_more : (c : List ℕ) → late.images c → old.images c
  no_more c image = looked.first.no_more c (looked.second.no_more c image)

  pub nothing_sooner : (new : DiskState) → DiskGoesOn late new → FromArchive late (λ h before bytes stood. TakesNothing h before late new) → FromArchive old (λ h before bytes stood. TakesNothing h before old new)
  nothing_sooner new goes =
      from_archive old late (λ h before bytes stood. TakesNothing h before late new) (λ h before bytes stood. TakesNothing h before old new) same_bytes no_more
      (λ h before bytes stood only nothing. record {
        leaves = begun_sooner h before before before old late new
            (weaker old late (StandsStill h before) (StandsBetween h before before) (looked_past old mid late looked h before only) (λ c stands. still_between h before before c (prefix_same before) stands))
            (prefix_same before) looked.counts goes.moments nothing.leaves;
      })

  -- the files were taken in
  pub takes_looked : {rows : ℕ} (new : DiskState) → DiskGoesOn late new → (h : Header) (before : List JournalEntry) (bytes : List ℕ) (stood : StandsFor bytes h before) → ((c : List ℕ) → old.images c → StandsFor c h before) → (names : List (List ℕ)) (came : List FileOutcome)
      → (t : TakesIn rows h before stood names came late new) → (u : TakesIn rows h before stood names came old new) × (u.added ≡ t.added)
  takes_looked {rows} new goes h before bytes stood only names came takes = (
    record {
      added = takes.added;
      each = takes.each;
      leaves = begun_sooner h before before (before ++ (Files names ∷ takes.added)) old late new
          (weaker old late (StandsStill h before) (StandsBetween h before before) (looked_past old mid late looked h before only) (λ c stands. still_between h before before c (prefix_same before) stands))
          (Files names ∷ takes.added, refl) looked.counts goes.moments takes.leaves;
      files = takes.files;
      content_is = takes.content_is;
      fronts = takes.fronts;
      cuts = takes.cuts;
    },
    refl,
  )

  -- what is taken into the journal that has the names, is so from the start
  pub takes_from : {rows : ℕ} (h : Header) (before : List JournalEntry) (bytes : List ℕ) (stood : StandsFor bytes h before) (names : List (List ℕ)) (first : ℕ) (came : List FileOutcome) (j : JournalState) (new : DiskState) → IsLawful j.disk → late.faults ≤ j.disk.faults → DiskGoesOn j.disk new
      → ((c : List ℕ) → old.images c → StandsFor c h before) → AddsNamesTo h before stood names first late j → (t : TakesIn rows h before stood names came j.disk new) → (u : TakesIn rows h before stood names came old new) × (u.added ≡ t.added)
  takes_from {rows} h before bytes stood names first came j new law counts goes only adds takes =
      let past : LeavesOnly old j.disk (StandsBetween h before (before ++ Files names ∷ [])) =
      joined old late j.disk (StandsStill h before) (StandsBetween h before (before ++ Files names ∷ [])) (StandsBetween h before (before ++ Files names ∷ [])) law (looked_past old mid late looked h before only) adds.past
      (λ c stands. still_between h before (before ++ Files names ∷ []) c (Files names ∷ [], refl) stands) (λ c stands. stands) in (
        record {
          added = takes.added;
          each = takes.each;
          leaves = begun_sooner h before (before ++ Files names ∷ []) (before ++ (Files names ∷ takes.added)) old j.disk new past (behind_names before names takes.added) (omega (arith, looked.counts, counts)) goes.moments takes.leaves;
          files = takes.files;
          content_is = takes.content_is;
          fronts = takes.fronts;
          cuts = takes.cuts;
        },
        refl,
      )
    where
      behind_names : (before : List JournalEntry) (names : List (List ℕ)) (added : List JournalEntry) → IsPrefix (before ++ Files names ∷ []) (before ++ (Files names ∷ added))
      behind_names before names added = (added, append_assoc before (Files names ∷ []) added)

  -- the names were appended, and the files taken in
  pub takes_sooner : {rows : ℕ} (names : List (List ℕ)) (first : ℕ) (came : List FileOutcome) (j after : JournalState) → IsLawful j.disk → late.faults ≤ j.disk.faults → DiskGoesOn j.disk after.disk
      → FromArchive late (λ h before bytes stood. AddsNamesTo h before stood names first late j) → TakesInto rows names first came j after → FromArchive old (λ h before bytes stood. TakesIn rows h before stood names came old after.disk)
  takes_sooner {rows} names first came j after law counts goes names_added into =
      from_archive old late (λ h before bytes stood. AddsNamesTo h before stood names first late j) (λ h before bytes stood. TakesIn rows h before stood names came old after.disk) same_bytes no_more
      (λ h before bytes stood only adds. (takes_from h before bytes stood names first came j after.disk law counts goes only adds (into h before bytes stood adds.has adds.number).takes).0)
      names_added

-- the first new file has the number of the names of before
pub numbered_from : (old late : DiskState) (names : List (List ℕ)) (first : ℕ) (j : JournalState) → late.seen ≡ old.seen → IsSynced late → FromArchive late (λ h before bytes stood. AddsNamesTo h before stood names first late j)
    → OverJournal old.seen (λ journal. first ≡ length journal.names)
numbered_from old late names first j same synced added = subst (λ t. OverJournal t (λ journal. first ≡ length journal.names)) same (go late.seen synced added)
  where
    go : (told : Option (List ℕ)) → Only told late.images
        → IfSome told (λ bytes. (h : Header) (before : List JournalEntry) (stood : StandsFor bytes h before) → ((c : List ℕ) → late.images c → StandsFor c h before) → AddsNamesTo h before stood names first late j)
        → OverJournal told (λ journal. first ≡ length journal.names)
    go None only added = tt
    go (Some bytes) only added = λ h before stood. (added h before stood (λ c image. subst (λ x. StandsFor x h before) (sym (only c image)) stood)).number
