-- What is answered where nothing was merged.
use Rattle.std.proofs.Common.{◌≡◌, ◌⊎◌, ◌∙◌, refl, sym, ap, subst, arith, inl, inr, ℕ, List, [], ◌++◌, length, Option, None, Some}
use Rattle.std.specs.Prelude.{IfSome}
use Rattle.std.proofs.lemmas.List.{append-nil}
use Rattle.log_seams.specs.Disk.{DiskState}
use Rattle.log_seams.specs.Outside.{Rose}
use Rattle.record_format.specs.declared.header.Header.{Header}
use Rattle.archive_meaning.specs.declared.entry.JournalEntry.{JournalEntry}
use Rattle.archive_meaning.specs.Stands.{StandsFor}
use Rattle.archive_open.specs.Shown.{RefusedAt, StandsForNone}
use Rattle.search_meaning.specs.Journal.{OfJournal}
use Rattle.sink_pieces.specs.Output.{Grew}
use Rattle.command_refusals.specs.Ending.{RoseIn, SaysIn, Stayed}
use Rattle.command_refusals.specs.Outcome.{merge_line, merge_status}
use Rattle.command_refusals.specs.Outside.{Outside}
use Rattle.command_refusals.specs.Refusal.{TellsNoMemory}
use Rattle.command_refusals.specs.declared.outcome.MergeRefusal.{MergeRefusal}
use Rattle.command_answers.specs.Answers.{AnswersMerge}
use Rattle.command_answers.specs.Known.{KnownArchive, over}
use Rattle.command_answers.specs.Ingested.{FromArchive}
use Rattle.command_answers.specs.Merging.{HasDiskCause, HasJournalCause, MayCome, MeetsNoLimit, Merge, Merges, PrintsMerge, TakesOver, TellsInOrder, merged_status}
use Rattle.merge_command.specs.Came.{refused_by}

-- nothing was written
grew_none : (w : Option (List ℕ)) → Grew w w []
grew_none None = refl
grew_none (Some bytes) = ap (λ l. Some l) (sym (append-nil bytes))

-- ---- where nothing failed

module _ (seen : Outside) (from to second second_new : DiskState) (status : ℕ) (m : Merge) (first : ℕ) (merges : Merges m first from to second second_new) (printed : PrintsMerge m first seen status) where
  abbrev Complete : Type 0
  Complete = (status ≡ 0) ⊎ TellsNoMemory status

  module _ (bytes : List ℕ) (told : from.seen ≡ Some bytes) (h : Header) (before : List JournalEntry) (stood : StandsFor bytes h before) (image : List ℕ) (told_second : second.seen ≡ Some image) (g : Header) (others : List JournalEntry) (there : StandsFor image g others)
      (may : MayCome h (length stood.legal.held.names) g there.legal.held) (calm : ¬ Rose from.faults to.faults) (calm_second : ¬ Rose second.faults second_new.faults) (sent : ¬ RoseIn seen.out_faults) where
    by_refusal : (added : List JournalEntry) (done : ℕ) (refusal : MergeRefusal) → status ≡ merge_status refusal → MeetsNoLimit (Some refusal) → HasDiskCause from to second second_new refusal
        → HasJournalCause h before (before ++ added) (length stood.legal.held.names) g others there.legal.held m done refusal → Complete
    by_refusal added done MergeRefusal.DiskFault is met (inl rose) cause = absurd (calm rose)
    by_refusal added done MergeRefusal.DiskFault is met (inr rose) cause = absurd (calm_second rose)
    by_refusal added done (MergeRefusal.Damaged at) is met disk cause = absurd ((subst (λ t. IfSome t StandsForNone) told disk) h before stood)
    by_refusal added done (MergeRefusal.SecondDamaged at) is met disk cause = absurd ((subst (RefusedAt at) told_second disk).none g others there)
    by_refusal added done MergeRefusal.OutOfMemory is met disk cause = inr is
    by_refusal added done (MergeRefusal.VersionDiffers one two) is met disk (one_is, two_is, apart) = absurd (apart (one_is ∙ (sym may.version_is ∙ sym two_is)))
    by_refusal added done (MergeRefusal.TooManyFiles held more) is met disk (version, a, b, (same, many)) = let few = may.few in absurd (omega (arith, few, many, a, b))
    by_refusal added done (MergeRefusal.ArchiveFull end need) is met disk cause = absurd met
    by_refusal added done (MergeRefusal.Full book count) is met disk cause = absurd met
    by_refusal added done (MergeRefusal.SegmentFull end need) is met disk cause = absurd met

    by_print : (added : List JournalEntry) (done : ℕ) (o : Option MergeRefusal) → m.refusal ≡ o → MeetsNoLimit o → IfSome o (HasDiskCause from to second second_new)
        → IfSome o (HasJournalCause h before (before ++ added) (length stood.legal.held.names) g others there.legal.held m done) → PrintsMerge m first seen status → Complete
    by_print added done None is met disk cause (inl all) = inl (all.0 ∙ ap merged_status is)
    by_print added done (Some refusal) is met disk cause (inl all) = by_refusal added done refusal (all.0 ∙ ap merged_status is) met disk cause
    by_print added done o is met disk cause (inr (inl failed)) = absurd (sent failed.2)
    by_print added done o is met disk cause (inr (inr memory)) = inr memory.0.status_is

  abbrev Completes : Option (List ℕ) → Header → ℕ → Type 0
  Completes second_told h held = OfJournal second_told (λ g others other. MayCome h held g other → ¬ Rose from.faults to.faults → ¬ Rose second.faults second_new.faults → ¬ RoseIn seen.out_faults → MeetsNoLimit m.refusal → Complete)

  by_second : (bytes : List ℕ) → from.seen ≡ Some bytes → (h : Header) (before : List JournalEntry) (stood : StandsFor bytes h before) → (second_told : Option (List ℕ)) → second.seen ≡ second_told → TakesOver second_told h before stood m from to
      → Completes second_told h (length stood.legal.held.names)
  by_second bytes told h before stood None is takes = tt
  by_second bytes told h before stood (Some image) is takes = λ g others there may calm calm_second sent met.
      by_print bytes told h before stood image is g others there may calm calm_second sent takes.added takes.done m.refusal refl met merges.cause (at_once m.refusal takes.cause g others there) printed
    where
      at_once : (o : Option MergeRefusal)
          → IfSome o (λ refusal. OfJournal (Some image) (λ g others other. HasJournalCause h before (before ++ takes.added) (length stood.legal.held.names) g others other m takes.done refusal))
          → (g : Header) (others : List JournalEntry) (there : StandsFor image g others)
          → IfSome o (HasJournalCause h before (before ++ takes.added) (length stood.legal.held.names) g others there.legal.held m takes.done)
      at_once None cause g others there = tt
      at_once (Some refusal) cause g others there = cause g others there

  pub completes : FromArchive from (λ h before bytes stood. Completes second.seen h (length stood.legal.held.names))
  completes = by_seen from.seen refl merges.takes
    where
      by_seen : (told : Option (List ℕ)) → from.seen ≡ told
          → IfSome told (λ bytes. (h : Header) (before : List JournalEntry) (stood : StandsFor bytes h before) → ((c : List ℕ) → from.images c → StandsFor c h before) → TakesOver second.seen h before stood m from to)
          → IfSome told (λ bytes. (h : Header) (before : List JournalEntry) (stood : StandsFor bytes h before) → ((c : List ℕ) → from.images c → StandsFor c h before) → Completes second.seen h (length stood.legal.held.names))
      by_seen None is takes = tt
      by_seen (Some bytes) is takes = λ h before stood only. by_second bytes is h before stood second.seen refl (takes h before stood only)

pub answers : (known : Option KnownArchive) (seen : Outside) (old new second second_new : DiskState) (status : ℕ) (m : Merge) (first : ℕ) → Merges m first (over known old old) (over known old new) second second_new → TellsInOrder m old new → PrintsMerge m first seen status
    → AnswersMerge known seen old new second second_new status
answers known seen old new second second_new status m first merges in_order printed = record {
  merge = m;
  first = first;
  merges = merges;
  in_order = in_order;
  printed = printed;
  complete = completes seen (over known old old) (over known old new) second second_new status m first merges printed;
}

pub refused_all : (known : Option KnownArchive) (seen : Outside) (old new second second_new : DiskState) (status : ℕ) (refusal : MergeRefusal)
    → status ≡ merge_status refusal → SaysIn seen (merge_line [] refusal) → seen.out.1 ≡ seen.out.0 → Stayed seen.out_faults
    → Merges (refused_by refusal) 0 (over known old old) (over known old new) second second_new → TellsInOrder (refused_by refusal) old new → AnswersMerge known seen old new second second_new status
refused_all known seen old new second second_new status refusal is said nothing stayed merges in_order =
    answers known seen old new second second_new status (refused_by refusal) 0 merges in_order (inl (is, subst (λ o. Grew seen.out.0 o []) (sym nothing) (grew_none seen.out.0), said, stayed))
