-- A merge that was refused before anything was written.
use Rattle.std.proofs.Common.{◌≡◌, ◌∙◌, refl, sym, ap, subst, arith, ℕ, List, [], ◌++◌, length, Option, Some, None, append-nil}
use Rattle.std.specs.Prelude.{All, IfSome}
use Rattle.std.proofs.lemmas.List.Elements.{All-nil}
use Rattle.log_seams.specs.Disk.{DiskState, KeepsBytes}
use Rattle.record_format.specs.declared.header.Header.{Header}
use Rattle.row_codec.specs.declared.namer.Which.{Which}
use Rattle.row_codec.specs.declared.namer.Which.TheVariants.{Types, Words}
use Rattle.archive_meaning.specs.declared.entry.JournalEntry.{JournalEntry}
use Rattle.archive_meaning.specs.Held.{Held, content_of, nothing_held}
use Rattle.archive_meaning.specs.Legal.{Run}
use Rattle.archive_meaning.specs.Stands.{StandsFor}
use Rattle.archive_meaning.proofs.RunLemmas.{one_held}
use Rattle.ingest_meaning.specs.Dictionaries.{book_texts}
use Rattle.search_meaning.specs.Journal.{OfJournal}
use Rattle.command_refusals.specs.declared.outcome.MergeRefusal.{MergeRefusal}
use Rattle.command_answers.specs.Ingested.{FromArchive, LeavesJournal, TakesNothing}
use Rattle.command_answers.specs.Merging.{AreFrontsOf, HasDiskCause, HasJournalCause, IsNeeded, Merges, TakesOver}
use Rattle.merge_command.specs.Came.{refused_by}

-- what holds of each journal holds of the one that the bytes stand for
pub of_all : (seen : Option (List ℕ)) (P : Header → List JournalEntry → Held → Type 0) → ((h : Header) (es : List JournalEntry) (held : Held) → P h es held) → OfJournal seen P
of_all None P all = tt
of_all (Some bytes) P all = λ h es stood. all h es stood.legal.held

-- nothing is asked of the journals
pub on_all : (old : DiskState) (second : Option (List ℕ)) (refusal : MergeRefusal)
    → ((h : Header) (before : List JournalEntry) (held : ℕ) (g : Header) (es : List JournalEntry) (other : Held) → HasJournalCause h before (before ++ []) held g es other (refused_by refusal) 0 refusal)
    → FromArchive old (λ h before bytes stood. OfJournal second (λ g es other. HasJournalCause h before (before ++ []) (length stood.legal.held.names) g es other (refused_by refusal) 0 refusal))
on_all old second refusal all = go old.seen second
  where
    go : (told other : Option (List ℕ)) → IfSome told (λ bytes. (h : Header) (before : List JournalEntry) (stood : StandsFor bytes h before) → ((c : List ℕ) → old.images c → StandsFor c h before)
        → OfJournal other (λ g es held. HasJournalCause h before (before ++ []) (length stood.legal.held.names) g es held (refused_by refusal) 0 refusal))
    go None other = tt
    go (Some bytes) None = λ h before stood only. tt
    go (Some bytes) (Some more) = λ h before stood only. λ g es held. all h before (length stood.legal.held.names) g es held.legal.held

-- the journal is as it was
took_nothing : (refusal : MergeRefusal) (old new : DiskState) (second : Option (List ℕ)) (h : Header) (before : List JournalEntry) {bytes : List ℕ} (stood : StandsFor bytes h before) → TakesNothing h before old new
    → OfJournal second (λ g es other. HasJournalCause h before (before ++ []) (length stood.legal.held.names) g es other (refused_by refusal) 0 refusal) → TakesOver second h before stood (refused_by refusal) old new
took_nothing refusal old new second h before stood nothing cause = record {
  added = [];
  leaves = subst (λ es. LeavesJournal h before es old new) (sym (append-nil before)) nothing.leaves;
  files = [];
  content_is = λ image stands. same image stands;
  told = refl;
  done = 0;
  fronts = of_all second (λ g es other. AreFrontsOf 0 (content_of other) []) (λ g es other. tt);
  cuts = of_all second _ (λ g es other i less. absurd (omega (arith, less)));
  texts = of_all second (λ g es other. (book : Which) → All (IsNeeded (refused_by refusal) 0 es other book) (book_texts book [])) (λ g es other. no_texts es other);
  all = λ none. absurd (cc (none));
  cause = cause;
}
  where
    no_texts : (es : List JournalEntry) (other : Held) (book : Which) → All (IsNeeded (refused_by refusal) 0 es other book) (book_texts book [])
    no_texts es other Types = All-nil (IsNeeded (refused_by refusal) 0 es other Types)
    no_texts es other Words = All-nil (IsNeeded (refused_by refusal) 0 es other Words)

    same : (image : List ℕ) (stands : StandsFor image h (before ++ [])) → content_of stands.legal.held ≡ content_of stood.legal.held ++ []
    same image stands = held_same ∙ sym (append-nil (content_of stood.legal.held))
      where
        held_same : content_of stands.legal.held ≡ content_of stood.legal.held
        held_same = ap content_of (one_held h nothing_held stands.legal.held stood.legal.held (before ++ []) stands.legal.run (subst (λ es. Run h nothing_held es stood.legal.held) (sym (append-nil before)) stood.legal.run))

pub refused_early : (refusal : MergeRefusal) (old new second second_new : DiskState) → FromArchive old (λ h before bytes stood. TakesNothing h before old new) → KeepsBytes old new → KeepsBytes second second_new → HasDiskCause old new second second_new refusal
    → FromArchive old (λ h before bytes stood. OfJournal second.seen (λ g es other. HasJournalCause h before (before ++ []) (length stood.legal.held.names) g es other (refused_by refusal) 0 refusal)) → Merges (refused_by refusal) 0 old new second second_new
refused_early refusal old new second second_new nothing still keeps disk journal = record {
  takes = both old.seen nothing journal;
  numbered = λ some. absurd (some refl);
  cause = disk;
  idle = of_all second.seen (λ g es other. other.names ≡ [] → KeepsBytes old new) (λ g es other none. still);
  nothing = λ early. (still, refl);
  only_read = keeps;
}
  where
    both : (seen : Option (List ℕ))
        → IfSome seen (λ bytes. (h : Header) (before : List JournalEntry) (stood : StandsFor bytes h before) → ((c : List ℕ) → old.images c → StandsFor c h before) → TakesNothing h before old new)
        → IfSome seen (λ bytes. (h : Header) (before : List JournalEntry) (stood : StandsFor bytes h before) → ((c : List ℕ) → old.images c → StandsFor c h before)
        → OfJournal second.seen (λ g es other. HasJournalCause h before (before ++ []) (length stood.legal.held.names) g es other (refused_by refusal) 0 refusal))
        → IfSome seen (λ bytes. (h : Header) (before : List JournalEntry) (stood : StandsFor bytes h before) → ((c : List ℕ) → old.images c → StandsFor c h before) → TakesOver second.seen h before stood (refused_by refusal) old new)
    both None none cause = tt
    both (Some bytes) none cause = λ h before stood only. took_nothing refusal old new second.seen h before stood (none h before stood only) (cause h before stood only)
