-- Why files are not whole, from the start of the call, and as it is told.
use Rattle.std.proofs.Common.{◌≡◌, ◌+◌, ◌≤◌, ◌++◌, ◌∷◌, [], ◌⊎◌, refl, sym, ap, ◌∙◌, subst, ℕ, List, length, map, take, append-nil, Option, Some, None, arith}
use Rattle.std.specs.Prelude.{All, IfSome}
use Rattle.std.specs.List.{Contains}
use Rattle.row_codec.specs.declared.namer.Which.{Which}
use Rattle.row_codec.specs.declared.namer.Which.TheVariants.{Types as WhichTypes, Words as WhichWords}
use Rattle.archive_meaning.specs.declared.entry.JournalEntry.{JournalEntry}
use Rattle.archive_meaning.specs.declared.entry.JournalEntry.TheVariants.{Files}
use Rattle.archive_meaning.specs.Spelled.{types_of}
use Rattle.disk_seal.specs.Told.{IfTold}
use Rattle.ingest_meaning.specs.WordsIn.{words_of}
use Rattle.ingest_meaning.specs.Dictionaries.{limit_of}
use Rattle.ingest_meaning.specs.Dictionaries.{IsFullBy, IsTextOf}
use Rattle.ingest_meaning.specs.Given.{IsMessageAt, IsNextOf}
use Rattle.ingest_meaning.specs.Dictionaries.{book_texts, header_limits}
use Rattle.ingest_workers.proofs.ClosingLemmas.{types_joined, words_joined}
use Rattle.std.proofs.lemmas.List.Elements.{All-weaker}
use Rattle.log_seams.specs.Disk.{DiskState}
use Rattle.log_seams.proofs.MomentLemmas.{rose}
use Rattle.record_format.specs.declared.header.Header.{Header}
use Rattle.disk_journal.specs.State.{JournalState}
use Rattle.command_refusals.specs.Outside.{Outside}
use Rattle.command_answers.specs.Ingested.{AreCutShort, AreFullInTurn, CameOfFile, DidNotFit, FileOutcome, FromArchive, HasFileCause, HasMoreThan, IsFullByGiven, IsFullInTurn, IsGiven, IsNextTooLong, Logs, OfTaken, WasMetInOneOf, logs_of, names_in}
use Rattle.file_outcomes.specs.StepsCauses.{AreFullInto, CameIn, HasCauseIn, HaveCausesIn, HaveFileCauses, IsTarget, Target, into_journal}
use Rattle.file_outcomes.specs.JournalLeft.{AddsNamesTo, HasNames}
use Rattle.command_refusals.specs.LogLimits.{most_messages}
use Rattle.command_refusals.specs.declared.outcome.PartCause.{PartCause}
use Rattle.file_outcomes.proofs.FitLemmas.{fit_into}
use Rattle.file_outcomes.proofs.LeavesLemmas.{from_archive, of_told}
use Rattle.file_outcomes.proofs.StepsLemmas.{Looked, no_more, same_bytes}

-- ---- from the start of the call

module _ (logs : Logs) (into : Target) (old mid new : DiskState) (risen : old.faults ≤ mid.faults) where
  cause_on : (c : FileOutcome) (r : Option PartCause) → HasCauseIn logs into mid new c r → HasCauseIn logs into old new c r
  cause_on c None cause = cause
  cause_on c (Some PartCause.OpenFault) cause = cause
  cause_on c (Some PartCause.ReadFault) cause = cause
  cause_on c (Some (PartCause.LineTooLong line)) cause = cause
  cause_on c (Some PartCause.TooManyLines) cause = cause
  cause_on c (Some (PartCause.Full book count)) cause = cause
  cause_on c (Some (PartCause.ArchiveFull end need)) cause = cause
  cause_on c (Some PartCause.DiskFault) cause = rose old.faults mid.faults new.faults new.faults risen cause (omega arith)
  cause_on c (Some PartCause.OutOfMemory) cause = cause

  pub came_on : (c : FileOutcome) → CameIn logs into mid new c → CameIn logs into old new c
  came_on c is = record { cause = cause_on c c.refusal is.cause; part = is.part; unopened = is.unopened }

texts_named : (names : List (List ℕ)) (es before : List JournalEntry) → es ≡ before ++ Files names ∷ [] → (book : Which) → book_texts book es ≡ book_texts book before
texts_named names es before is WhichTypes = ap types_of is ∙ (types_joined before (Files names ∷ []) ∙ append-nil (types_of before))
texts_named names es before is WhichWords = ap words_of is ∙ (words_joined before (Files names ∷ []) ∙ append-nil (words_of before))

pub causes_sooner : (old mid late : DiskState) → Looked old mid late → (logs : Logs) (workers rows : ℕ) (names : List (List ℕ)) (first : ℕ) (j : JournalState) (new : DiskState) (came : List FileOutcome) → late.faults ≤ j.disk.faults → map (λ (c : FileOutcome). c.name) came ≡ names
    → FromArchive late (λ h before bytes stood. AddsNamesTo h before stood names first late j) → HaveCausesIn logs workers (into_journal j rows first came) j.disk new came → HaveFileCauses logs workers rows old new came
causes_sooner old mid late looked logs workers rows names first j new came risen named added causes = let into = into_journal j rows first came in record {
  into = into;
  came_are = refl;
  rows_are = refl;
  told = from_archive old late (λ h before bytes stood. AddsNamesTo h before stood names first late j) (λ h before bytes stood. IsTarget into h before (length stood.legal.held.names)) (same_bytes old mid late looked) (no_more old mid late looked)
      (λ h before bytes stood only adds. is_target h before (length stood.legal.held.names) adds.has adds.number) added;
  causes = record {
    each = All-weaker (CameIn logs into j.disk new) (CameIn logs into old new) (came_on logs into old j.disk new (omega (arith, looked.counts, risen))) came causes.each;
    cut = causes.cut;
    in_turn = causes.in_turn;
  };
}
  where
    is_target : (h : Header) (before : List JournalEntry) (held : ℕ) → HasNames h before names j → first ≡ held → IsTarget (into_journal j rows first came) h before held
    is_target h before held has numbered = record { told = has.told; header = has.header; entries = has.entries ∙ ap (λ (ns : List (List ℕ)). before ++ Files ns ∷ []) (sym named); first = numbered }

-- from an earlier moment, since which the disk was only read
pub causes_looked : (old mid late : DiskState) → Looked old mid late → (logs : Logs) (workers rows : ℕ) (new : DiskState) (came : List FileOutcome) → HaveFileCauses logs workers rows late new came → HaveFileCauses logs workers rows old new came
causes_looked old mid late looked logs workers rows new came have = record {
  into = have.into;
  came_are = have.came_are;
  rows_are = have.rows_are;
  told = from_archive old late (λ h before bytes stood. IsTarget have.into h before (length stood.legal.held.names)) (λ h before bytes stood. IsTarget have.into h before (length stood.legal.held.names)) (same_bytes old mid late looked) (no_more old mid late looked)
      (λ h before bytes stood only target. target) have.told;
  causes = record {
    each = All-weaker (CameIn logs have.into late new) (CameIn logs have.into old new) (came_on logs have.into old late new looked.counts) came have.causes.each;
    cut = have.causes.cut;
    in_turn = have.causes.in_turn;
  };
}

-- ---- as it is told

module _ (seen : Outside) (old new : DiskState) (into : Target) (told : FromArchive old (λ h before bytes stood. IsTarget into h before (length stood.legal.held.names))) where
  from_header : (P : Header → Type 0) → P into.header → FromArchive old (λ h before bytes stood. P h)
  from_header P p = from_archive old old (λ h before bytes stood. IsTarget into h before (length stood.legal.held.names)) (λ h before bytes stood. P h) refl (λ c image. image) (λ h before bytes stood only is. subst P is.header p) told

  full_of : (h : Header) (before : List JournalEntry) (held : ℕ) (c : FileOutcome) (book : Which) (count : ℕ) → IsTarget into h before held → IsFullByGiven into.came into.header into.entries c book count → IsFullByGiven into.came h before c book count
  full_of h before held c book count is full = subst (λ (x : Header). FullBy x (book_texts book before)) is.header (subst (FullBy into.header) (texts_named (names_in into.came) into.entries before is.entries book) full)
    where
      -- by a book's texts in the journal
      FullBy : Header → List (List ℕ) → Type 0
      FullBy x texts = (count ≡ limit_of (header_limits x) book)
          × OfTaken c (λ sealed. IsFullBy (λ t. Contains texts t ⊎ IsTextOf x.version (IsGiven x.version into.came) book t) (IsTextOf x.version (IsNextOf x.version c.log sealed) book) count)

  from_full : (c : FileOutcome) (book : Which) (count : ℕ) → IfTold into.told (IsFullByGiven into.came into.header into.entries c book count) → FromArchive old (λ h before bytes stood. IsFullByGiven into.came h before c book count)
  from_full c book count cause = from_archive old old (λ h before bytes stood. IsTarget into h before (length stood.legal.held.names)) (λ h before bytes stood. IsFullByGiven into.came h before c book count) refl (λ c image. image)
      (λ h before bytes stood only is. full_of h before (length stood.legal.held.names) c book count is (of_told into.told is.told cause)) told

  from_fit : (c : FileOutcome) (end need : ℕ) → IfTold into.told (DidNotFit (logs_of seen) into.rows into.first into.came into.header into.entries new c end need)
      → FromArchive old (λ h before bytes stood. DidNotFit (logs_of seen) into.rows (length stood.legal.held.names) into.came h (before ++ Files (names_in into.came) ∷ []) new c end need)
  from_fit c end need cause = from_archive old old (λ h before bytes stood. IsTarget into h before (length stood.legal.held.names))
      (λ h before bytes stood. DidNotFit (logs_of seen) into.rows (length stood.legal.held.names) into.came h (before ++ Files (names_in into.came) ∷ []) new c end need) refl (λ c image. image)
      (λ h before bytes stood only is. fit_into (logs_of seen) into h before (length stood.legal.held.names) is new c end need (of_told into.told is.told cause)) told

  file_cause : (c : FileOutcome) (r : Option PartCause) → HasCauseIn (logs_of seen) into old new c r → HasFileCause into.rows into.came seen old new c r
  file_cause c None cause = cause
  file_cause c (Some PartCause.OpenFault) cause = cause
  file_cause c (Some PartCause.ReadFault) cause = cause
  file_cause c (Some (PartCause.LineTooLong line)) cause = (cause.0, from_header (λ h. IfSome c.log (IsNextTooLong h.version c line)) cause.1)
  file_cause c (Some PartCause.TooManyLines) cause = (cause.0, from_header (λ h. HasMoreThan most_messages h.version c.log) cause.1)
  file_cause c (Some (PartCause.Full book count)) cause = from_full c book count cause
  file_cause c (Some (PartCause.ArchiveFull end need)) cause = from_fit c end need cause.1
  file_cause c (Some PartCause.DiskFault) cause = cause
  file_cause c (Some PartCause.OutOfMemory) cause = cause

  -- by the files up to the one that was stopped
  turn_of : (h : Header) (before : List JournalEntry) (held : ℕ) (met : List FileOutcome) (c : FileOutcome) (book : Which) (count : ℕ) → IsTarget into h before held → IsFullInTurn into.rows into.header into.entries met c book count
      → IsFullInTurn into.rows h before met c book count
  turn_of h before held met c book count is full = subst (λ (x : Header). FullBy x (book_texts book before)) is.header (subst (FullBy into.header) (texts_named (names_in into.came) into.entries before is.entries book) full)
    where
      -- by a book's texts in the journal
      FullBy : Header → List (List ℕ) → Type 0
      FullBy x texts = (count ≡ limit_of (header_limits x) book)
          × IsFullBy (λ t. Contains texts t ⊎ IsTextOf x.version (WasMetInOneOf into.rows x.version met) book t) (IsTextOf x.version (IsMessageAt x.version c.log c.messages) book) count

  from_turns : (came : List FileOutcome) → AreFullInto into came → AreFullInTurn into.rows old came
  from_turns came turns = λ place c book count at is.
      from_archive old old (λ h before bytes stood. IsTarget into h before (length stood.legal.held.names)) (λ h before bytes stood. IsFullInTurn into.rows h before (take (place + 1) came) c book count) refl (λ c image. image)
      (λ h before bytes stood only target. turn_of h before (length stood.legal.held.names) (take (place + 1) came) c book count target (of_told into.told target.told (turns place c book count at is))) told

pub file_causes : (workers rows : ℕ) (seen : Outside) (old new : DiskState) (came : List FileOutcome) → HaveFileCauses (logs_of seen) workers rows old new came → All (CameOfFile rows came seen old new) came
file_causes workers rows seen old new came have = subst (λ (cs : List FileOutcome). All (CameOfFile rows cs seen old new) came) have.came_are
    (subst (λ n. All (CameOfFile n have.into.came seen old new) came) have.rows_are
    (All-weaker (CameIn (logs_of seen) have.into old new) (CameOfFile have.into.rows have.into.came seen old new) (λ c is. record { cause = file_cause seen old new have.into have.told c c.refusal is.cause; part = is.part; unopened = is.unopened }) came have.causes.each))

pub full_in_turn : (workers rows : ℕ) (seen : Outside) (old new : DiskState) (came : List FileOutcome) → HaveFileCauses (logs_of seen) workers rows old new came → workers ≡ 1 → AreFullInTurn rows old came
full_in_turn workers rows seen old new came have one = subst (λ n. AreFullInTurn n old came) have.rows_are (from_turns seen old new have.into have.told came (have.causes.in_turn one))

pub cut_short : (workers rows : ℕ) (seen : Outside) (old new : DiskState) (came : List FileOutcome) → HaveFileCauses (logs_of seen) workers rows old new came → FromArchive old (λ h before bytes stood. AreCutShort seen.unread h.version came)
cut_short workers rows seen old new came have = from_header seen old new have.into have.told (λ h. AreCutShort seen.unread h.version came) have.causes.cut
