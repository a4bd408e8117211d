-- A command that reads an archive does what it is asked where nothing fails.
use Rattle.std.proofs.Common.{◌≡◌, ◌⊎◌, ◌<◌, refl, sym, subst, false, Bool, inl, inr, arith, length, ℕ, List, [], Some, Result, Ok, Err, option_map}
use Rattle.std.specs.Prelude.{IfSome, is_ok}
use Rattle.log_seams.specs.Disk.{DiskState, KeepsBytes}
use Rattle.log_seams.specs.Outside.{CountsOf}
use Rattle.record_format.specs.declared.header.Header.{Header}
use Rattle.archive_meaning.specs.declared.entry.JournalEntry.{JournalEntry}
use Rattle.archive_meaning.specs.Stands.{StandsFor}
use Rattle.archive_meaning.proofs.UniqueLemmas.{journals_are_whole}
use Rattle.archive_meaning.specs.Held.{content_of}
use Rattle.check_meaning.specs.Checked.{DamagedAt}
use Rattle.archive_open.specs.Shown.{RefusedAt}
use Rattle.search_meaning.specs.Scan.{Asked}
use Rattle.search_meaning.specs.Journal.{asked}
use Rattle.column_store.specs.declared.range.Range.{Range}
use Rattle.wild_match.specs.Reading.{IsLoneBackslash, IsSearchPattern}
use Rattle.wild_match.specs.declared.pattern.Item.{Item}
use Rattle.wild_match.proofs.Spelling.{IsSearchPattern-unique}
use Rattle.wild_match.specs.declared.read.PatternRefusal.{PatternRefusal}
use Rattle.wild_match.specs.declared.read.PatternRefusal.TheVariants.{BadPattern as ReadBadPattern, OutOfMemory as ReadOutOfMemory}
use Rattle.command_refusals.specs.Outside.{Outside}
use Rattle.command_answers.specs.Answers.{AnswersCheck}
use Rattle.command_answers.specs.Counted.{PrintsCounts}
use Rattle.command_answers.specs.Answers.{AnswersFiles}
use Rattle.command_answers.specs.Listing.{PrintsDirectory}
use Rattle.command_answers.specs.Answers.{AnswersDecode}
use Rattle.command_answers.specs.Decoding.{IsCompleteFile, LacksFile, PrintsFile}
use Rattle.command_refusals.specs.Ending.{IsPatternRefusal}
use Rattle.command_refusals.specs.Ending.{EndsWith, SaysIn, Stayed, TookNothing}
use Rattle.command_refusals.specs.Outcome.{answer_of, of_file, of_pattern, of_read}
use Rattle.command_refusals.specs.Refusal.{line_of, status_of}
use Rattle.command_answers.specs.Answers.{AnswersSearch}
use Rattle.command_answers.specs.Searching.{PrintsFound, SparesBarren}
use Rattle.command_refusals.proofs.GoingLemmas.{KeepsBytes-same}
use Rattle.read_commands.proofs.SearchingLemmas.{found_unopened, spares_untouched}
use Rattle.command_refusals.specs.Reading.{IsComplete, OverJournal}
use Rattle.command_refusals.specs.declared.outcome.FileRefusal.{FileRefusal}
use Rattle.command_refusals.specs.declared.outcome.ReadRefusal.{ReadRefusal}
use Rattle.command_refusals.specs.declared.outcome.ReadRefusal.TheVariants.{DiskFault, Damaged, SinkFault, OutOfMemory}

complete : (seen : Outside) (old new : DiskState) (answer : Result Unit ReadRefusal) → CountsOf DiskFault old.faults new.faults answer → CountsOf SinkFault seen.out_faults.0 seen.out_faults.1 answer
    → ((at : ℕ) (bytes : List ℕ) (h : Header) (es : List JournalEntry) → answer ≡ Err (Damaged at) → old.seen ≡ Some bytes → StandsFor bytes h es → ⊥) → IsComplete seen old new answer
complete seen old new (Ok tt) disk sink none bytes h es told stood steady sent = inl refl
complete seen old new (Err DiskFault) disk sink none bytes h es told stood steady sent = absurd (steady (disk.failed refl))
complete seen old new (Err (Damaged at)) disk sink none bytes h es told stood steady sent = absurd (none at bytes h es refl told stood)
complete seen old new (Err SinkFault) disk sink none bytes h es told stood steady sent = absurd (sent (sink.failed refl))
complete seen old new (Err OutOfMemory) disk sink none bytes h es told stood steady sent = inr refl

-- what the commands answer
pub files_answers : (seen : Outside) (old new : DiskState) (status : ℕ) (answer : Result Unit ReadRefusal) → EndsWith seen [] status (option_map of_read (answer_of answer)) → KeepsBytes old new
    → CountsOf DiskFault old.faults new.faults answer → CountsOf SinkFault seen.out_faults.0 seen.out_faults.1 answer → PrintsDirectory answer old.seen seen.out.0 seen.out.1
    → ((at : ℕ) → answer ≡ Err (Damaged at) → RefusedAt at old.seen) → AnswersFiles seen old new status
files_answers seen old new status answer ends keeps disk sink prints damaged = record {
  answer = answer;
  ends = record { ends = ends; keeps = keeps; disk = disk; sink = sink };
  prints = prints;
  damaged = damaged;
  complete = complete seen old new answer disk sink (λ at bytes h es e told stood. (subst (RefusedAt at) told (damaged at e)).none h es stood);
}

pub check_answers : (seen : Outside) (old new : DiskState) (status : ℕ) (answer : Result Unit ReadRefusal) → EndsWith seen [] status (option_map of_read (answer_of answer)) → KeepsBytes old new
    → CountsOf DiskFault old.faults new.faults answer → CountsOf SinkFault seen.out_faults.0 seen.out_faults.1 answer → PrintsCounts answer old.seen seen.out.0 seen.out.1
    → ((at : ℕ) → answer ≡ Err (Damaged at) → IfSome old.seen (DamagedAt at)) → AnswersCheck seen old new status
check_answers seen old new status answer ends keeps disk sink prints damaged = record {
  answer = answer;
  ends = record { ends = ends; keeps = keeps; disk = disk; sink = sink };
  prints = prints;
  damaged = damaged;
  complete = complete seen old new answer disk sink (λ at bytes h es e told stood. journals_are_whole bytes h es at stood (subst (λ s. IfSome s (DamagedAt at)) told (damaged at e)));
}

file_complete : (number : ℕ) (seen : Outside) (old new : DiskState) (answer : Result Unit FileRefusal) → CountsOf FileRefusal.DiskFault old.faults new.faults answer → CountsOf FileRefusal.SinkFault seen.out_faults.0 seen.out_faults.1 answer
    → ((at : ℕ) → answer ≡ Err (FileRefusal.Damaged at) → RefusedAt at old.seen)
    → ((told count : ℕ) → answer ≡ Err (FileRefusal.NoSuchFile told count) → LacksFile number told count old.seen seen.out.0 seen.out.1) → IsCompleteFile number seen old new answer
file_complete number seen old new (Ok tt) disk sink damaged lacks bytes h es stood told within steady sent = inl refl
file_complete number seen old new (Err FileRefusal.DiskFault) disk sink damaged lacks bytes h es stood told within steady sent = absurd (steady (disk.failed refl))
file_complete number seen old new (Err (FileRefusal.Damaged at)) disk sink damaged lacks bytes h es stood told within steady sent = absurd ((subst (RefusedAt at) told (damaged at refl)).none h es stood)
file_complete number seen old new (Err (FileRefusal.NoSuchFile n count)) disk sink damaged lacks bytes h es stood told within steady sent =
    let lack = lacks n count refl in
    absurd (omega (arith, lack.absent, within, (subst (λ s. OverJournal s (λ held. count ≡ length (content_of held))) told lack.all) h es stood))
file_complete number seen old new (Err FileRefusal.SinkFault) disk sink damaged lacks bytes h es stood told within steady sent = absurd (sent (sink.failed refl))
file_complete number seen old new (Err FileRefusal.OutOfMemory) disk sink damaged lacks bytes h es stood told within steady sent = inr refl

pub decode_answers : (number : ℕ) (seen : Outside) (old new : DiskState) (status : ℕ) (answer : Result Unit FileRefusal) → EndsWith seen [] status (option_map of_file (answer_of answer)) → KeepsBytes old new
    → CountsOf FileRefusal.DiskFault old.faults new.faults answer → CountsOf FileRefusal.SinkFault seen.out_faults.0 seen.out_faults.1 answer → PrintsFile answer number old.seen seen.out.0 seen.out.1
    → ((at : ℕ) → answer ≡ Err (FileRefusal.Damaged at) → RefusedAt at old.seen)
    → ((told count : ℕ) → answer ≡ Err (FileRefusal.NoSuchFile told count) → LacksFile number told count old.seen seen.out.0 seen.out.1)
    → ((answer ≡ Ok tt) ⊎ (answer ≡ Err FileRefusal.SinkFault) → OverJournal old.seen (λ held. number < length (content_of held))) → AnswersDecode number seen old new status
decode_answers number seen old new status answer ends keeps disk sink prints damaged lacks there = record {
  answer = answer;
  ends = ends;
  keeps = keeps;
  prints = prints;
  damaged = damaged;
  lacks = lacks;
  there = there;
  disk = disk;
  sink = sink;
  complete = file_complete number seen old new answer disk sink damaged lacks;
}

pub search_answers : (q : Asked) (stats : Bool) (seen : Outside) (old new : DiskState) (status : ℕ) (answer : Result Unit ReadRefusal) → EndsWith seen [] status (option_map of_read (answer_of answer)) → KeepsBytes old new
    → CountsOf DiskFault old.faults new.faults answer → CountsOf SinkFault seen.out_faults.0 seen.out_faults.1 answer → PrintsFound (is_ok answer) q stats old.seen seen.out.0 seen.out.1 → SparesBarren q old.seen old.ranges new.ranges
    → ((at : ℕ) → answer ≡ Err (Damaged at) → RefusedAt at old.seen) → AnswersSearch q stats seen old new status
search_answers q stats seen old new status answer ends keeps disk sink prints reads damaged = record {
  answer = answer;
  ends = record { ends = ends; keeps = keeps; disk = disk; sink = sink };
  prints = prints;
  reads = reads;
  damaged = damaged;
  complete = complete seen old new answer disk sink (λ at bytes h es e told stood. (subst (RefusedAt at) told (damaged at e)).none h es stood);
}

-- a pattern that was refused, and has no lone backslash: memory ended before the archive was touched
pub search_refused : (q : Asked) (stats : Bool) (seen : Outside) (disk : DiskState) (status : ℕ) (text : List ℕ) (refusal : PatternRefusal) → IsPatternRefusal text refusal → ((at : ℕ) → IsLoneBackslash text at → ⊥)
    → status ≡ status_of (of_pattern refusal) → SaysIn seen (line_of [] (of_pattern refusal)) → TookNothing seen.out → Stayed seen.out_faults → AnswersSearch q stats seen disk disk status
search_refused q stats seen disk status text (ReadBadPattern place) is none s said nothing sink = absurd (none place is)
search_refused q stats seen disk status text ReadOutOfMemory is none s said nothing sink =
    search_answers q stats seen disk disk status (Err OutOfMemory) (record { status_is = s; said = said }) (KeepsBytes-same disk)
    (record { later = omega arith; steady = tt; failed = λ e. absurd (cc (e)); spared = λ x e n. refl })
    (record { later = omega (arith, sink); steady = tt; failed = λ e. absurd (cc (e)); spared = λ x e n. sink })
    (subst (λ o. PrintsFound false q stats disk.seen seen.out.0 o) (sym nothing) (found_unopened false q stats disk.seen seen.out.0 refl))
    (spares_untouched q disk.seen disk.ranges) (λ at e. absurd (cc (e)))

-- the pattern of a text is one
pub search_pattern : (text : List ℕ) (a b : List Item) (range : Range) (stats : Bool) (seen : Outside) (old new : DiskState) (status : ℕ) → IsSearchPattern text a → IsSearchPattern text b → AnswersSearch (asked a range) stats seen old new status → AnswersSearch (asked b range) stats seen old new status
search_pattern text a b range stats seen old new status is_a is_b answers = subst (λ x. AnswersSearch (asked x range) stats seen old new status) (IsSearchPattern-unique text a b is_a is_b) answers
