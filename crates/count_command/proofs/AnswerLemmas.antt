-- What the command answers.
use Rattle.std.proofs.Common.{◌≡◌, refl, sym, subst, false, Bool, inl, inr, arith, ℕ, List, [], Result, Ok, Err, option_map}
use Rattle.std.specs.Prelude.{is_ok}
use Rattle.log_seams.specs.Disk.{DiskState, KeepsBytes}
use Rattle.log_seams.specs.Outside.{CountsOf}
use Rattle.archive_open.specs.Shown.{RefusedAt}
use Rattle.search_meaning.specs.Scan.{Asked}
use Rattle.search_meaning.specs.Journal.{asked}
use Rattle.column_store.specs.declared.range.Range.{Range}
use Rattle.wild_match.specs.Reading.{IsLoneBackslash, IsSearchPattern}
use Rattle.wild_match.specs.declared.pattern.Item.{Item}
use Rattle.wild_match.proofs.Spelling.{IsSearchPattern-unique}
use Rattle.wild_match.specs.declared.read.PatternRefusal.{PatternRefusal}
use Rattle.wild_match.specs.declared.read.PatternRefusal.TheVariants.{BadPattern as ReadBadPattern, OutOfMemory as ReadOutOfMemory}
use Rattle.command_words.specs.declared.command.CountKey.{CountKey}
use Rattle.command_refusals.specs.Outside.{Outside}
use Rattle.command_refusals.specs.Ending.{EndsWith, IsPatternRefusal, SaysIn, Stayed, TookNothing}
use Rattle.command_refusals.specs.Outcome.{answer_of, of_pattern, of_read}
use Rattle.command_refusals.specs.Reading.{IsComplete}
use Rattle.command_refusals.specs.Refusal.{line_of, status_of}
use Rattle.command_refusals.specs.declared.outcome.ReadRefusal.{ReadRefusal}
use Rattle.command_refusals.specs.declared.outcome.ReadRefusal.TheVariants.{DiskFault, Damaged, SinkFault, OutOfMemory}
use Rattle.command_refusals.proofs.GoingLemmas.{KeepsBytes-same}
use Rattle.command_answers.specs.Answers.{AnswersGroups}
use Rattle.command_answers.specs.Grouping.{PrintsGroups, grouped_by}
use Rattle.command_answers.specs.Searching.{SparesBarren}
use Rattle.count_command.proofs.CountingLemmas.{groups_untold, spares_untouched}

-- where nothing fails, it does what it is asked
complete : (seen : Outside) (old new : DiskState) (answer : Result Unit ReadRefusal) → CountsOf DiskFault old.faults new.faults answer → CountsOf SinkFault seen.out_faults.0 seen.out_faults.1 answer
    → ((at : ℕ) → answer ≡ Err (Damaged at) → RefusedAt at old.seen) → IsComplete seen old new answer
complete seen old new (Ok tt) disk sink damaged bytes h es told stood steady sent = inl refl
complete seen old new (Err DiskFault) disk sink damaged bytes h es told stood steady sent = absurd (steady (disk.failed refl))
complete seen old new (Err (Damaged at)) disk sink damaged bytes h es told stood steady sent = absurd ((subst (RefusedAt at) told (damaged at refl)).none h es stood)
complete seen old new (Err SinkFault) disk sink damaged bytes h es told stood steady sent = absurd (sent (sink.failed refl))
complete seen old new (Err OutOfMemory) disk sink damaged bytes h es told stood steady sent = inr refl

pub count_answers : (by : CountKey) (q : Asked) (stats : Bool) (seen : Outside) (old new : DiskState) (status : ℕ) (answer : Result Unit ReadRefusal) → EndsWith seen [] status (option_map of_read (answer_of answer)) → KeepsBytes old new
    → CountsOf DiskFault old.faults new.faults answer → CountsOf SinkFault seen.out_faults.0 seen.out_faults.1 answer → PrintsGroups (is_ok answer) q (grouped_by by) stats old.seen seen.out.0 seen.out.1
    → SparesBarren q old.seen old.ranges new.ranges → ((at : ℕ) → answer ≡ Err (Damaged at) → RefusedAt at old.seen) → AnswersGroups by q stats seen old new status
count_answers by q stats seen old new status answer ends keeps disk sink prints reads damaged = record {
  answer = answer;
  ends = record { ends = ends; keeps = keeps; disk = disk; sink = sink };
  prints = prints;
  reads = reads;
  damaged = damaged;
  complete = complete seen old new answer disk sink damaged;
}

-- a pattern that was refused, and has no lone backslash: memory ended before the archive was touched
pub count_refused : (by : CountKey) (q : Asked) (stats : Bool) (seen : Outside) (disk : DiskState) (status : ℕ) (text : List ℕ) (refusal : PatternRefusal) → IsPatternRefusal text refusal → ((at : ℕ) → IsLoneBackslash text at → ⊥)
    → status ≡ status_of (of_pattern refusal) → SaysIn seen (line_of [] (of_pattern refusal)) → TookNothing seen.out → Stayed seen.out_faults → AnswersGroups by q stats seen disk disk status
count_refused by q stats seen disk status text (ReadBadPattern place) is none s said nothing sink = absurd (none place is)
count_refused by q stats seen disk status text ReadOutOfMemory is none s said nothing sink =
    count_answers by q stats seen disk disk status (Err OutOfMemory) (record { status_is = s; said = said }) (KeepsBytes-same disk)
    (record { later = omega arith; steady = tt; failed = λ e. absurd (cc (e)); spared = λ x e n. refl })
    (record { later = omega (arith, sink); steady = tt; failed = λ e. absurd (cc (e)); spared = λ x e n. sink })
    (subst (λ o. PrintsGroups false q (grouped_by by) stats disk.seen seen.out.0 o) (sym nothing) (groups_untold false q (grouped_by by) stats disk.seen seen.out.0 refl))
    (spares_untouched q disk.seen disk.ranges) (λ at e. absurd (cc (e)))

-- the pattern of a text is one
pub count_pattern : (by : CountKey) (text : List ℕ) (a b : List Item) (range : Range) (stats : Bool) (seen : Outside) (old new : DiskState) (status : ℕ) → IsSearchPattern text a → IsSearchPattern text b
    → AnswersGroups by (asked a range) stats seen old new status → AnswersGroups by (asked b range) stats seen old new status
count_pattern by text a b range stats seen old new status is_a is_b answers = subst (λ x. AnswersGroups by (asked x range) stats seen old new status) (IsSearchPattern-unique text a b is_a is_b) answers
