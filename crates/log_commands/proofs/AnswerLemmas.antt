-- What a call answers, from what it did.
use Rattle.std.proofs.Common.{◌≡◌, ◌≢◌, refl, sym, ap, subst, ℕ, List, Option, Some, Result, Ok, Err, option_map}
use Rattle.wild_match.specs.Reading.{IsLoneBackslash, IsSearchPattern}
use Rattle.wild_match.specs.declared.pattern.Item.{Item}
use Rattle.wild_match.specs.declared.read.PatternRefusal.{PatternRefusal}
use Rattle.wild_match.specs.declared.read.PatternRefusal.TheVariants.{BadPattern as ReadBadPattern, OutOfMemory as ReadOutOfMemory}
use Rattle.wild_match.proofs.Spelling.{IsSearchPattern-unique}
use Rattle.log_seams.specs.Outside.{CountsOf}
use Rattle.command_refusals.specs.Outside.{Outside}
use Rattle.command_refusals.specs.Outcome.{answer_of, of_log, of_pattern}
use Rattle.command_refusals.specs.Refusal.{status_of, line_of}
use Rattle.command_answers.specs.Scanned.{Finds}
use Rattle.command_answers.specs.Answers.{AnswersLog}
use Rattle.command_answers.specs.Printing.{HasCause}
use Rattle.command_refusals.specs.Ending.{IsPatternRefusal}
use Rattle.command_refusals.specs.Ending.{NoneAdded, Stayed, EndsWith, RoseIn, TookNothing, SaysIn, exit_status, error_line}
use Rattle.command_answers.specs.Printing.{Printed}
use Rattle.command_refusals.specs.declared.outcome.LogRefusal.{LogRefusal}
use Rattle.command_refusals.specs.declared.outcome.LogRefusal.TheVariants.{OpenFault, ReadFault, LineTooLong, TooManyLines, SinkFault, OutOfMemory as LogOutOfMemory}
use Rattle.command_refusals.specs.declared.refusal.Refusal.{Refusal}
use Rattle.log_commands.proofs.PrintedLemmas.{Printed-no_memory}

-- the cause of an outcome
cause_of : (seen : Outside) (name : List ℕ) (outcome : Result Unit LogRefusal) → (outcome ≡ Err OpenFault → RoseIn (seen.opens name)) → (outcome ≡ Err OpenFault → TookNothing seen.out) → (outcome ≡ Err ReadFault → RoseIn (seen.reads name)) → (outcome ≡ Err SinkFault → RoseIn seen.out_faults) → HasCause seen name (answer_of outcome)
cause_of seen name (Ok u) opens nothing reads sinks = tt
cause_of seen name (Err OpenFault) opens nothing reads sinks = (opens refl, nothing refl)
cause_of seen name (Err ReadFault) opens nothing reads sinks = reads refl
cause_of seen name (Err (LineTooLong line)) opens nothing reads sinks = tt
cause_of seen name (Err TooManyLines) opens nothing reads sinks = tt
cause_of seen name (Err SinkFault) opens nothing reads sinks = sinks refl
cause_of seen name (Err LogOutOfMemory) opens nothing reads sinks = tt

-- the output's count stays at every answer but its own
stays : {counts : ℕ × ℕ} (outcome : Result Unit LogRefusal) → CountsOf SinkFault counts.0 counts.1 outcome → answer_of outcome ≢ Some SinkFault → Stayed counts
stays (Ok u) counts other = counts.steady
stays (Err refusal) counts other = counts.spared refusal refl (λ e. other (ap Some e))

-- and the log's unless a read or the output is told as failed
none_added : (counts : ℕ × ℕ) (outcome : Result Unit LogRefusal) → ((outcome ≡ Err ReadFault → ⊥) → (outcome ≡ Err SinkFault → ⊥) → NoneAdded counts) → answer_of outcome ≢ Some ReadFault → answer_of outcome ≢ Some SinkFault → NoneAdded counts
none_added counts outcome none other another = none (λ is. other (ap answer_of is)) (λ is. another (ap answer_of is))

pub AnswersLog-from : (tells : ℕ → List ℕ → List ℕ → Type 0) (seen : Outside) (name : List ℕ) (status : ℕ) (outcome : Result Unit LogRefusal) (refusal : Option Refusal) → refusal ≡ option_map of_log (answer_of outcome) → status ≡ exit_status refusal → SaysIn seen (error_line name refusal) → Printed tells (answer_of outcome) (seen.content name) (seen.unread name) seen.out.0 seen.out.1 → (outcome ≡ Err OpenFault → RoseIn (seen.opens name)) → (outcome ≡ Err OpenFault → TookNothing seen.out) → (outcome ≡ Err ReadFault → RoseIn (seen.reads name)) → ((outcome ≡ Err ReadFault → ⊥) → (outcome ≡ Err SinkFault → ⊥) → NoneAdded (seen.reads name)) → CountsOf SinkFault seen.out_faults.0 seen.out_faults.1 outcome → AnswersLog tells seen name status
AnswersLog-from tells seen name status outcome refusal is status_is said printed opens nothing reads none sink = record {
  answer = answer_of outcome;
  ends = subst (EndsWith seen name status) is (record { status_is = status_is; said = said });
  printed = printed;
  cause = cause_of seen name outcome opens nothing reads sink.failed;
  reads = none_added (seen.reads name) outcome none;
  sink = stays outcome sink;
}

-- a pattern that was refused, and has none
pub AnswersLog-refused : (tells : ℕ → List ℕ → List ℕ → Type 0) (seen : Outside) (name : List ℕ) (status : ℕ) (text : List ℕ) (refusal : PatternRefusal) → IsPatternRefusal text refusal → ((at : ℕ) → IsLoneBackslash text at → ⊥) → status ≡ status_of (of_pattern refusal) → SaysIn seen (line_of name (of_pattern refusal)) → TookNothing seen.out → Stayed seen.out_faults → NoneAdded (seen.reads name) → AnswersLog tells seen name status
AnswersLog-refused tells seen name status text (ReadBadPattern place) is none s said nothing sink reads = absurd (none place is)
AnswersLog-refused tells seen name status text ReadOutOfMemory is none s said nothing sink reads = record {
  answer = Some LogOutOfMemory;
  ends = record { status_is = s; said = said };
  printed = subst (λ o. Printed tells (Some LogOutOfMemory) (seen.content name) (seen.unread name) seen.out.0 o) (sym nothing) (Printed-no_memory tells (seen.content name) (seen.unread name) seen.out.0);
  cause = tt;
  reads = λ _ _. reads;
  sink = λ _. sink;
}

-- the pattern of a text is one
pub AnswersLog-pattern : (file text : List ℕ) (a b : List Item) (seen : Outside) (status : ℕ) → IsSearchPattern text a → IsSearchPattern text b → AnswersLog (Finds file a) seen file status → AnswersLog (Finds file b) seen file status
AnswersLog-pattern file text a b seen status is_a is_b answers = subst (λ x. AnswersLog (Finds file x) seen file status) (IsSearchPattern-unique text a b is_a is_b) answers
