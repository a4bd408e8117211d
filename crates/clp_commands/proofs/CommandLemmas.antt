-- Words ask for one thing alone, so what that answers is what the program answers.
use Rattle.std.proofs.Common.{◌≡◌, ◌≢◌, ◌≤◌, ◌⊎◌, arith, refl, sym, subst, inl, inr, ℕ, List, [], ◌∷◌, length, map, Option, None, Some, Result, Ok, Err}
use Rattle.std.specs.Prelude.{IfErr}
use Rattle.log_seams.specs.Disk.{DiskState}
use Rattle.command_words.specs.Asked.{AreTaken, Asked, Asks, HaveGoodValues, IsAnswer, asked_by, to_bench, to_check, to_count, to_create, to_decode, to_ingest, to_list, to_merge, to_scan, to_search, to_show, to_upgrade}
use Rattle.command_words.specs.declared.command.Command.{Command}
use Rattle.command_words.specs.declared.command.WordsRefusal.{WordsRefusal}
use Rattle.command_words.specs.declared.command.WordsRefusal.TheVariants.{Usage as WordsUsage, OutOfMemory as WordsOutOfMemory}
use Rattle.command_refusals.specs.Outside.{Outside}
use Rattle.command_refusals.specs.Ending.{RefusesAtOnce}
use Rattle.command_refusals.specs.declared.outcome.AddRefusal.{AddRefusal}
use Rattle.command_answers.specs.Names.{RefusesNames}
use Rattle.command_answers.specs.Answers.{AnswersWatch}
use Rattle.command_answers.specs.Known.{KnownArchive}
use Rattle.file_outcomes.specs.StepsKnown.{EndsIngestAt}
use Rattle.command_answers.specs.Answers.{Answers, AnswersAsked}
use Rattle.command_answers.specs.Words.{UsesArchive}
use Rattle.clp_commands.specs.Turns.{AskForTurns, TakesTurns}
use Rattle.command_refusals.specs.Outcome.{of_add, of_words}

-- words that were read ask for one thing alone
only : (words : List (List ℕ)) (read : Result Command WordsRefusal) (command : Command) → read ≡ Ok command → ((a : Asked) → Asks words a → IsAnswer a read) → (a : Asked) → Asks words a → asked_by command ≡ a
only words read command is all a asks = subst (IsAnswer a) is (all a asks)

pub Answers-asked : (known : Option KnownArchive) (words : List (List ℕ)) (seen : Outside) (old new second second_new : DiskState) (status : ℕ) (read : Result Command WordsRefusal) (command : Command) (a : Asked) → read ≡ Ok command → Asks words a → ((b : Asked) → Asks words b → IsAnswer b read)
    → AnswersAsked known a seen old new second second_new status → Answers known words seen old new second second_new status
Answers-asked known words seen old new second second_new status read command a is asks all answers = inr (record {
  usage = λ none. absurd (none a asks);
  asked_for = λ b also. subst (λ x. AnswersAsked known x seen old new second second_new status) (same b also) answers;
  taken = λ taken good. (a, asks);
})
  where
    same : (b : Asked) → Asks words b → a ≡ b
    same b also = let one = only words read command is all a asks in let other = only words read command is all b also in cc

-- words that ask for nothing, or that there was no memory to read
pub Answers-refused : (known : Option KnownArchive) (words : List (List ℕ)) (seen : Outside) (old new second second_new : DiskState) (status : ℕ) (read : Result Command WordsRefusal) (refusal : WordsRefusal) → read ≡ Err refusal → ((a : Asked) → Asks words a → IsAnswer a read)
    → (AreTaken words → HaveGoodValues words → IfErr read (λ r. r ≡ WordsOutOfMemory)) → RefusesAtOnce seen old new status (of_words refusal) → Answers known words seen old new second second_new status
Answers-refused known words seen old new second second_new status read WordsUsage is all taken refuses = inr (record {
  usage = λ _. refuses;
  asked_for = λ a asks. absurd (subst (IsAnswer a) is (all a asks));
  taken = λ passes good. absurd (other (subst (λ r. IfErr r (λ x. x ≡ WordsOutOfMemory)) is (taken passes good)));
})
  where
    other : WordsUsage ≡ WordsOutOfMemory → ⊥
    other e = cc
Answers-refused known words seen old new second second_new status read WordsOutOfMemory is all taken refuses = inl refuses

-- a list has an element where its image has one
pub some_of : {A B : Type 0} (f : A → B) (xs : List A) → map f xs ≢ [] → 1 ≤ length xs
some_of f [] some = absurd (some refl)
some_of f (x ∷ xs) some = omega arith

-- what `ingest` answers, by its names and by how it ends
pub ingest_answers : (known : Option KnownArchive) (workers rows : ℕ) (names : List (List ℕ)) (seen : Outside) (old new second second_new : DiskState) (status : ℕ) (watch : Option (List ℕ)) → watch ≡ None
    → ((refusal : AddRefusal) → RefusesNames names (Some refusal) → RefusesAtOnce seen old new status (of_add refusal))
    → EndsIngestAt known workers rows names seen old new status → AnswersAsked known (to_ingest workers rows watch names) seen old new second second_new status
ingest_answers known workers rows names seen old new second second_new status watch is first ends =
    subst (λ w. AnswersAsked known (to_ingest workers rows w names) seen old new second second_new status) (sym is) (record { names_first = first; ends = ends.0; damaged = ends.1 })

-- and with a pattern that is watched for
pub watch_answers : (known : Option KnownArchive) (workers rows : ℕ) (names : List (List ℕ)) (seen : Outside) (old new second second_new : DiskState) (status : ℕ) (pattern : List ℕ) (watch : Option (List ℕ)) → watch ≡ Some pattern
    → AnswersWatch known workers rows pattern names seen old new status → AnswersAsked known (to_ingest workers rows watch names) seen old new second second_new status
watch_answers known workers rows names seen old new second second_new status pattern watch is answers =
    subst (λ w. AnswersAsked known (to_ingest workers rows w names) seen old new second second_new status) (sym is) answers

-- what may wait for a turn works on the archive
pub turns_use : (a : Asked) → TakesTurns a → UsesArchive a
turns_use (to_show file) turns = turns
turns_use (to_scan pattern file) turns = turns
turns_use (to_create header) turns = tt
turns_use (to_ingest workers segment watch files) turns = tt
turns_use to_list turns = tt
turns_use to_check turns = tt
turns_use (to_decode number) turns = tt
turns_use (to_search from to stats workers pattern) turns = tt
turns_use (to_count by from to stats workers pattern) turns = tt
turns_use to_merge turns = tt
turns_use to_upgrade turns = tt
turns_use (to_bench number lines workers) turns = tt

-- and prints no log
pub turns_print_none : (asked : Asked) (pattern file : List ℕ) → TakesTurns asked → (asked ≡ to_show file) ⊎ (asked ≡ to_scan pattern file) → ⊥
turns_print_none asked pattern file turns (inl is) = subst TakesTurns is turns
turns_print_none asked pattern file turns (inr is) = subst TakesTurns is turns

pub asked_of_none : {words : List (List ℕ)} (command : Command) (pattern file : List ℕ) → AskForTurns words command → Asks words (to_show file) ⊎ Asks words (to_scan pattern file) → ⊥
asked_of_none command pattern file asks (inl is) = turns_print_none (asked_by command) pattern file asks.turns (inl (asks.alone _ is))
asked_of_none command pattern file asks (inr is) = turns_print_none (asked_by command) pattern file asks.turns (inr (asks.alone _ is))

-- words that were read ask for the printing of a log, as the command does
pub asked_of_log : (words : List (List ℕ)) (read : Result Command WordsRefusal) (command : Command) (pattern file : List ℕ) → read ≡ Ok command → ((a : Asked) → Asks words a → IsAnswer a read) → Asks words (to_show file) ⊎ Asks words (to_scan pattern file) → (asked_by command ≡ to_show file) ⊎ (asked_by command ≡ to_scan pattern file)
asked_of_log words read command pattern file is all (inl asks) = inl (only words read command is all _ asks)
asked_of_log words read command pattern file is all (inr asks) = inr (only words read command is all _ asks)

-- the log that is printed is the one that is asked for
pub shown_log : (name pattern file : List ℕ) → (to_show name ≡ to_show file) ⊎ (to_show name ≡ to_scan pattern file) → name ≡ file
shown_log name pattern file (inl is) = cc
shown_log name pattern file (inr is) = absurd cc

pub scanned_log : (asked name pattern file : List ℕ) → (to_scan asked name ≡ to_show file) ⊎ (to_scan asked name ≡ to_scan pattern file) → name ≡ file
scanned_log asked name pattern file (inl is) = absurd cc
scanned_log asked name pattern file (inr is) = cc
