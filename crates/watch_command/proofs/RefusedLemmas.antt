-- What `ingest --watch` answers where nothing was taken in.
use Rattle.std.proofs.Common.{◌⊎◌, inl, inr, refl, subst, ℕ, List, Option, Some}
use Rattle.log_seams.specs.Disk.{DiskState, IsLawful}
use Rattle.wild_match.specs.Reading.{IsLoneBackslash, IsSearchPattern}
use Rattle.wild_match.specs.declared.pattern.Item.{Item}
use Rattle.wild_match.specs.declared.read.PatternRefusal.{PatternRefusal}
use Rattle.wild_match.specs.declared.read.PatternRefusal.TheVariants.{BadPattern as ReadBadPattern, OutOfMemory as ReadOutOfMemory}
use Rattle.wild_match.proofs.Spelling.{IsSearchPattern-unique}
use Rattle.command_refusals.specs.Ending.{IsPatternRefusal, LacksMemoryAtOnce, Refuses, RefusesAtOnce, RefusesSoon}
use Rattle.command_refusals.specs.Outcome.{of_add, of_pattern}
use Rattle.command_refusals.specs.Outside.{Outside}
use Rattle.command_refusals.specs.declared.outcome.AddRefusal.{AddRefusal}
use Rattle.command_refusals.specs.declared.refusal.Refusal.{Refusal}
use Rattle.command_refusals.proofs.GoingLemmas.{KeepsBytes-same}
use Rattle.command_answers.specs.Answers.{AnswersGoodWatch}
use Rattle.command_answers.specs.Ingested.{FromArchive, HasCallCause, RefusesIngest, TakesNothing, TellsDamage}
use Rattle.command_answers.specs.Known.{KnownArchive, are_of, over}
use Rattle.command_answers.specs.Names.{RefusesNames}
use Rattle.file_outcomes.specs.StepsKnown.{told_lawful}
use Rattle.write_commands.proofs.CauseLemmas.{names_cause}
use Rattle.write_commands.proofs.DamageLemmas.{names_damage}
use Rattle.write_commands.proofs.NameLemmas.{one_refusal}
use Rattle.file_outcomes.proofs.StepsLemmas.{same_nothing}

-- the call was refused as a whole, with its cause
refused_whole : (names : List (List ℕ)) (seen : Outside) (old new : DiskState) (status : ℕ) (refusal : AddRefusal) → Refuses seen status (of_add refusal) → HasCallCause names old new refusal
    → FromArchive old (λ h before bytes stood. TakesNothing h before old new) → RefusesIngest names seen old new status
refused_whole names seen old new status refusal refuses cause disk =
    record { refusal = refusal; ends = refuses.ends; nothing = refuses.nothing; sink = refuses.sink; cause = cause; disk = disk }

-- so the command answers it, and damage has its place
pub answers_refused : (known : Option KnownArchive) (workers rows : ℕ) (items : List Item) (names : List (List ℕ)) (seen : Outside) (old new : DiskState) (status : ℕ) (refusal : AddRefusal)
    → ((other : AddRefusal) → RefusesNames names (Some other) → RefusesAtOnce seen old new status (of_add other) ⊎ LacksMemoryAtOnce seen old new status) → Refuses seen status (of_add refusal)
    → HasCallCause names (over known old old) (over known old new) refusal → FromArchive (over known old old) (λ h before bytes stood. TakesNothing h before (over known old old) (over known old new)) → TellsDamage old new refusal
    → AnswersGoodWatch known workers rows items names seen old new status
unfolding refused_whole
answers_refused known workers rows items names seen old new status refusal first refuses cause disk damaged = record {
  names_first = first;
  ends = inl (refused_whole names seen (over known old old) (over known old new) status refusal refuses cause disk);
  damaged = damaged;
}

-- ---- before the archive was touched

module _ (known : Option KnownArchive) (workers rows : ℕ) (items : List Item) (names : List (List ℕ)) (seen : Outside) (d : DiskState) (law : IsLawful d) (status : ℕ) where
  abbrev told : DiskState
  told = over known d d

  at_once : (refusal : Refusal) → RefusesSoon seen status refusal → RefusesAtOnce seen d d status refusal
  at_once refusal soon = record { soon = soon; bytes = KeepsBytes-same d; ranges = refl; faults = refl }

  refused_soon : (refusal : AddRefusal) → RefusesSoon seen status (of_add refusal) → HasCallCause names told told refusal → RefusesIngest names seen told told status
  refused_soon refusal soon cause = refused_whole names seen told told status refusal soon.refuses cause (same_nothing told (told_lawful (are_of known d.seen) d law))

  -- the names alone are refused
  pub names_refused : (refusal : AddRefusal) → RefusesNames names (Some refusal) → RefusesSoon seen status (of_add refusal) → AnswersGoodWatch known workers rows items names seen d d status
  unfolding refused_soon refused_whole
  names_refused refusal refused soon = record {
    names_first = λ other is. inl (subst (λ (r : AddRefusal). RefusesAtOnce seen d d status (of_add r)) (one_refusal names refusal other refused is) (at_once (of_add refusal) soon));
    ends = inl (refused_soon refusal soon (names_cause names told told refusal refused));
    damaged = names_damage names d d refusal refused;
  }

  -- there was no memory
  pub memory_ended : RefusesSoon seen status (of_add AddRefusal.OutOfMemory) → AnswersGoodWatch known workers rows items names seen d d status
  unfolding refused_soon refused_whole
  memory_ended soon = record {
    names_first = λ refusal refused. inr (at_once (of_add AddRefusal.OutOfMemory) soon);
    ends = inl (refused_soon AddRefusal.OutOfMemory soon tt);
    damaged = tt;
  }

  -- nor was there for the pattern, which is one
  pub pattern_refused : (text : List ℕ) (refusal : PatternRefusal) → IsPatternRefusal text refusal → ((at : ℕ) → IsLoneBackslash text at → ⊥) → RefusesSoon seen status (of_pattern refusal)
      → AnswersGoodWatch known workers rows items names seen d d status
  pattern_refused text (ReadBadPattern place) is none soon = absurd (none place is)
  pattern_refused text ReadOutOfMemory is none soon = memory_ended soon

-- the pattern of a text is one
pub pattern_same : (text : List ℕ) (a b : List Item) (known : Option KnownArchive) (workers rows : ℕ) (names : List (List ℕ)) (seen : Outside) (old new : DiskState) (status : ℕ) → IsSearchPattern text a → IsSearchPattern text b
    → AnswersGoodWatch known workers rows a names seen old new status → AnswersGoodWatch known workers rows b names seen old new status
pattern_same text a b known workers rows names seen old new status is_a is_b answers =
    subst (λ (items : List Item). AnswersGoodWatch known workers rows items names seen old new status) (IsSearchPattern-unique text a b is_a is_b) answers
