-- Why a pattern was refused, and what that answers.
use Rattle.std.proofs.Common.{◌≡◌, refl, subst, ℕ, List, inl, inr, Result, Err}
use Rattle.wild_match.specs.Reading.{IsLoneBackslash}
use Rattle.wild_match.specs.declared.read.PatternRefusal.{PatternRefusal}
use Rattle.wild_match.specs.declared.read.PatternRefusal.TheVariants.{BadPattern as ReadBadPattern, OutOfMemory as ReadOutOfMemory}
use Rattle.wild_match.proofs.Spelling.{one-lone-backslash}
use Rattle.command_refusals.specs.Outside.{Outside}
use Rattle.command_refusals.specs.Outcome.{of_pattern}
use Rattle.command_refusals.specs.Refusal.{status_of, line_of}
use Rattle.command_refusals.specs.Ending.{IsPatternRefusal, RefusesAtOnce, RefusesPattern, RefusesPatternAtOnce, RefusesSoon, SaysIn, Stayed, TookNothing}
use Rattle.command_refusals.specs.declared.refusal.Refusal.{Refusal}
use Rattle.command_refusals.specs.declared.refusal.Refusal.TheVariants.{BadPattern}
use Rattle.command_refusals.proofs.GoingLemmas.{KeepsBytes-same}
use Rattle.log_seams.specs.Disk.{DiskState}

-- a pattern that was refused, and has a lone backslash
pub RefusesPattern-from : (seen : Outside) (name : List ℕ) (status : ℕ) (text : List ℕ) (at : ℕ) (refusal : PatternRefusal) → IsPatternRefusal text refusal → IsLoneBackslash text at → status ≡ status_of (of_pattern refusal) → SaysIn seen (line_of name (of_pattern refusal)) → TookNothing seen.out → Stayed seen.out_faults → ((n : List ℕ) → Stayed (seen.opens n)) → ((n : List ℕ) → Stayed (seen.reads n)) → RefusesPattern seen status at
RefusesPattern-from seen name status text at (ReadBadPattern place) is lone s said nothing sink opens reads = inl (record {
  refuses = record { ends = record { status_is = s; said = subst (λ n. SaysIn seen (line_of name (BadPattern n))) (one-lone-backslash text place at is lone) said }; nothing = nothing; sink = sink };
  opens = opens;
  reads = reads;
})
RefusesPattern-from seen name status text at ReadOutOfMemory is lone s said nothing sink opens reads = inr (record { refuses = record { ends = record { status_is = s; said = said }; nothing = nothing; sink = sink }; opens = opens; reads = reads })

-- and the disk is as it was
soon_at_once : (seen : Outside) (disk : DiskState) (status : ℕ) (refusal : Refusal) → RefusesSoon seen status refusal → RefusesAtOnce seen disk disk status refusal
soon_at_once seen disk status refusal soon = record { soon = soon; bytes = KeepsBytes-same disk; ranges = refl; faults = refl }

pub pattern_at_once : (seen : Outside) (disk : DiskState) (status at : ℕ) → RefusesPattern seen status at → RefusesPatternAtOnce seen disk disk status at
pattern_at_once seen disk status at (inl bad) = inl (soon_at_once seen disk status (BadPattern at) bad)
pattern_at_once seen disk status at (inr memory) = inr (soon_at_once seen disk status _ memory)

-- why a pattern was not read
pub pattern_refusal : {T : Type 0} (text : List ℕ) (r : Result T PatternRefusal) (refusal : PatternRefusal) → r ≡ Err refusal → ((at : ℕ) → r ≡ Err (ReadBadPattern at) → IsLoneBackslash text at) → IsPatternRefusal text refusal
pattern_refusal text r (ReadBadPattern at) is bad = bad at is
pattern_refusal text r ReadOutOfMemory is bad = tt
