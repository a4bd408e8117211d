-- What `check` prints: the counts of a legal archive.
use Rattle.std.specs.Prelude.{◌≡◌, ℕ, List, [], ◌∷◌, ◌++◌, Option, IfSome, Result, Ok, Err, codes}
use Rattle.std.specs.Fmt.{decimal}
use Rattle.check_meaning.specs.Checked.{Stood}
use Rattle.check_meaning.specs.declared.summary.Summary.{Summary}
use Rattle.sink_pieces.specs.Output.{Grew, GrewByFront}
use Rattle.command_refusals.specs.declared.outcome.ReadRefusal.{ReadRefusal}
use Rattle.command_refusals.specs.declared.outcome.ReadRefusal.TheVariants.{Damaged, DiskFault, SinkFault, OutOfMemory}

-- how many records the archive has, how many files, and how many messages
abbrev pub counts_line : Summary → List ℕ
counts_line s =
    codes "entries " ++ (decimal s.entries ++ (codes " files " ++ (decimal s.files
    ++ (codes " messages " ++ (decimal s.messages ++ 10 ∷ [])))))

-- where the bytes are told, they stand for a journal with these counts, and the output took their line or a front of it
pub record Counts (Took : Option (List ℕ) → Option (List ℕ) → List ℕ → Type 0) (bytes old new : Option (List ℕ)) : Type 0 where
  pub summary : Summary
  pub stood : IfSome bytes (Stood summary)
  pub took : Took old new (counts_line summary)

-- What the output took when `check` ends with this answer: the line, a front of it where the output failed, or nothing.
abbrev pub PrintsCounts : Result Unit ReadRefusal → Option (List ℕ) → Option (List ℕ) → Option (List ℕ) → Type 0
PrintsCounts (Ok _) bytes old new = Counts Grew bytes old new
PrintsCounts (Err SinkFault) bytes old new = Counts GrewByFront bytes old new
PrintsCounts (Err DiskFault) bytes old new = new ≡ old
PrintsCounts (Err (Damaged at)) bytes old new = new ≡ old
PrintsCounts (Err OutOfMemory) bytes old new = new ≡ old
