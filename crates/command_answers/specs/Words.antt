-- What the words of the command line ask for, by what that does with the archive.
use Rattle.std.specs.Prelude.{ℕ, List}
use Rattle.command_words.specs.Asked.{Asked, Asks, to_bench, to_check, to_count, to_create, to_decode, to_ingest, to_list, to_merge, to_scan, to_search, to_show, to_upgrade}

-- the words ask for nothing
abbrev pub IsUsage : List (List ℕ) → Type 0
IsUsage words = (a : Asked) → ¬ Asks words a

-- the words ask for something
abbrev pub AskSomething : List (List ℕ) → Type 0
AskSomething words = (a : Asked) × Asks words a

-- what is asked for works on the archive
abbrev pub UsesArchive : Asked → Type 0
UsesArchive (to_show file) = ⊥
UsesArchive (to_scan pattern file) = ⊥
UsesArchive (to_create header) = Unit {0}
UsesArchive (to_ingest workers segment watch files) = Unit {0}
UsesArchive to_list = Unit {0}
UsesArchive to_check = Unit {0}
UsesArchive (to_decode number) = Unit {0}
UsesArchive (to_search from to stats workers pattern) = Unit {0}
UsesArchive (to_count by from to stats workers pattern) = Unit {0}
UsesArchive to_merge = Unit {0}
UsesArchive to_upgrade = Unit {0}
UsesArchive (to_bench number lines workers) = Unit {0}

-- what is asked for may write to the archive
abbrev pub MayWrite : Asked → Type 0
MayWrite (to_show file) = ⊥
MayWrite (to_scan pattern file) = ⊥
MayWrite (to_create header) = Unit {0}
MayWrite (to_ingest workers segment watch files) = Unit {0}
MayWrite to_list = ⊥
MayWrite to_check = ⊥
MayWrite (to_decode number) = ⊥
MayWrite (to_search from to stats workers pattern) = ⊥
MayWrite (to_count by from to stats workers pattern) = ⊥
MayWrite to_merge = Unit {0}
MayWrite to_upgrade = ⊥
MayWrite (to_bench number lines workers) = Unit {0}

-- what is asked for works on the second archive
abbrev pub UsesSecond : Asked → Type 0
UsesSecond to_merge = Unit {0}
UsesSecond to_upgrade = Unit {0}
UsesSecond _ = ⊥

-- what is asked for may write to the second archive
abbrev pub MayWriteSecond : Asked → Type 0
MayWriteSecond to_upgrade = Unit {0}
MayWriteSecond _ = ⊥

-- the words ask for nothing that works on the second archive
abbrev pub AskNoSecond : List (List ℕ) → Type 0
AskNoSecond words = (a : Asked) → Asks words a → ¬ UsesSecond a

-- the words ask for nothing that may write to the second archive
abbrev pub AskNoWritingSecond : List (List ℕ) → Type 0
AskNoWritingSecond words = (a : Asked) → Asks words a → ¬ MayWriteSecond a

-- the words ask for nothing that works on the archive
abbrev pub AskNoArchive : List (List ℕ) → Type 0
AskNoArchive words = (a : Asked) → Asks words a → ¬ UsesArchive a

-- the words ask for nothing that may write to the archive
abbrev pub AskNoWriting : List (List ℕ) → Type 0
AskNoWriting words = (a : Asked) → Asks words a → ¬ MayWrite a
