-- What words ask for.
use Rattle.std.specs.Prelude.{◌≡◌, ◌≢◌, ℕ, ℤ, Bool, true, List, [], Option, Some, map, option_map, codes, Result, Ok, Err}
use Rattle.std.specs.Prelude.{◌↔◌, IsTrue, IfSome, IsSomeAnd}
use Rattle.clap.specs.Walk.{Row, Text, all_of, first_of, rows_of}
use Rattle.clap.specs.Matches.{found_of}
use Rattle.clap.specs.Simple.{subcommand_of}
use Rattle.clap.specs.Words.{takes}
use Rattle.clap.specs.Faults.{fault_of}
use Rattle.clap.specs.declared.parser.matches.ArgMatches.{ArgMatches}
use Rattle.record_format.specs.Header.{IsHeader}
use Rattle.record_format.specs.declared.header.Header.{Header}
use Rattle.clap.specs.declared.error.kind.ErrorKind.{ErrorKind}
use Rattle.clap.specs.declared.error.kind.ErrorKind.TheVariants as kind
use Rattle.command_words.specs.Forms.{clpa}
use Rattle.command_words.specs.Values.{IsGood, IsGoodKey, IsGoodMoment, IsKeyIn, IsMomentIn, IsNumberIn}
use Rattle.command_words.specs.Values.{IsNumberOr, IsWithin}
use Rattle.command_words.specs.declared.command.BenchWords.{BenchWords}
use Rattle.command_words.specs.declared.command.CountKey.{CountKey}
use Rattle.command_words.specs.declared.command.CountWords.{CountWords}
use Rattle.command_words.specs.declared.command.IngestWords.{IngestWords}
use Rattle.command_words.specs.declared.command.SearchWords.{SearchWords}
use Rattle.command_words.specs.declared.command.WordsRefusal.{WordsRefusal}
use Rattle.command_words.specs.declared.command.WordsRefusal.TheVariants.{Usage, OutOfMemory}
use Rattle.command_words.specs.declared.command.Command.{Command}
use Rattle.command_words.specs.declared.command.Command.TheVariants.{Show, Scan, Create, Ingest}
use Rattle.command_words.specs.declared.command.Command.TheVariants.{Files, Check, Decode, Search}
use Rattle.command_words.specs.declared.command.Command.TheVariants.{Bench, Count, Merge, Upgrade}

-- what can be asked for, with its values
pub data Asked : Type 0 where
  -- a file
  to_show : Text → Asked
  -- a pattern and a file
  to_scan : Text → Text → Asked
  to_create : Header → Asked
  -- workers, rows of a segment, the pattern of messages that are printed as they are sealed, files
  to_ingest : ℕ → ℕ → Option Text → List Text → Asked
  to_list : Asked
  to_check : Asked
  -- a file's number
  to_decode : ℕ → Asked
  -- the first and the last moment, whether counts are printed, workers, a pattern
  to_search : Option ℤ → Option ℤ → Bool → ℕ → Text → Asked
  -- what is counted by, the first and the last moment, whether counts of the search are printed, workers,
  -- a pattern
  to_count : CountKey → Option ℤ → Option ℤ → Bool → ℕ → Text → Asked
  to_merge : Asked
  to_upgrade : Asked
  -- a number, lines, workers
  to_bench : ℕ → ℕ → ℕ → Asked

-- the word of the command
abbrev pub name_of : Asked → Text
name_of (to_show file) = codes "show"
name_of (to_scan pattern file) = codes "scan"
name_of (to_create header) = codes "create"
name_of (to_ingest workers segment watch files) = codes "ingest"
name_of to_list = codes "files"
name_of to_check = codes "check"
name_of (to_decode number) = codes "decode"
name_of (to_search from to stats workers pattern) = codes "search"
name_of (to_count by from to stats workers pattern) = codes "count"
name_of to_merge = codes "merge"
name_of to_upgrade = codes "upgrade"
name_of (to_bench number lines workers) = codes "bench"

-- the options of `create` give this header
pub record IsCreate (rows : List Row) (header : Header) : Type 0 where
  pub version : IsNumberOr 1 1 3 (first_of (codes "format") rows) header.version
  pub types : IsNumberOr 16777216 1 2147483648 (first_of (codes "types") rows) header.types_limit
  pub words : IsNumberOr 2147483648 1 2147483648 (first_of (codes "words") rows) header.words_limit
  pub bytes : IsNumberOr 1099511627776 33 1099511627776 (first_of (codes "bytes") rows)
      header.length_limit

-- the options and words of `ingest` give these
pub record IsIngest (rows : List Row) (workers segment : ℕ) (watch : Option Text)
    (files : List Text) : Type 0 where
  pub workers_are : IsNumberOr 1 1 64 (first_of (codes "workers") rows) workers
  pub segment_is : IsNumberOr 65536 1 65536 (first_of (codes "segment") rows) segment
  pub watch_is : first_of (codes "watch") rows ≡ watch
  pub files_are : all_of (codes "file") rows ≡ Some files

-- the options and the word of `search` give these
pub record IsSearch (rows : List Row) (from to : Option ℤ) (stats : Bool) (workers : ℕ)
    (pattern : Text) : Type 0 where
  pub from_is : IsMomentIn (first_of (codes "from") rows) from
  pub to_is : IsMomentIn (first_of (codes "to") rows) to
  pub stats_are : IsTrue stats ↔ (first_of (codes "stats") rows ≡ Some (codes "true"))
  pub workers_are : IsNumberOr 1 1 64 (first_of (codes "workers") rows) workers
  pub pattern_is : first_of (codes "pattern") rows ≡ Some pattern

-- the options and the word of `count` give these
pub record IsCount (rows : List Row) (by : CountKey) (from to : Option ℤ) (stats : Bool)
    (workers : ℕ) (pattern : Text) : Type 0 where
  pub by_is : IsKeyIn (first_of (codes "by") rows) by
  pub from_is : IsMomentIn (first_of (codes "from") rows) from
  pub to_is : IsMomentIn (first_of (codes "to") rows) to
  pub stats_are : IsTrue stats ↔ (first_of (codes "stats") rows ≡ Some (codes "true"))
  pub workers_are : IsNumberOr 1 1 64 (first_of (codes "workers") rows) workers
  pub pattern_is : first_of (codes "pattern") rows ≡ Some pattern

-- the words of `bench` give these
pub record IsBench (rows : List Row) (number lines workers : ℕ) : Type 0 where
  pub number_is : IsNumberIn 0 4294967295 (first_of (codes "number") rows) number
  pub lines_are : IsNumberIn 1 1000000 (first_of (codes "lines") rows) lines
  pub workers_are : IsNumberIn 1 64 (first_of (codes "workers") rows) workers

-- the values that `clap` found for a command are those of what is asked
abbrev pub Gives : List Row → Asked → Type 0
Gives rows (to_show file) = first_of (codes "file") rows ≡ Some file
Gives rows (to_scan pattern file) =
    (first_of (codes "pattern") rows ≡ Some pattern) × (first_of (codes "file") rows ≡ Some file)
Gives rows (to_create header) = IsCreate rows header
Gives rows (to_ingest workers segment watch files) = IsIngest rows workers segment watch files
Gives rows to_list = Unit {0}
Gives rows to_check = Unit {0}
Gives rows (to_decode number) = IsNumberIn 0 4294967295 (first_of (codes "number") rows) number
Gives rows (to_search from to stats workers pattern) = IsSearch rows from to stats workers pattern
Gives rows (to_count by from to stats workers pattern) = IsCount rows by from to stats workers pattern
Gives rows to_merge = Unit {0}
Gives rows to_upgrade = Unit {0}
Gives rows (to_bench number lines workers) = IsBench rows number lines workers

-- The words ask for this: `clap` finds no fault in them, and finds the command with these values.
pub record Asks (words : List Text) (asked : Asked) : Type 0 where
  pub rows : List Row
  pub good : fault_of clpa words ≡ []
  pub found : subcommand_of clpa words ≡ Some (name_of asked, rows)
  pub given : Gives rows asked

-- `clap` takes the words
abbrev pub AreTaken : List Text → Type 0
AreTaken words = takes clpa words ≡ true

-- each number that was found is written as numbers are, and lies in its range; and what is counted by is named
pub record AreGood (rows : List Row) : Type 0 where
  pub format : IsGood 1 3 (first_of (codes "format") rows)
  pub types : IsGood 1 2147483648 (first_of (codes "types") rows)
  pub words : IsGood 1 2147483648 (first_of (codes "words") rows)
  pub bytes : IsGood 33 1099511627776 (first_of (codes "bytes") rows)
  pub workers : IsGood 1 64 (first_of (codes "workers") rows)
  pub segment : IsGood 1 65536 (first_of (codes "segment") rows)
  pub from : IsGoodMoment (first_of (codes "from") rows)
  pub to : IsGoodMoment (first_of (codes "to") rows)
  pub by : IsGoodKey (first_of (codes "by") rows)
  pub number : IsGood 0 4294967295 (first_of (codes "number") rows)
  pub lines : IsGood 1 1000000 (first_of (codes "lines") rows)

-- the values among the words are good
abbrev pub HaveGoodValues : List Text → Type 0
HaveGoodValues words =
    (name : Text) (rows : List Row) → subcommand_of clpa words ≡ Some (name, rows) → AreGood rows

-- ---- the ranges of what is asked

pub record IsIngestInRange (workers segment : ℕ) (files : List Text) : Type 0 where
  pub workers_are : IsWithin 1 64 workers
  pub segment_is : IsWithin 1 65536 segment
  pub some : files ≢ []

pub record IsBenchInRange (number lines workers : ℕ) : Type 0 where
  pub number_is : IsWithin 0 4294967295 number
  pub lines_are : IsWithin 1 1000000 lines
  pub workers_are : IsWithin 1 64 workers

abbrev pub IsInRange : Asked → Type 0
IsInRange (to_show file) = Unit {0}
IsInRange (to_scan pattern file) = Unit {0}
IsInRange (to_create header) = IsHeader header
IsInRange (to_ingest workers segment watch files) = IsIngestInRange workers segment files
IsInRange to_list = Unit {0}
IsInRange to_check = Unit {0}
IsInRange (to_decode number) = IsWithin 0 4294967295 number
IsInRange (to_search from to stats workers pattern) = IsWithin 1 64 workers
IsInRange (to_count by from to stats workers pattern) = IsWithin 1 64 workers
IsInRange to_merge = Unit {0}
IsInRange to_upgrade = Unit {0}
IsInRange (to_bench number lines workers) = IsBenchInRange number lines workers

-- ---- the command as it is answered

abbrev pub ingested : IngestWords → Asked
ingested asked = to_ingest asked.workers asked.segment (option_map (λ s. s.now) asked.watch)
    (map (λ s. s.now) asked.files.items)

abbrev pub searched : SearchWords → Asked
searched asked = to_search asked.from asked.to asked.stats asked.workers asked.pattern.now

abbrev pub counted : CountWords → Asked
counted asked = to_count asked.by asked.from asked.to asked.stats asked.workers asked.pattern.now

abbrev pub benched : BenchWords → Asked
benched asked = to_bench asked.number asked.lines asked.workers

abbrev pub asked_by : Command → Asked
asked_by (Show file) = to_show file.now
asked_by (Scan pattern file) = to_scan pattern.now file.now
asked_by (Create header) = to_create header
asked_by (Ingest asked) = ingested asked
asked_by Files = to_list
asked_by Check = to_check
asked_by (Decode number) = to_decode number
asked_by (Search asked) = searched asked
asked_by (Count asked) = counted asked
asked_by Merge = to_merge
asked_by Upgrade = to_upgrade
asked_by (Bench asked) = benched asked

-- the answer to words that ask for this: it, or want of memory
abbrev pub IsAnswer : Asked → Result Command WordsRefusal → Type 0
IsAnswer asked (Ok command) = asked_by command ≡ asked
IsAnswer asked (Err Usage) = ⊥
IsAnswer asked (Err OutOfMemory) = Unit {0}

-- the values that a parse found
abbrev pub rows_in : ArgMatches → List Row
rows_in matches = rows_of (found_of matches)

-- the name and the values found are those of what is asked
abbrev pub IsFor : Text → List Row → Asked → Type 0
IsFor name rows asked = (name_of asked ≡ name) × Gives rows asked

-- the command that these give, and none exactly where they give none
pub record IsReading (name : Text) (rows : List Row) (read : Option Command) : Type 0 where
  pub some : IfSome read (λ command. IsFor name rows (asked_by command))
  pub all : (asked : Asked) → IsFor name rows asked
      → IsSomeAnd read (λ command. asked_by command ≡ asked)

-- why words are refused, by the kind of the error of `clap`
abbrev pub refusal_by : ErrorKind → WordsRefusal
refusal_by kind.OutOfMemory = OutOfMemory
refusal_by _ = Usage

-- what a parse found is the command of this, with its values
abbrev pub IsFound : Option (Text × List Row) → Asked → Type 0
IsFound found asked = (rows : List Row) × (found ≡ Some (name_of asked, rows)) × Gives rows asked
