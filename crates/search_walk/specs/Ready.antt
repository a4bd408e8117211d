-- What was decided of rows before they are searched, and that the words are held by which they are written.
use Rattle.std.specs.Prelude.{◌≡◌, ◌≢◌, ◌++◌, ℕ, List, All}
use Rattle.std.specs.List.{AllZip}
use Rattle.column_store.specs.Range.{Holds}
use Rattle.column_store.specs.declared.row.Row.{Row}
use Rattle.wild_match.specs.Matches.{Match}
use Rattle.row_codec.specs.Means.{IsCanonical, IsSpelling}
use Rattle.row_codec.specs.Numbers.{numbers_of_row}
use Rattle.query_plan.specs.Pieces.{wide}
use Rattle.subquery_filter.specs.declared.verdicts.Verdict.{Verdict}
use Rattle.subquery_filter.specs.declared.verdicts.Verdict.TheVariants.{Rejected, Certain, Tried}
use Rattle.word_places.specs.declared.held.HeldRecord.{HeldRecord}
use Rattle.word_places.specs.Held.{AreHeld, AreNumbered, HeldNames, RightTold, kept_of, lends, places_of}
use Rattle.word_places.specs.Local.{Agree, HaveType}
use Rattle.search_meaning.specs.Scan.{Asked, IsTried}
use Rattle.search_walk.specs.Held.{IsTold, Named}

-- the log type of a row is held as it stands on the disk
abbrev pub IsOpen : Named → Row → Type 0
IsOpen n row = HaveType row n.kept.texts n.types

-- What is told of a row by its numbers and its moment: no message of it is expanded; or it lies in the range, and its log type is
-- held; and the wider pattern matches what it is written as.
abbrev pub IsDecided : Named → Asked → Row → Verdict → Type 0
IsDecided n q row Rejected = (message : List ℕ) → IsCanonical n.version row n.types n.words message
    → ¬ IsTried n.version q message
IsDecided n q row Certain = Holds q.range row.pattern row.moment
    × ((message : List ℕ) → IsSpelling row n.types n.words message → Match (wide q.pattern) message) × IsOpen n row
IsDecided n q row Tried = Holds q.range row.pattern row.moment × IsOpen n row

-- no message of a row of this log type is expanded, whatever else the row has
abbrev pub IsRuledOut : Named → Asked → ℕ → Type 0
IsRuledOut n q t = (row : Row) → row.log_type ≡ t → IsDecided n q row Rejected

-- of these log types all behind the first ones are ruled out
pub record KeepsFirst (n : Named) (q : Asked) (types kept : List ℕ) : Type 0 where
  pub others : List ℕ
  pub all : types ≡ kept ++ others
  pub ruled : IsTold n → All (IsRuledOut n q) others

-- what is told of each row of a page is right, where the words stand on the disk
abbrev pub AreDecided : Named → Asked → List Row → List Verdict → Type 0
AreDecided n q rows verdicts = AllZip (λ row v. IsTold n → IsDecided n q row v) rows verdicts

-- what is told of a row is right, and the words of one that may have to be written are held
pub record IsReady (n : Named) (q : Asked) (records : List HeldRecord) (row : Row) (verdict : Verdict) : Type 0 where
  pub decided : IsTold n → IsDecided n q row verdict
  pub held : verdict ≢ Rejected → AreHeld records (numbers_of_row n.kept.texts row)

-- the words of a row are held, if it may have to be written
abbrev pub IsHeldFor : HeldNames → Row → Verdict → Type 0
IsHeldFor held row verdict = verdict ≢ Rejected → AreHeld held.records (numbers_of_row held.types row)

-- the same of each row of a page
abbrev pub AreHeldFor : HeldNames → List Row → List Verdict → Type 0
AreHeldFor held rows verdicts = AllZip (IsHeldFor held) rows verdicts

-- the log types and the words that are held are those of the names
pub record Serves (n : Named) (held : HeldNames) : Type 0 where
  pub kept : kept_of held ≡ n.kept
  pub places : places_of held.records ≡ n.places
  pub numbered : AreNumbered 0 held.records
  pub right : RightTold n.told held.records

-- a row may be written by the log types and the words that are held
pub record IsLent (n : Named) (q : Asked) (held : HeldNames) (row : Row) (verdict : Verdict) : Type 0 where
  pub types : held.types ≡ n.kept.texts
  pub decided : IsDecided n q row verdict
  pub agree : verdict ≢ Rejected → Agree (numbers_of_row n.kept.texts row) n.words (lends held.records)

-- the rows of a page may be
pub record IsReadyPage (n : Named) (q : Asked) (held : HeldNames) (rows : List Row) (verdicts : List Verdict) : Type 0 where
  pub serves : Serves n held
  pub each : AllZip (IsReady n q held.records) rows verdicts
