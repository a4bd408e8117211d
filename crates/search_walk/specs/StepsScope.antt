-- What a search goes over.
use Rattle.std.specs.Prelude.{◌≡◌, ℕ, List, length, Option, slice_get}
use Rattle.archive_open.specs.declared.files.FileEntry.{FileEntry}
use Rattle.row_codec.specs.Laid.{AreCut}
use Rattle.query_plan.specs.Laws.{IsSearched}
use Rattle.query_plan.specs.Needs.{needed_variables_of}
use Rattle.query_plan.specs.Pieces.{Free, needed_of, wide_pieces}
use Rattle.subquery_filter.specs.declared.asking.AskedTypes.{AskedTypes}
use Rattle.subquery_filter.specs.declared.filter.Filter.{Filter}
use Rattle.subquery_filter.specs.Asking.{AreConstants, HasRejected}
use Rattle.subquery_filter.specs.Filter.{IsFilter}
use Rattle.subquery_filter.specs.Found.{AreNumbers}
use Rattle.search_walk.specs.Held.{IsTold, Named}
use Rattle.search_meaning.specs.Scan.{Asked}

-- what the numbers of rows stand for, what is asked, and the files of the archive
pub record Scope : Type 0 where
  pub names : Named
  pub query : Asked
  pub files : List FileEntry

abbrev pub scope : Named → Asked → List FileEntry → Scope
scope names query files = record { names = names; query = query; files = files }

-- the filter is that of the query over these log types and words, and holds each log type that it does not reject
pub record IsFilterOf (n : Named) (q : Asked) (filter : Filter) : Type 0 where
  pub is : IsFilter (wide_pieces q.pattern) n.types n.words filter
  pub kept : (t : ℕ) → ¬ HasRejected filter t → slice_get n.kept.texts t ≡ slice_get n.types t

-- The pattern is one that was read, and each layout is that of the held log type with its number. The filter, and what constants
-- tell, are those of the query over the log types and words that stand on the disk, of which the needed words have these numbers.
pub record IsScope (n : Named) (q : Asked) (layouts : List (List ℕ)) (asked : AskedTypes) (found : List (Option ℕ)) : Type 0 where
  pub searched : IsSearched q.pattern
  pub layouts_are : AreCut layouts n.kept.texts
  pub count : length found ≡ length (needed_of Free (wide_pieces q.pattern))
  pub filtered : IsTold n → IsFilterOf n q asked.filter
  pub constants_are : IsTold n → AreConstants (wide_pieces q.pattern) n.types asked.constants.items
  pub numbered : IsTold n
      → AreNumbers n.words (needed_of Free (wide_pieces q.pattern)) (needed_variables_of Free (wide_pieces q.pattern)) found
