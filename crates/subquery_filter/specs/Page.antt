-- What goes along from row to row of a page.
use Rattle.std.specs.Prelude.{ℕ, ℤ, ◌<◌, ◌≤ℤ◌, List, length, slice_index_or}
use Rattle.row_codec.specs.Means.{HasStampText}
use Rattle.subquery_filter.specs.declared.run.Run.{Run}
use Rattle.subquery_filter.specs.declared.filter.Filter.{Filter}
use Rattle.subquery_filter.specs.declared.shared.PageTests.{PageTests}
use Rattle.subquery_filter.specs.declared.shared.Span.{Span}
use Rattle.subquery_filter.specs.declared.shared.StampBits.{StampBits}
use Rattle.subquery_filter.specs.declared.token.Token.{Token}
use Rattle.subquery_filter.specs.Filter.{AreRunStamps, AreStamps, RunMarks, StampMarks}

-- the bits of the span are those of all runs and tokens that stand in a stamp of the pattern with one of its moments
abbrev pub IsSpan : List Token → List Run → ℕ → Span → Type 0
IsSpan tokens runs pattern span =
    (moment : ℤ) (s : List ℕ) → span.least ≤ℤ moment → moment ≤ℤ span.greatest → HasStampText pattern moment s
    → RunMarks runs s span.may.runs × StampMarks tokens s span.may.tokens

-- so it is of each pattern's span
abbrev pub AreMay : List Token → List Run → List Span → Type 0
AreMay tokens runs spans =
    (pattern : ℕ) (d : Span) → pattern < length spans → IsSpan tokens runs pattern (slice_index_or spans pattern d)

-- what goes along is told of the tokens and the runs of the filter
abbrev pub IsPage : Filter → PageTests → Type 0
IsPage f page = AreMay f.tokens.items f.runs.items page.spans

-- the stamps of the pattern with this moment bring no more than these runs, and no more than these tokens
pub record AreStampBits (f : Filter) (pattern : ℕ) (moment : ℤ) (bits : StampBits) : Type 0 where
  pub runs :
      AreRunStamps f.runs.items f.run_stamps.items → (s : List ℕ) → HasStampText pattern moment s
      → RunMarks f.runs.items s bits.runs
  pub tokens :
      AreStamps f.tokens.items f.stamps.items → (s : List ℕ) → HasStampText pattern moment s
      → StampMarks f.tokens.items s bits.tokens
