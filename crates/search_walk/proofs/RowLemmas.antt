-- What a row's message is told.
use Rattle.std.proofs.Common.{◌≡◌, ℕ, suc, ◌+◌, List, [], ◌∷◌, length, drop, Some, refl, sym, ◌∙◌, ap₂, subst, arith}
use Rattle.std.specs.Prelude.{slice_get}
use Rattle.std.proofs.lemmas.Option.{get_or_from_slice_get, slice_get_within}
use Rattle.std.proofs.Math.Seq.{drop-cons}
use Rattle.column_store.specs.Range.{Holds}
use Rattle.column_store.specs.declared.range.Range.{Range}
use Rattle.column_store.specs.declared.row.Row.{Row}
use Rattle.time_patterns.proofs.VersionLemmas.{one_stamp_of}
use Rattle.row_codec.specs.Means.{HasSpelling, IsCanonical}
use Rattle.row_codec.proofs.MeansLemmas.{meaning_is_spelling}
use Rattle.search_meaning.specs.Scan.{IsInRange}
use Rattle.search_walk.specs.Held.{AreRowsOf, Named}

-- the range of a message is that of its row
pub in_range : (version : ℕ) (range : Range) (row : Row) (types words : List (List ℕ)) (message : List ℕ) → IsCanonical version row types words message → Holds range row.pattern row.moment → IsInRange version range message
in_range version range row types words message is holds = (row.pattern, row.moment, length is.means.stamp, is.stamp, holds)

pub of_range : (version : ℕ) (range : Range) (row : Row) (types words : List (List ℕ)) (message : List ℕ) → IsCanonical version row types words message → IsInRange version range message → Holds range row.pattern row.moment
of_range version range row types words message is inside =
    let same = one_stamp_of version message row.pattern inside.0 row.moment inside.1 (length is.means.stamp) inside.2 is.stamp inside.3 in
    subst (λ k. Holds range k row.moment) (sym same.0) (subst (λ m. Holds range inside.0 m) (sym same.1) inside.4)

pub has_spelling : (version : ℕ) (row : Row) (types words : List (List ℕ)) (message : List ℕ) → IsCanonical version row types words message → HasSpelling row types words
has_spelling version row types words message is = (message, meaning_is_spelling row types words message is.means)

-- ---- the rows of a page

pub drop_here : (rows : List Row) (k : ℕ) (row : Row) → slice_get rows k ≡ Some row → drop k rows ≡ row ∷ drop (k + 1) rows
drop_here rows k row is =
    let next : suc k ≡ k + 1 = omega arith in
    drop-cons rows k row (slice_get_within rows k row is) ∙ ap₂ (λ (r : Row) (n : ℕ). r ∷ drop n rows) (get_or_from_slice_get rows k row row is) next

-- the message of the next row, and those of the others
pub record HasNextRow (n : Named) (row : Row) (others : List Row) (messages : List (List ℕ)) : Type 0 where
  pub message : List ℕ
  pub left : List (List ℕ)
  pub all : messages ≡ message ∷ left
  pub is : IsCanonical n.version row n.types n.words message
  pub are : AreRowsOf n others left

pub first_row : (n : Named) (row : Row) (others : List Row) (messages : List (List ℕ)) → AreRowsOf n (row ∷ others) messages → HasNextRow n row others messages
first_row n row others [] are = absurd are.are
first_row n row others (m ∷ messages) are = record { message = m; left = messages; all = refl; is = are.are.0; are = record { told = are.told; are = are.are.1 } }

pub next_row : (n : Named) (rows : List Row) (k : ℕ) (row : Row) (messages : List (List ℕ)) → slice_get rows k ≡ Some row → AreRowsOf n (drop k rows) messages → HasNextRow n row (drop (k + 1) rows) messages
next_row n rows k row messages is are = first_row n row (drop (k + 1) rows) messages (subst (λ l. AreRowsOf n l messages) (drop_here rows k row is) are)

pub none_left : (n : Named) (rows : List Row) (messages : List (List ℕ)) → rows ≡ [] → AreRowsOf n rows messages → messages ≡ []
none_left n rows [] none are = refl
none_left n rows (m ∷ messages) none are = absurd (subst (λ l. AreRowsOf n l (m ∷ messages)) none are).are
