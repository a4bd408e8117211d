-- Which words of a page are those of a row.
use Rattle.std.proofs.Common.{◌≡◌, ◌≤◌, ℕ, zero, suc, ◌+◌, ◌-◌, List, [], ◌∷◌, length, map, take, drop, refl, sym, ◌∙◌, ap, subst, arith}
use Rattle.std.specs.Prelude.{Some, Option, pos, option_map, slice_get, slice_range}
use Rattle.std.specs.List.{flat_map}
use Rattle.std.proofs.Math.Seq.{drop-append-add, take-append_seam}
use Rattle.std.proofs.lemmas.List.Concat.{flat_map-cons}
use Rattle.std.proofs.lemmas.Option.{slice_get-map}
use Rattle.column_store.specs.Columns.{ends_from}
use Rattle.column_store.specs.declared.row.Row.{Row}
use Rattle.subquery_filter.specs.declared.filter.Filter.{Filter}
use Rattle.subquery_filter.specs.Filter.{NoneCounts}

-- one for a place that no row has
pub no_row : Row
no_row = record { pattern = 0; moment = pos 0; log_type = 0; words = [] }

pub one_row : (o : Option Row) (a b : Row) → o ≡ Some a → o ≡ Some b → a ≡ b
one_row o a b one two = cc (one, two)

-- how many words stand before a row
abbrev pub before : ℕ → List Row → ℕ
before zero rows = 0
before (suc k) [] = 0
before (suc k) (r ∷ rows) = length r.words + before k rows

pub before_next : (rows : List Row) (k : ℕ) (row : Row) → slice_get rows k ≡ Some row → before (k + 1) rows ≡ before k rows + length row.words
before_next [] k row is = absurd (cc is)
before_next (r ∷ rows) zero row is = let same : r ≡ row = cc is in omega (arith, ap (λ (x : Row). length x.words) same)
before_next (r ∷ rows) (suc k) row is =
    let next : suc k + 1 ≡ suc (k + 1) = omega arith in
    let rest = before_next rows k row is in
    ap (λ (n : ℕ). before n (r ∷ rows)) next ∙ (let e : length r.words + before (k + 1) rows ≡ length r.words + before k rows + length row.words = omega (arith, rest) in e)

-- where the words of a row end
ends_at : (from : ℕ) (rows : List Row) (k end : ℕ) (row : Row) → slice_get rows k ≡ Some row → slice_get (ends_from from rows) k ≡ Some end → end ≡ from + before k rows + length row.words
ends_at from [] k end row is at = absurd (cc is)
ends_at from (r ∷ rows) zero end row is at =
    let same : r ≡ row = cc is in
    let here : from + length r.words ≡ end = cc at in
    omega (arith, here, ap (λ (x : Row). length x.words) same)
ends_at from (r ∷ rows) (suc k) end row is at = let rest = ends_at (from + length r.words) rows k end row is at in omega (arith, rest)

pub ends_here : (rows : List Row) (ends : List ℕ) (k end : ℕ) (row : Row) → ends ≡ ends_from 0 rows → slice_get rows k ≡ Some row → slice_get ends k ≡ Some end → end ≡ before k rows + length row.words
ends_here rows ends k end row are is at = let e = ends_at 0 rows k end row is (subst (λ (l : List ℕ). slice_get l k ≡ Some end) are at) in omega (arith, e)

pub ends_long : (from : ℕ) (rows : List Row) → length (ends_from from rows) ≡ length rows
ends_long from [] = refl
ends_long from (r ∷ rows) = ap suc (ends_long (from + length r.words) rows)

-- the words of a row
row_range : (rows : List Row) (k : ℕ) (row : Row) → slice_get rows k ≡ Some row → take (length row.words) (drop (before k rows) (flat_map (λ r. r.words) rows)) ≡ row.words
row_range [] k row is = absurd (cc is)
row_range (r ∷ rows) zero row is =
    let same : r ≡ row = cc is in
    subst (λ (x : Row). take (length x.words) (flat_map (λ r. r.words) (r ∷ rows)) ≡ x.words) same
    (ap (take (length r.words)) (flat_map-cons (λ (x : Row). x.words) r rows) ∙ take-append_seam r.words (flat_map (λ x. x.words) rows))
row_range (r ∷ rows) (suc k) row is =
    ap (λ (l : List ℕ). take (length row.words) (drop (length r.words + before k rows) l)) (flat_map-cons (λ (x : Row). x.words) r rows)
    ∙ ap (take (length row.words)) (drop-append-add r.words (flat_map (λ x. x.words) rows) (before k rows)) ∙ row_range rows k row is

pub row_words : (rows : List Row) (words : List ℕ) (k start end : ℕ) (row : Row) → words ≡ flat_map (λ r. r.words) rows → slice_get rows k ≡ Some row → start ≡ before k rows → end ≡ before k rows + length row.words → row.words ≡ slice_range words start end
row_words rows words k start end row are is from to =
    let count : end - start ≡ length row.words = omega (arith, from, to) in
    sym (ap (λ (n : ℕ). take n (drop start words)) count ∙ ap (λ (n : ℕ). take (length row.words) (drop n words)) from ∙ ap (λ (l : List ℕ). take (length row.words) (drop (before k rows) l)) are ∙ row_range rows k row is)

pub row_type : (rows : List Row) (types : List ℕ) (k t : ℕ) (row : Row) → types ≡ map (λ r. r.log_type) rows → slice_get rows k ≡ Some row → slice_get types k ≡ Some t → row.log_type ≡ t
row_type rows types k t row are is at =
    let there : slice_get (map (λ (r : Row). r.log_type) rows) k ≡ Some row.log_type = slice_get-map (λ (r : Row). r.log_type) rows k ∙ ap (option_map (λ (r : Row). r.log_type)) is in
    let e : Some row.log_type ≡ Some t = sym there ∙ ap (λ (l : List ℕ). slice_get l k) (sym are) ∙ at in
    cc e

-- of fewer words none counts too
pub counts_later : (f : Filter) (words : List ℕ) (start later hit : ℕ) → start ≤ later → NoneCounts f words start hit → NoneCounts f words later hit
counts_later f words start later hit le none k low high lt = none k (omega (arith, le, low)) high lt

pub counts_start : (f : Filter) (words : List ℕ) → NoneCounts f words 0 0
counts_start f words k low high lt = absurd (omega (arith, high))
