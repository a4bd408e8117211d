-- The counts of a page, and what its bytes must be.
use Rattle.std.proofs.Common.{◌≡◌, ◌<◌, ℕ, ◌+◌, ◌*◌, ◌^◌, List, ◌++◌, length, map, take, drop, get_or, sum, All, sym, ap, ◌∙◌, arith}
use Rattle.std.specs.List.{flat_map, range_with_len}
use Rattle.std.proofs.lemmas.List.{length-map, take_at, drop_at, drop-drop}
use Rattle.std.proofs.lemmas.List.FromFn.{length-map-range_with_len, get_or-map-range_with_len, map-range_with_len_more}
use Rattle.std.proofs.lemmas.List.Sums.{sum_by_push, sum-map}
use Rattle.byteorder.specs.Endian.{little_number}
use Rattle.byteorder.specs.Numbers.{little_from-lt}
use Rattle.record_format.specs.Lists.{four_bytes}
use Rattle.record_format.proofs.NumberLemmas.{IsBytes, IsBytes-drop}
use Rattle.record_format.proofs.ListLemmas.{length-four_bytes}
use Rattle.column_store.specs.declared.row.Row.{Row}
use Rattle.column_store.specs.Row.{variable_count}
use Rattle.segment_format.specs.Layout.{eight_bytes, moment_bytes, fields_bytes}
use Rattle.segment_format.specs.Spelled.{AreColumnsIn}
use Rattle.segment_format.specs.Pages.{Pages, page_rows, IsPage}
use Rattle.segment_format.proofs.ColumnLemmas.{numbers_spelled}
use Rattle.segment_format.proofs.FixedLemmas.{length-moment_bytes}
use Rattle.segment_format.proofs.UniqueLemmas.{numbers_tell, length_column, column_once}
use Rattle.segment_format.proofs.RowsLemmas.{length-columns_bytes, below_sum}

-- ---- the sum of counts

-- the numbers of four bytes each
abbrev pub number_at : List ℕ → ℕ → ℕ
number_at bytes k = little_number 4 (drop (4 * k) bytes)

abbrev pub numbers_in : ℕ → List ℕ → List ℕ
numbers_in n bytes = map (number_at bytes) (range_with_len 0 n)

pub number_fits : (bytes : List ℕ) (k : ℕ) → IsBytes bytes → number_at bytes k < 2 ^ 32
number_fits bytes k fits = little_from-lt 0 4 (drop (4 * k) bytes) (IsBytes-drop (4 * k) bytes fits)

pub sum_more : (bytes : List ℕ) (n : ℕ) → sum (numbers_in (n + 1) bytes) ≡ sum (numbers_in n bytes) + number_at bytes n
sum_more bytes n =
    ap sum (map-range_with_len_more (number_at bytes) 0 n n (omega arith)) ∙ sum_by_push (λ x. x) (numbers_in n bytes) (number_at bytes n)

pub numbers_in_are : (bytes : List ℕ) (n : ℕ) → IsBytes bytes → length bytes ≡ 4 * n
    → All (λ k. k < 2 ^ 32) (numbers_in n bytes) × (bytes ≡ flat_map four_bytes (numbers_in n bytes))
numbers_in_are bytes n fits long =
    let count : length (numbers_in n bytes) ≡ n = length-map-range_with_len (number_at bytes) 0 n in
    let at : (k d : ℕ) → k < length (numbers_in n bytes) → get_or (numbers_in n bytes) k d ≡ number_at bytes k =
    λ k d lt. get_or-map-range_with_len (number_at bytes) 0 n k k d (omega (arith, lt, count)) (omega arith) in (
      λ k d lt. omega (arith, at k d lt, number_fits bytes k fits),
      numbers_spelled bytes (numbers_in n bytes) fits (omega (arith, long, count)) (λ k lt. at k 0 lt),
    )

-- ---- the bytes of a page

-- the counts stand behind patterns, moments and log types
pub counts_there : (bytes : List ℕ) (n v : ℕ) (rows : List Row) → AreColumnsIn bytes n v rows
    → take (4 * n) (drop (13 * n) bytes) ≡ flat_map four_bytes (map (λ r. length r.words) rows)
unfolding fields_bytes
counts_there bytes n v rows are =
    let ps : List ℕ = map (λ r. r.pattern) rows in
    let b2 : List ℕ = flat_map moment_bytes (map (λ r. r.moment) rows) in
    let b3 : List ℕ = flat_map four_bytes (map (λ r. r.log_type) rows) in
    let b4 : List ℕ = flat_map four_bytes (map (λ r. length r.words) rows) in
    let b5 : List ℕ = flat_map eight_bytes (flat_map (λ r. r.words) rows) in
    let l1 : length ps ≡ n = length-map rows (λ (r : Row). r.pattern) ∙ are.count in
    let l2 : length b2 ≡ 8 * n = length_column 8 moment_bytes length-moment_bytes (map (λ r. r.moment) rows) ∙ omega (arith, length-map rows (λ (r : Row). r.moment), are.count) in
    let l3 : length b3 ≡ 4 * n = length_column 4 four_bytes length-four_bytes (map (λ r. r.log_type) rows) ∙ omega (arith, length-map rows (λ (r : Row). r.log_type), are.count) in
    let l4 : length b4 ≡ 4 * n = length_column 4 four_bytes length-four_bytes (map (λ r. length r.words) rows) ∙ omega (arith, length-map rows (λ (r : Row). length r.words), are.count) in
    let d1 : drop n bytes ≡ b2 ++ (b3 ++ (b4 ++ b5)) = ap (drop n) are.spelled ∙ drop_at ps (b2 ++ (b3 ++ (b4 ++ b5))) n l1 in
    let d2 : drop (8 * n) (drop n bytes) ≡ b3 ++ (b4 ++ b5) = ap (drop (8 * n)) d1 ∙ drop_at b2 (b3 ++ (b4 ++ b5)) (8 * n) l2 in
    let d3 : drop (4 * n) (drop (8 * n) (drop n bytes)) ≡ b4 ++ b5 = ap (drop (4 * n)) d2 ∙ drop_at b3 (b4 ++ b5) (4 * n) l3 in
    let places : n + 8 * n + 4 * n ≡ 13 * n = omega arith in
    let whole : drop (13 * n) bytes ≡ drop (4 * n) (drop (8 * n) (drop n bytes)) =
    ap (λ (k : ℕ). drop k bytes) (sym places) ∙ sym (drop-drop (4 * n) (n + 8 * n) bytes) ∙ ap (drop (4 * n)) (sym (drop-drop (8 * n) n bytes)) in
    ap (take (4 * n)) (whole ∙ d3) ∙ take_at b4 b5 (4 * n) l4

-- numbers that the counts of a page spell add up to its variables
pub counts_sum : (bytes : List ℕ) (n v : ℕ) (rows : List Row) (ns : List ℕ) → v < 2 ^ 32 → AreColumnsIn bytes n v rows → All (λ k. k < 2 ^ 32) ns
    → take (4 * n) (drop (13 * n) bytes) ≡ flat_map four_bytes ns → sum ns ≡ v
counts_sum bytes n v rows ns small are fit spelled =
    let counts : List ℕ = map (λ r. length r.words) rows in
    let total : sum counts ≡ v = sum-map (λ r. length r.words) rows ∙ are.variables in
    let same : flat_map four_bytes ns ≡ flat_map four_bytes counts = sym spelled ∙ counts_there bytes n v rows are in
    let long : length ns ≡ length counts = omega (arith, ap (λ (l : List ℕ). length l) same, length_column 4 four_bytes length-four_bytes ns, length_column 4 four_bytes length-four_bytes counts) in
    ap sum (column_once 4 four_bytes (λ k. k < 2 ^ 32) numbers_tell ns counts fit (below_sum counts (omega (arith, total, small))) long same) ∙ total

pub counts_fit : (bytes : List ℕ) (n v : ℕ) (rows : List Row) → v < 2 ^ 32 → AreColumnsIn bytes n v rows
    → All (λ k. k < 2 ^ 32) (map (λ r. length r.words) rows) × (sum (map (λ r. length r.words) rows) ≡ v)
counts_fit bytes n v rows small are =
    let total : sum (map (λ r. length r.words) rows) ≡ v = sum-map (λ r. length r.words) rows ∙ are.variables in
    (below_sum (map (λ r. length r.words) rows) (omega (arith, total, small)), total)

pub page_length : (p : Pages) (bytes : List ℕ) (rows : List Row) → IsPage p bytes rows → length bytes ≡ 17 * page_rows p + 8 * variable_count rows
page_length p bytes rows is =
    ap (λ (l : List ℕ). length l) is.columns.spelled ∙ length-columns_bytes rows ∙ ap (λ (k : ℕ). 17 * k + 8 * variable_count rows) is.columns.count

pub page_variables : (p : Pages) (bytes : List ℕ) (rows : List Row) → p.variables < 2 ^ 32 → IsPage p bytes rows → variable_count rows < 2 ^ 32
page_variables p bytes rows few is = omega (arith, is.fits.most, few)

-- numbers with one spelling have one sum
pub sums_same : (ns ms : List ℕ) → All (λ k. k < 2 ^ 32) ns → All (λ k. k < 2 ^ 32) ms → flat_map four_bytes ns ≡ flat_map four_bytes ms → sum ns ≡ sum ms
sums_same ns ms fit_ns fit_ms same =
    let long : length ns ≡ length ms = omega (arith, ap (λ (l : List ℕ). length l) same, length_column 4 four_bytes length-four_bytes ns, length_column 4 four_bytes length-four_bytes ms) in
    ap sum (column_once 4 four_bytes (λ k. k < 2 ^ 32) numbers_tell ns ms fit_ns fit_ms long same)
