-- Arrays that were filled from bytes, and the rows that they are of.
use Rattle.std.proofs.Common.{◌≡◌, ◌<◌, ℕ, ◌+◌, ◌*◌, ◌^◌, ℤ, List, [], ◌∷◌, ◌++◌, length, map, take, drop, sum, All, sym, ap, ◌∙◌, arith, length-append}
use Rattle.std.specs.List.{flat_map}
use Rattle.std.specs.Int.{w64}
use Rattle.std.specs.Int.RustNames.{FitsSigned}
use Rattle.std.proofs.lemmas.List.{take-append-drop, length-map}
use Rattle.std.proofs.lemmas.List.Concat.{length-flat_map}
use Rattle.std.proofs.lemmas.List.Elements.{All-nil, All-append, All-head, All-tail, All-map, All-weaker}
use Rattle.std.proofs.lemmas.List.Sums.{sum_by_more_le, sum-map}
use Rattle.record_format.specs.Lists.{four_bytes}
use Rattle.record_format.proofs.ListLemmas.{length-four_bytes}
use Rattle.column_store.specs.declared.row.Row.{Row}
use Rattle.column_store.specs.declared.arrays.Arrays.{Arrays}
use Rattle.column_store.specs.Row.{variable_count, IsRow}
use Rattle.column_store.specs.Columns.{AreArraysOf}
use Rattle.column_store.proofs.RowsLemmas.{lengths_of}
use Rattle.segment_format.specs.Layout.{eight_bytes, moment_bytes, fields_bytes, columns_bytes}
use Rattle.segment_format.specs.Spelled.{AreColumnsIn}
use Rattle.segment_format.specs.StepsColumns.{AreFilled}
use Rattle.segment_format.proofs.FixedLemmas.{length-eight_bytes, length-moment_bytes}
use Rattle.segment_format.proofs.UniqueLemmas.{same_parts, numbers_tell, longs_tell, moments_tell, length_column, column_once}

-- ---- reading

-- bytes that were split in two, and what each part spells
pub spelled_parts : (n : ℕ) (bytes front back a r : List ℕ) → front ≡ take n bytes → back ≡ drop n bytes → front ≡ a → back ≡ r → bytes ≡ a ++ r
spelled_parts n bytes front back a r is_front is_back first others =
    sym (take-append-drop n bytes) ∙ ap (λ (l : List ℕ). l ++ drop n bytes) (sym is_front ∙ first) ∙ ap (λ (l : List ℕ). a ++ l) (sym is_back ∙ others)

pub filled_spelled : (patterns : List ℕ) (moments : List ℤ) (types counts words bytes : List ℕ) → bytes ≡ patterns ++ (flat_map moment_bytes moments
    ++ (flat_map four_bytes types ++ (flat_map four_bytes counts ++ flat_map eight_bytes words))) → bytes ≡ fields_bytes patterns moments types counts words
unfolding fields_bytes
filled_spelled patterns moments types counts words bytes e = e

-- ---- the rows

pub columns_are : (bytes : List ℕ) (n v : ℕ) (a : Arrays) (rows : List Row) → AreFilled a bytes n v → AreArraysOf rows a → All IsRow rows → AreColumnsIn bytes n v rows
columns_are bytes n v a rows filled are fit = record {
  fit = fit;
  count = sym (length-map rows (λ (r : Row). r.pattern)) ∙ sym (ap (λ (l : List ℕ). length l) are.patterns) ∙ filled.as_patterns;
  variables = sym ((lengths_of rows a are).1) ∙ filled.as_words;
  spelled = filled.spelled ∙ (λ i. fields_bytes (are.patterns i) (are.moments i) (are.types i) (are.counts i) (are.words i));
}

pub words_fit : (rows : List Row) → All IsRow rows → All (λ w. w < 2 ^ 64) (flat_map (λ r. r.words) rows)
words_fit [] fit = All-nil (λ w. w < 2 ^ 64)
words_fit (r ∷ rows) fit =
    All-append (λ w. w < 2 ^ 64) r.words (flat_map (λ r. r.words) rows) (All-head IsRow r rows fit).words (words_fit rows (All-tail IsRow r rows fit))

pub below_sum : (counts : List ℕ) → sum counts < 2 ^ 32 → All (λ n. n < 2 ^ 32) counts
below_sum counts small k d lt = omega (arith, small, sum_by_more_le (λ x. x) counts k d lt)

-- five lists are the fields of these rows
pub record AreFields (patterns : List ℕ) (moments : List ℤ) (types counts words : List ℕ) (rows : List Row) : Type 0 where
  pub as_patterns : patterns ≡ map (λ r. r.pattern) rows
  pub as_moments : moments ≡ map (λ r. r.moment) rows
  pub as_types : types ≡ map (λ r. r.log_type) rows
  pub as_counts : counts ≡ map (λ r. length r.words) rows
  pub as_words : words ≡ flat_map (λ r. r.words) rows

pub fields_once : (ps : List ℕ) (ms : List ℤ) (ts cs ws : List ℕ) (rows : List Row) → length ps ≡ length rows → length ms ≡ length rows → length ts ≡ length rows → length cs ≡ length rows
    → length ws ≡ variable_count rows → All (FitsSigned w64) ms → All (λ n. n < 2 ^ 32) ts → All (λ n. n < 2 ^ 32) cs → All (λ w. w < 2 ^ 64) ws → All IsRow rows → variable_count rows < 2 ^ 32
    → fields_bytes ps ms ts cs ws ≡ columns_bytes rows → AreFields ps ms ts cs ws rows
unfolding fields_bytes
fields_once ps ms ts cs ws rows count_ps count_ms count_ts count_cs count_ws fit_ms fit_ts fit_cs fit_ws fit small whole =
    let patterns : List ℕ = map (λ r. r.pattern) rows in
    let moments : List ℤ = map (λ r. r.moment) rows in
    let types : List ℕ = map (λ r. r.log_type) rows in
    let counts : List ℕ = map (λ r. length r.words) rows in
    let words : List ℕ = flat_map (λ r. r.words) rows in
    let long_ps : length ps ≡ length patterns = count_ps ∙ sym (length-map rows (λ (r : Row). r.pattern)) in
    let long_ms : length ms ≡ length moments = count_ms ∙ sym (length-map rows (λ (r : Row). r.moment)) in
    let long_ts : length ts ≡ length types = count_ts ∙ sym (length-map rows (λ (r : Row). r.log_type)) in
    let long_cs : length cs ≡ length counts = count_cs ∙ sym (length-map rows (λ (r : Row). length r.words)) in
    let long_ws : length ws ≡ length words = count_ws ∙ sym (length-flat_map (λ r. r.words) rows) in
    let p1 = same_parts ps patterns _ _ long_ps whole in
    let p2 = same_parts (flat_map moment_bytes ms) (flat_map moment_bytes moments) _ _
    (length_column 8 moment_bytes length-moment_bytes ms ∙ ap (λ (k : ℕ). 8 * k) long_ms ∙ sym (length_column 8 moment_bytes length-moment_bytes moments)) p1.1 in
    let p3 = same_parts (flat_map four_bytes ts) (flat_map four_bytes types) _ _
    (length_column 4 four_bytes length-four_bytes ts ∙ ap (λ (k : ℕ). 4 * k) long_ts ∙ sym (length_column 4 four_bytes length-four_bytes types)) p2.1 in
    let p4 = same_parts (flat_map four_bytes cs) (flat_map four_bytes counts) _ _
    (length_column 4 four_bytes length-four_bytes cs ∙ ap (λ (k : ℕ). 4 * k) long_cs ∙ sym (length_column 4 four_bytes length-four_bytes counts)) p3.1 in
    let total : sum counts ≡ variable_count rows = sum-map (λ r. length r.words) rows in
    record {
      as_patterns = p1.0;
      as_moments = column_once 8 moment_bytes (FitsSigned w64) moments_tell ms moments fit_ms
          (All-map (FitsSigned w64) (λ (r : Row). r.moment) rows (All-weaker IsRow (λ r. FitsSigned w64 r.moment) (λ r is. is.moment) rows fit)) long_ms p2.0;
      as_types = column_once 4 four_bytes (λ n. n < 2 ^ 32) numbers_tell ts types fit_ts
          (All-map (λ n. n < 2 ^ 32) (λ (r : Row). r.log_type) rows (All-weaker IsRow (λ r. r.log_type < 2 ^ 32) (λ r is. is.log_type) rows fit)) long_ts p3.0;
      as_counts = column_once 4 four_bytes (λ n. n < 2 ^ 32) numbers_tell cs counts fit_cs (below_sum counts (omega (arith, total, small))) long_cs p4.0;
      as_words = column_once 8 eight_bytes (λ n. n < 2 ^ 64) longs_tell ws words fit_ws (words_fit rows fit) long_ws p4.1;
    }

-- rows with as many rows and words as were read have the arrays that were read
pub arrays_are : (bytes : List ℕ) (n v : ℕ) (a : Arrays) (rows : List Row) → v < 2 ^ 32 → AreFilled a bytes n v → AreColumnsIn bytes n v rows → AreArraysOf rows a
arrays_are bytes n v a rows small filled are =
    let fields = fields_once a.patterns.items a.moments.items a.types.items a.counts.items a.words.items rows
    (filled.as_patterns ∙ sym are.count) (filled.as_moments ∙ sym are.count) (filled.as_types ∙ sym are.count) (filled.as_counts ∙ sym are.count) (filled.as_words ∙ sym are.variables)
    filled.moments filled.types filled.counts filled.words are.fit (omega (arith, are.variables, small)) (sym filled.spelled ∙ are.spelled) in
    record { patterns = fields.as_patterns; moments = fields.as_moments; types = fields.as_types; counts = fields.as_counts; words = fields.as_words }

-- ---- lengths

pub length-columns_bytes : (rows : List Row) → length (columns_bytes rows) ≡ 17 * length rows + 8 * variable_count rows
unfolding fields_bytes
length-columns_bytes rows =
    let patterns : List ℕ = map (λ r. r.pattern) rows in
    let moments : List ℤ = map (λ r. r.moment) rows in
    let types : List ℕ = map (λ r. r.log_type) rows in
    let counts : List ℕ = map (λ r. length r.words) rows in
    let words : List ℕ = flat_map (λ r. r.words) rows in
    let b2 : List ℕ = flat_map moment_bytes moments in
    let b3 : List ℕ = flat_map four_bytes types in
    let b4 : List ℕ = flat_map four_bytes counts in
    let b5 : List ℕ = flat_map eight_bytes words in
    omega (
      arith,
      length-append patterns (b2 ++ (b3 ++ (b4 ++ b5))),
      length-append b2 (b3 ++ (b4 ++ b5)),
      length-append b3 (b4 ++ b5),
      length-append b4 b5,
      length_column 8 moment_bytes length-moment_bytes moments,
      length_column 4 four_bytes length-four_bytes types,
      length_column 4 four_bytes length-four_bytes counts,
      length_column 8 eight_bytes length-eight_bytes words,
      length-map rows (λ (r : Row). r.pattern),
      length-map rows (λ (r : Row). r.moment),
      length-map rows (λ (r : Row). r.log_type),
      length-map rows (λ (r : Row). length r.words),
      length-flat_map (λ r. r.words) rows,
    )
