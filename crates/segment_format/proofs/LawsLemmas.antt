-- No bytes spell two heads or two lists of rows, and what is written is read back.
use Rattle.std.proofs.Common.{◌≡◌, ◌<◌, ◌≤◌, ℕ, suc, ◌*◌, ◌^◌, ℤ, pos, List, [], ◌∷◌, ◌++◌, Bool, true, false, nat_lt, nat_eq, cond, if◌then◌else◌, not, length, map, filter, get_or, sum, All, refl, sym, ap, ◌∙◌, append_assoc, arith, length-append}
use Rattle.std.specs.List.{flat_map, fold}
use Rattle.std.specs.Int.{w64}
use Rattle.std.specs.Int.RustNames.{FitsSigned}
use Rattle.std.specs.Ordering.{int_cmp, ord_min, ord_max}
use Rattle.std.proofs.lemmas.List.{length-map, drop_at}
use Rattle.std.proofs.lemmas.List.Concat.{length-flat_map}
use Rattle.std.proofs.lemmas.List.Elements.{All-head, All-tail, All-map, All-weaker, All-filter, All-contains, Contains-get_or}
use Rattle.record_format.specs.Lists.{four_bytes}
use Rattle.column_store.specs.declared.row.Row.{Row}
use Rattle.column_store.specs.Row.{variable_count, IsRow}
use Rattle.column_store.proofs.RowsLemmas.{one_list}
use Rattle.segment_format.specs.declared.fixed.Fixed.{Fixed}
use Rattle.segment_format.specs.declared.head.Head.{Head}
use Rattle.segment_format.specs.Layout.{fixed_bytes, fixed_of, head_bytes, head_length, columns_bytes, segment_bytes, head_of, added, sorted_set, stamped_moments, least_of, greatest_of, IsHead, IsNumberSet, IsSegment}
use Rattle.segment_format.specs.Spelled.{HoldsRows}
use Rattle.segment_format.proofs.FixedLemmas.{length-fixed_bytes}
use Rattle.segment_format.proofs.UniqueLemmas.{same_parts, numbers_tell, column_once, fixed_once}
use Rattle.segment_format.proofs.RowsLemmas.{fields_once, words_fit, below_sum, length-columns_bytes}
use Rattle.segment_format.proofs.HeadLemmas.{length_numbers, length-head_bytes}
use Rattle.segment_format.proofs.SetLemmas.{rise_of, up_sorted_set, from_sorted_set}
use Rattle.std.proofs.lemmas.List.Sums.{sum-map}

-- ---- heads

same_list : (ns ms x y : List ℕ) → IsNumberSet ns → IsNumberSet ms → length ns ≡ length ms → flat_map four_bytes ns ++ x ≡ flat_map four_bytes ms ++ y → (ns ≡ ms) × (x ≡ y)
same_list ns ms x y is_ns is_ms long e =
    let parts = same_parts (flat_map four_bytes ns) (flat_map four_bytes ms) x y (length_numbers ns ∙ ap (λ (k : ℕ). 4 * k) long ∙ sym (length_numbers ms)) e in
    (column_once 4 four_bytes (λ n. n < 2 ^ 32) numbers_tell ns ms is_ns.fit is_ms.fit long parts.0, parts.1)

pub heads_once : (g h : Head) (x y : List ℕ) → IsHead g → IsHead h → head_bytes g ++ x ≡ head_bytes h ++ y → (g ≡ h) × (x ≡ y)
heads_once g h x y is_g is_h e =
    let tg : List ℕ = flat_map four_bytes g.types in
    let wg : List ℕ = flat_map four_bytes g.words in
    let th : List ℕ = flat_map four_bytes h.types in
    let wh : List ℕ = flat_map four_bytes h.words in
    let fg : List ℕ = fixed_bytes (fixed_of g) in
    let fh : List ℕ = fixed_bytes (fixed_of h) in
    let p1 = same_parts fg fh ((tg ++ wg) ++ x) ((th ++ wh) ++ y) (length-fixed_bytes (fixed_of g) ∙ sym (length-fixed_bytes (fixed_of h)))
    (sym (append_assoc fg (tg ++ wg) x) ∙ e ∙ append_assoc fh (th ++ wh) y) in
    let f : fixed_of g ≡ fixed_of h = fixed_once (fixed_of g) (fixed_of h) is_g.fixed is_h.fixed p1.0 in
    let p2 = same_list g.types h.types (wg ++ x) (wh ++ y) is_g.types is_h.types (ap (λ (k : Fixed). k.types) f) (sym (append_assoc tg wg x) ∙ p1.1 ∙ append_assoc th wh y) in
    let p3 = same_list g.words h.words x y is_g.words is_h.words (ap (λ (k : Fixed). k.words) f) p2.1 in (
      λ i. record {
        file = (f i).file;
        first = (f i).first;
        rows = (f i).rows;
        last = (f i).last;
        ended = (f i).ended;
        stamped = (f i).stamped;
        least = (f i).least;
        greatest = (f i).greatest;
        types = p2.0 i;
        words = p3.0 i;
        variables = (f i).variables;
      },
      p3.1,
    )

-- ---- columns

pub rows_once : (rows others : List Row) → All IsRow rows → All IsRow others → length rows ≡ length others → variable_count rows < 2 ^ 32 → variable_count others < 2 ^ 32
    → columns_bytes rows ≡ columns_bytes others → rows ≡ others
rows_once rows others fit_rows fit_others long small_rows small_others e =
    let counts : List ℕ = map (λ r. length r.words) rows in
    let total : sum counts ≡ variable_count rows = sum-map (λ r. length r.words) rows in
    let words_long : length (flat_map (λ r. r.words) rows) ≡ variable_count others =
    length-flat_map (λ r. r.words) rows ∙ omega (arith, ap (λ (l : List ℕ). length l) e, length-columns_bytes rows, length-columns_bytes others, long) in
    let are = fields_once (map (λ r. r.pattern) rows) (map (λ r. r.moment) rows) (map (λ r. r.log_type) rows) counts (flat_map (λ r. r.words) rows) others
    (length-map rows (λ (r : Row). r.pattern) ∙ long) (length-map rows (λ (r : Row). r.moment) ∙ long) (length-map rows (λ (r : Row). r.log_type) ∙ long) (length-map rows (λ (r : Row). length r.words) ∙ long) words_long
    (All-map (FitsSigned w64) (λ (r : Row). r.moment) rows (All-weaker IsRow (λ r. FitsSigned w64 r.moment) (λ r is. is.moment) rows fit_rows))
    (All-map (λ n. n < 2 ^ 32) (λ (r : Row). r.log_type) rows (All-weaker IsRow (λ r. r.log_type < 2 ^ 32) (λ r is. is.log_type) rows fit_rows))
    (below_sum counts (omega (arith, total, small_rows))) (words_fit rows fit_rows) fit_others small_others e in
    one_list rows others are.as_patterns are.as_moments are.as_types are.as_counts are.as_words

-- ---- what is written

length_one_of : (less same : Bool) (n m : ℕ) (ms more : List ℕ) → length more ≤ suc (length ms)
    → length (if less then n ∷ (m ∷ ms) else (if same then m ∷ ms else m ∷ more)) ≤ suc (suc (length ms))
length_one_of true same n m ms more le = omega arith
length_one_of false true n m ms more le = omega arith
length_one_of false false n m ms more le = omega (arith, le)

length-added : (n : ℕ) (ms : List ℕ) → length (added n ms) ≤ suc (length ms)
length-added n [] = omega arith
length-added n (m ∷ ms) = length_one_of (nat_lt n m) (nat_eq n m) n m ms (added n ms) (length-added n ms)

length-sorted_set : (ns : List ℕ) → length (sorted_set ns) ≤ length ns
length-sorted_set [] = omega arith
length-sorted_set (n ∷ ns) = omega (arith, length-added n (sorted_set ns), length-sorted_set ns)

types_are : (rows : List Row) → All IsRow rows → length rows < 2 ^ 32 → IsNumberSet (sorted_set (map (λ r. r.log_type) rows))
types_are rows fit few =
    let types : List ℕ = map (λ r. r.log_type) rows in
    let all : All (λ n. n < 2 ^ 32) types = All-map (λ n. n < 2 ^ 32) (λ (r : Row). r.log_type) rows (All-weaker IsRow (λ r. r.log_type < 2 ^ 32) (λ r is. is.log_type) rows fit) in
    record {
      rise = rise_of 0 (sorted_set types) (up_sorted_set types);
      fit = λ k d lt. All-contains (λ n. n < 2 ^ 32) types (get_or (sorted_set types) k d) all
          (from_sorted_set types (get_or (sorted_set types) k d) (Contains-get_or (sorted_set types) k d lt));
      count = omega (arith, length-sorted_set types, length-map rows (λ (r : Row). r.log_type), few);
    }

picked_fits : (b : Bool) (x y : ℤ) → FitsSigned w64 x → FitsSigned w64 y → FitsSigned w64 (cond b x y)
picked_fits true x y fit_x fit_y = fit_x
picked_fits false x y fit_x fit_y = fit_y

fold_fits : (f : ℤ → ℤ → ℤ) → ((x y : ℤ) → FitsSigned w64 x → FitsSigned w64 y → FitsSigned w64 (f x y)) → (m : ℤ) (ms : List ℤ) → FitsSigned w64 m → All (FitsSigned w64) ms
    → FitsSigned w64 (fold f m ms)
fold_fits f each m [] fit all = fit
fold_fits f each m (x ∷ ms) fit all = fold_fits f each (f m x) ms (each m x fit (All-head (FitsSigned w64) x ms all)) (All-tail (FitsSigned w64) x ms all)

zero_fits : FitsSigned w64 (pos 0)
zero_fits = search arith

least_fits : (ms : List ℤ) → All (FitsSigned w64) ms → FitsSigned w64 (least_of ms)
least_fits [] all = zero_fits
least_fits (m ∷ ms) all =
    fold_fits (ord_min int_cmp) (λ x y fit_x fit_y. picked_fits _ y x fit_y fit_x) m ms (All-head (FitsSigned w64) m ms all) (All-tail (FitsSigned w64) m ms all)

greatest_fits : (ms : List ℤ) → All (FitsSigned w64) ms → FitsSigned w64 (greatest_of ms)
greatest_fits [] all = zero_fits
greatest_fits (m ∷ ms) all =
    fold_fits (ord_max int_cmp) (λ x y fit_x fit_y. picked_fits _ x y fit_x fit_y) m ms (All-head (FitsSigned w64) m ms all) (All-tail (FitsSigned w64) m ms all)

stamped_fit : (rows : List Row) → All IsRow rows → All (FitsSigned w64) (stamped_moments rows)
stamped_fit rows fit =
    let p : Row → Bool = λ r. not (nat_eq r.pattern 0) in
    All-map (FitsSigned w64) (λ (r : Row). r.moment) (filter p rows)
    (All-weaker IsRow (λ r. FitsSigned w64 r.moment) (λ r is. is.moment) (filter p rows) (All-filter p IsRow rows fit))

pub read_back : (file first : ℕ) (last ended : Bool) (rows : List Row) (words : List ℕ) → file < 2 ^ 32 → first < 2 ^ 64 → All IsRow rows → length rows < 2 ^ 32
    → variable_count rows < 2 ^ 32 → IsNumberSet words
    → IsHead (head_of file first last ended rows words) × HoldsRows (head_of file first last ended rows words) (segment_bytes file first last ended rows words) rows
read_back file first last ended rows words fits_file fits_first fit few small is_words =
    let h : Head = head_of file first last ended rows words in
    let is_types = types_are rows fit few in
    let stamped = stamped_fit rows fit in
    let long = length-head_bytes h in (
      record {
        fixed = record {
          file = fits_file;
          first = fits_first;
          rows = few;
          least = least_fits (stamped_moments rows) stamped;
          greatest = greatest_fits (stamped_moments rows) stamped;
          types = is_types.count;
          words = is_words.count;
          variables = small;
        };
        types = is_types;
        words = is_words;
      },
      record {
        front = omega (arith, long, length-append (head_bytes h) (columns_bytes rows));
        behind = record { fit = fit; count = refl; variables = refl; spelled = drop_at (head_bytes h) (columns_bytes rows) (head_length (fixed_of h)) long };
      },
    )

pub segments_once : (file first : ℕ) (last ended : Bool) (rows : List Row) (words : List ℕ) (file' first' : ℕ) (last' ended' : Bool) (rows' : List Row) (words' : List ℕ)
    → IsSegment file first last ended rows words → IsSegment file' first' last' ended' rows' words'
    → segment_bytes file first last ended rows words ≡ segment_bytes file' first' last' ended' rows' words'
    → (file ≡ file') × (first ≡ first') × (last ≡ last') × (ended ≡ ended') × (rows ≡ rows') × (words ≡ words')
segments_once file first last ended rows words file' first' last' ended' rows' words' is is' e =
    let g : Head = head_of file first last ended rows words in
    let h : Head = head_of file' first' last' ended' rows' words' in
    let is_g : IsHead g = (read_back file first last ended rows words is.as_file is.as_first is.fit is.count is.variables is.set).0 in
    let is_h : IsHead h = (read_back file' first' last' ended' rows' words' is'.as_file is'.as_first is'.fit is'.count is'.variables is'.set).0 in
    let same = heads_once g h (columns_bytes rows) (columns_bytes rows') is_g is_h e in
    let heads : g ≡ h = same.0 in
    let count : length rows ≡ length rows' = ap (λ (x : Head). x.rows) heads in (
      ap (λ (x : Head). x.file) heads,
      ap (λ (x : Head). x.first) heads,
      ap (λ (x : Head). x.last) heads,
      ap (λ (x : Head). x.ended) heads,
      rows_once rows rows' is.fit is'.fit count is.variables is'.variables same.1,
      ap (λ (x : Head). x.words) heads,
    )
