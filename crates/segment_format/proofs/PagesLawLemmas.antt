-- A payload's pages one after the other are its columns.
use Rattle.std.proofs.Common.{◌≡◌, ◌≤◌, ◌↔◌, ℕ, zero, suc, ◌+◌, ◌-◌, ◌*◌, ℤ, List, [], ◌∷◌, ◌++◌, length, map, take, drop, All, refl, sym, ap, subst, ◌∙◌, inl, inr, arith, length-append}
use Rattle.std.specs.List.{flat_map}
use Rattle.std.proofs.Math.Seq.{take-add}
use Rattle.std.proofs.lemmas.List.{length-take, length-drop, length-map, take_at, drop_at, take-take, drop-take, drop-drop, take-append-drop, take_all, nil_from_length, map-append}
use Rattle.std.proofs.lemmas.List.Concat.{flat_map-append, flat_map-cons, length-flat_map}
use Rattle.std.proofs.lemmas.List.Elements.{All-nil, All-append, All-take, All-drop}
use Rattle.std.proofs.lemmas.List.Sums.{sum_by-append}
use Rattle.std.proofs.lemmas.Bool.{cases_lt}
use Rattle.record_format.specs.Lists.{four_bytes}
use Rattle.record_format.proofs.ListLemmas.{length-four_bytes}
use Rattle.column_store.specs.declared.row.Row.{Row}
use Rattle.column_store.specs.Row.{variable_count, IsRow}
use Rattle.segment_format.specs.declared.head.Head.{Head}
use Rattle.segment_format.specs.Layout.{eight_bytes, moment_bytes, fields_bytes, columns_bytes, head_length, fixed_of, IsHead}
use Rattle.segment_format.specs.Spelled.{HoldsRows}
use Rattle.segment_format.specs.Pages.{Pages, first_page, HasPages, page_rows, pieces, FitsPage, IsPage, after}
use Rattle.segment_format.specs.Laws.{piece, page_bytes, HoldsPages}
use Rattle.segment_format.proofs.FixedLemmas.{length-eight_bytes, length-moment_bytes}
use Rattle.segment_format.proofs.UniqueLemmas.{same_parts, length_column}
use Rattle.segment_format.proofs.RowsLemmas.{length-columns_bytes}

-- ---- pieces

join : (payload : List ℕ) (at next n m k : ℕ) (a b : List ℕ) → next ≡ at + n → k ≡ n + m → piece at n payload ≡ a → piece next m payload ≡ b → piece at k payload ≡ a ++ b
join payload at next n m k a b is_next is_k first others =
    let rest : drop n (drop at payload) ≡ drop next payload = drop-drop n at payload ∙ ap (λ (j : ℕ). drop j payload) (sym is_next) in
    ap (λ (j : ℕ). take j (drop at payload)) is_k ∙ take-add n m (drop at payload)
    ∙ ap (λ (l : List ℕ). take n (drop at payload) ++ take m l) rest
    ∙ (λ i. first i ++ others i)

split : (payload : List ℕ) (at next n m k : ℕ) (a b : List ℕ) → next ≡ at + n → k ≡ n + m → length a ≡ n → piece at k payload ≡ a ++ b
    → (piece at n payload ≡ a) × (piece next m payload ≡ b)
split payload at next n m k a b is_next is_k long whole =
    let d : List ℕ = drop at payload in
    let rest : drop n d ≡ drop next payload = drop-drop n at payload ∙ ap (λ (j : ℕ). drop j payload) (sym is_next) in
    let both : take (n + m) d ≡ a ++ b = ap (λ (j : ℕ). take j d) (sym is_k) ∙ whole in (
      sym (take-take n (n + m) d (omega arith)) ∙ ap (take n) both ∙ take_at a b n long,
      ap (take m) (sym rest) ∙ sym (drop-take n m d) ∙ ap (drop n) both ∙ drop_at a b n long,
    )

-- ---- what is left of a payload

-- the five columns behind the pages that were read are those of these rows
record RestIs (p : Pages) (payload : List ℕ) (list : List Row) : Type 0 where
  patterns : piece (pieces p).patterns (p.rows - p.row) payload ≡ map (λ r. r.pattern) list
  moments : piece (pieces p).moments (8 * (p.rows - p.row)) payload ≡ flat_map moment_bytes (map (λ r. r.moment) list)
  types : piece (pieces p).types (4 * (p.rows - p.row)) payload ≡ flat_map four_bytes (map (λ r. r.log_type) list)
  counts : piece (pieces p).counts (4 * (p.rows - p.row)) payload ≡ flat_map four_bytes (map (λ r. length r.words) list)
  words : piece (pieces p).variables (8 * (p.variables - p.variable)) payload ≡ flat_map eight_bytes (flat_map (λ r. r.words) list)
  fit : All IsRow list
  count : length list ≡ p.rows - p.row
  total : variable_count list ≡ p.variables - p.variable

-- where a reader may stand in this payload
record Within (p : Pages) (payload : List ℕ) : Type 0 where
  whole : length payload ≡ p.start + 17 * p.rows + 8 * p.variables
  row : p.row ≤ p.rows
  variable : p.variable ≤ p.variables
  done : p.rows ≤ p.row → p.variables ≤ p.variable

-- the five pieces of a page, each for itself
record PiecesAre (p : Pages) (payload : List ℕ) (page : List Row) : Type 0 where
  patterns : piece (pieces p).patterns (page_rows p) payload ≡ map (λ r. r.pattern) page
  moments : piece (pieces p).moments (8 * page_rows p) payload ≡ flat_map moment_bytes (map (λ r. r.moment) page)
  types : piece (pieces p).types (4 * page_rows p) payload ≡ flat_map four_bytes (map (λ r. r.log_type) page)
  counts : piece (pieces p).counts (4 * page_rows p) payload ≡ flat_map four_bytes (map (λ r. length r.words) page)
  words : piece (pieces p).variables (8 * variable_count page) payload ≡ flat_map eight_bytes (flat_map (λ r. r.words) page)

pieces_joined : (p : Pages) (payload : List ℕ) (page : List Row) → PiecesAre p payload page → page_bytes p (variable_count page) payload ≡ columns_bytes page
unfolding fields_bytes
pieces_joined p payload page are = λ i. are.patterns i ++ (are.moments i ++ (are.types i ++ (are.counts i ++ are.words i)))

long_piece : (payload : List ℕ) (at n : ℕ) → at + n ≤ length payload → length (piece at n payload) ≡ n
long_piece payload at n le = omega (arith, length-take n (drop at payload), length-drop at payload, le)

pieces_apart : (p : Pages) (payload : List ℕ) (page : List Row) → Within p payload → length page ≡ page_rows p → p.variable + variable_count page ≤ p.variables
    → page_bytes p (variable_count page) payload ≡ columns_bytes page → PiecesAre p payload page
unfolding fields_bytes
pieces_apart p payload page at count few e =
    let n : ℕ = page_rows p in
    let l1 = long_piece payload (p.start + p.row) n (omega (arith, at.whole, at.row)) in
    let l2 = long_piece payload (p.start + p.rows + 8 * p.row) (8 * n) (omega (arith, at.whole, at.row)) in
    let l3 = long_piece payload (p.start + 9 * p.rows + 4 * p.row) (4 * n) (omega (arith, at.whole, at.row)) in
    let l4 = long_piece payload (p.start + 13 * p.rows + 4 * p.row) (4 * n) (omega (arith, at.whole, at.row)) in
    let moments : List ℤ = map (λ r. r.moment) page in
    let types : List ℕ = map (λ r. r.log_type) page in
    let counts : List ℕ = map (λ r. length r.words) page in
    let m1 : length (map (λ r. r.pattern) page) ≡ n = length-map page (λ (r : Row). r.pattern) ∙ count in
    let m2 : length (flat_map moment_bytes moments) ≡ 8 * n = length_column 8 moment_bytes length-moment_bytes moments ∙ ap (λ (k : ℕ). 8 * k) (length-map page (λ (r : Row). r.moment) ∙ count) in
    let m3 : length (flat_map four_bytes types) ≡ 4 * n = length_column 4 four_bytes length-four_bytes types ∙ ap (λ (k : ℕ). 4 * k) (length-map page (λ (r : Row). r.log_type) ∙ count) in
    let m4 : length (flat_map four_bytes counts) ≡ 4 * n = length_column 4 four_bytes length-four_bytes counts ∙ ap (λ (k : ℕ). 4 * k) (length-map page (λ (r : Row). length r.words) ∙ count) in
    let p1 = same_parts _ _ _ _ (l1 ∙ sym m1) e in
    let p2 = same_parts _ _ _ _ (l2 ∙ sym m2) p1.1 in
    let p3 = same_parts _ _ _ _ (l3 ∙ sym m3) p2.1 in
    let p4 = same_parts _ _ _ _ (l4 ∙ sym m4) p3.1 in
    record { patterns = p1.0; moments = p2.0; types = p3.0; counts = p4.0; words = p4.1 }

-- ---- one page more

within_after : (p : Pages) (payload : List ℕ) (page : List Row) → Within p payload → FitsPage p (variable_count page) → Within (after p page) payload
within_after p payload page at fits = record {
  whole = at.whole;
  row = omega (arith, at.row);
  variable = fits.most;
  done = λ le. omega (arith, fits.last (omega (arith, le, at.row)));
}

columns_both : {X : Type 0} (f : Row → X) (spell : X → List ℕ) (page rest : List Row) → flat_map spell (map f (page ++ rest)) ≡ flat_map spell (map f page) ++ flat_map spell (map f rest)
columns_both f spell page rest = ap (flat_map spell) (map-append f page rest) ∙ flat_map-append spell (map f page) (map f rest)

words_both : (page rest : List Row) → flat_map eight_bytes (flat_map (λ r. r.words) (page ++ rest)) ≡ flat_map eight_bytes (flat_map (λ r. r.words) page) ++ flat_map eight_bytes (flat_map (λ r. r.words) rest)
words_both page rest = ap (flat_map eight_bytes) (flat_map-append (λ (r : Row). r.words) page rest) ∙ flat_map-append eight_bytes (flat_map (λ r. r.words) page) (flat_map (λ r. r.words) rest)

with_page : (p : Pages) (payload : List ℕ) (page rest : List Row) → Within p payload → IsPage p (page_bytes p (variable_count page) payload) page → RestIs (after p page) payload rest
    → RestIs p payload (page ++ rest)
with_page p payload page rest at is left =
    let n : ℕ = page_rows p in
    let m : ℕ = p.rows - (p.row + n) in
    let k : ℕ = p.rows - p.row in
    let v : ℕ = variable_count page in
    let are = pieces_apart p payload page at is.columns.count is.fits.most is.columns.spelled in
    let rows : k ≡ n + m = omega (arith, at.row) in
    record {
      patterns = join payload (p.start + p.row) (p.start + (p.row + n)) n m k _ _ (omega arith) rows are.patterns left.patterns ∙ sym (map-append (λ (r : Row). r.pattern) page rest);
      moments = join payload (p.start + p.rows + 8 * p.row) (p.start + p.rows + 8 * (p.row + n)) (8 * n) (8 * m) (8 * k) _ _ (omega arith) (omega (arith, rows)) are.moments left.moments
          ∙ sym (columns_both (λ r. r.moment) moment_bytes page rest);
      types = join payload (p.start + 9 * p.rows + 4 * p.row) (p.start + 9 * p.rows + 4 * (p.row + n)) (4 * n) (4 * m) (4 * k) _ _ (omega arith) (omega (arith, rows)) are.types left.types
          ∙ sym (columns_both (λ r. r.log_type) four_bytes page rest);
      counts = join payload (p.start + 13 * p.rows + 4 * p.row) (p.start + 13 * p.rows + 4 * (p.row + n)) (4 * n) (4 * m) (4 * k) _ _ (omega arith) (omega (arith, rows)) are.counts left.counts
          ∙ sym (columns_both (λ r. length r.words) four_bytes page rest);
      words = join payload (p.start + 17 * p.rows + 8 * p.variable) (p.start + 17 * p.rows + 8 * (p.variable + v)) (8 * v) (8 * (p.variables - (p.variable + v))) (8 * (p.variables - p.variable)) _ _
          (omega arith) (omega (arith, is.fits.most)) are.words left.words ∙ sym (words_both page rest);
      fit = All-append IsRow page rest is.columns.fit left.fit;
      count = omega (arith, length-append page rest, is.columns.count, left.count, rows);
      total = omega (arith, sum_by-append (λ r. length r.words) page rest, left.total, is.fits.most);
    }

without_page : (p : Pages) (payload : List ℕ) (page rest : List Row) → Within p payload → length page ≡ page_rows p → RestIs p payload (page ++ rest)
    → IsPage p (page_bytes p (variable_count page) payload) page × RestIs (after p page) payload rest
without_page p payload page rest at long all =
    let n : ℕ = page_rows p in
    let m : ℕ = p.rows - (p.row + n) in
    let k : ℕ = p.rows - p.row in
    let v : ℕ = variable_count page in
    let both : variable_count (page ++ rest) ≡ v + variable_count rest = sum_by-append (λ r. length r.words) page rest in
    let rows : k ≡ n + m = omega (arith, at.row) in
    let most : p.variable + v ≤ p.variables = omega (arith, both, all.total, at.variable) in
    let count : length rest ≡ m = omega (arith, length-append page rest, all.count, long, rows) in
    let last : p.row + n ≡ p.rows → p.variable + v ≡ p.variables = λ e.
    let none : rest ≡ [] = nil_from_length rest (omega (arith, count, e)) in
    omega (arith, both, all.total, at.variable, ap (λ (l : List Row). variable_count l) none) in
    let l2 : length (flat_map moment_bytes (map (λ r. r.moment) page)) ≡ 8 * n = length_column 8 moment_bytes length-moment_bytes (map (λ r. r.moment) page) ∙ ap (λ (j : ℕ). 8 * j) (length-map page (λ (r : Row). r.moment) ∙ long) in
    let l3 : length (flat_map four_bytes (map (λ r. r.log_type) page)) ≡ 4 * n = length_column 4 four_bytes length-four_bytes (map (λ r. r.log_type) page) ∙ ap (λ (j : ℕ). 4 * j) (length-map page (λ (r : Row). r.log_type) ∙ long) in
    let l4 : length (flat_map four_bytes (map (λ r. length r.words) page)) ≡ 4 * n = length_column 4 four_bytes length-four_bytes (map (λ r. length r.words) page) ∙ ap (λ (j : ℕ). 4 * j) (length-map page (λ (r : Row). length r.words) ∙ long) in
    let l5 : length (flat_map eight_bytes (flat_map (λ r. r.words) page)) ≡ 8 * v = length_column 8 eight_bytes length-eight_bytes (flat_map (λ r. r.words) page) ∙ ap (λ (j : ℕ). 8 * j) (length-flat_map (λ r. r.words) page) in
    let s1 = split payload (p.start + p.row) (p.start + (p.row + n)) n m k (map (λ r. r.pattern) page) (map (λ r. r.pattern) rest) (omega arith) rows (length-map page (λ (r : Row). r.pattern) ∙ long)
    (all.patterns ∙ map-append (λ (r : Row). r.pattern) page rest) in
    let s2 = split payload (p.start + p.rows + 8 * p.row) (p.start + p.rows + 8 * (p.row + n)) (8 * n) (8 * m) (8 * k) _ _ (omega arith) (omega (arith, rows)) l2
    (all.moments ∙ columns_both (λ r. r.moment) moment_bytes page rest) in
    let s3 = split payload (p.start + 9 * p.rows + 4 * p.row) (p.start + 9 * p.rows + 4 * (p.row + n)) (4 * n) (4 * m) (4 * k) _ _ (omega arith) (omega (arith, rows)) l3
    (all.types ∙ columns_both (λ r. r.log_type) four_bytes page rest) in
    let s4 = split payload (p.start + 13 * p.rows + 4 * p.row) (p.start + 13 * p.rows + 4 * (p.row + n)) (4 * n) (4 * m) (4 * k) _ _ (omega arith) (omega (arith, rows)) l4
    (all.counts ∙ columns_both (λ r. length r.words) four_bytes page rest) in
    let s5 = split payload (p.start + 17 * p.rows + 8 * p.variable) (p.start + 17 * p.rows + 8 * (p.variable + v)) (8 * v) (8 * (p.variables - (p.variable + v))) (8 * (p.variables - p.variable)) _ _
    (omega arith) (omega (arith, most)) l5 (all.words ∙ words_both page rest) in (
      record {
        columns = record {
          fit = subst (All IsRow) (take_at page rest (length page) refl) (All-take IsRow (length page) (page ++ rest) all.fit);
          count = long;
          variables = refl;
          spelled = pieces_joined p payload page record { patterns = s1.0; moments = s2.0; types = s3.0; counts = s4.0; words = s5.0 };
        };
        fits = record { most = most; last = last };
      },
      record {
        patterns = s1.1;
        moments = s2.1;
        types = s3.1;
        counts = s4.1;
        words = s5.1;
        fit = subst (All IsRow) (drop_at page rest (length page) refl) (All-drop IsRow (length page) (page ++ rest) all.fit);
        count = count;
        total = omega (arith, both, all.total, most);
      },
    )

-- ---- all pages

rest_done : (p : Pages) (payload : List ℕ) → p.rows ≤ p.row → p.variables ≤ p.variable → RestIs p payload []
rest_done p payload rows variables =
    let none : p.rows - p.row ≡ 0 = omega (arith, rows) in
    let no_words : p.variables - p.variable ≡ 0 = omega (arith, variables) in
    record {
      patterns = ap (λ (k : ℕ). piece (pieces p).patterns k payload) none;
      moments = ap (λ (k : ℕ). piece (pieces p).moments (8 * k) payload) none;
      types = ap (λ (k : ℕ). piece (pieces p).types (4 * k) payload) none;
      counts = ap (λ (k : ℕ). piece (pieces p).counts (4 * k) payload) none;
      words = ap (λ (k : ℕ). piece (pieces p).variables (8 * k) payload) no_words;
      fit = All-nil IsRow;
      count = sym none;
      total = sym no_words;
    }

rows_of_pages : (p : Pages) (payload : List ℕ) (pages : List (List Row)) → Within p payload → HoldsPages p payload pages → RestIs p payload (flat_map (λ page. page) pages)
rows_of_pages p payload [] at holds = rest_done p payload holds (at.done holds)
rows_of_pages p payload (page ∷ pages) at holds =
    let left = rows_of_pages (after p page) payload pages (within_after p payload page at holds.1.fits) holds.2 in
    subst (RestIs p payload) (sym (flat_map-cons (λ (l : List Row). l) page pages)) (with_page p payload page (flat_map (λ l. l) pages) at holds.1 left)

pages_of_rows : (fuel : ℕ) (p : Pages) (payload : List ℕ) (rows : List Row) → length rows ≤ fuel → Within p payload → RestIs p payload rows
    → (pages : List (List Row)) × HoldsPages p payload pages × (rows ≡ flat_map (λ page. page) pages)
pages_of_rows zero p payload rows few at all = ([], omega (arith, few, all.count), nil_from_length rows (omega (arith, few)))
pages_of_rows (suc fuel) p payload rows few at all = elim (cases_lt p.row p.rows) [
  | inr le ↦ ([], le, nil_from_length rows (omega (arith, le, all.count)))
  | inl lt ↦
      let page : List Row = take 4096 rows in
      let rest : List Row = drop 4096 rows in
      let parts : page ++ rest ≡ rows = take-append-drop 4096 rows in
      let long : length page ≡ page_rows p = omega (arith, length-take 4096 rows, all.count) in
      let one = without_page p payload page rest at long (subst (RestIs p payload) (sym parts) all) in
      let others = pages_of_rows fuel (after p page) payload rest (omega (arith, few, length-drop 4096 rows, lt, all.count)) (within_after p payload page at one.0.fits) one.1 in
      (page ∷ others.0, (lt, one.0, others.1), sym parts ∙ ap (λ (l : List Row). page ++ l) others.2 ∙ sym (flat_map-cons (λ (l : List Row). l) page others.0))
]

-- ---- the whole payload

cut : (payload : List ℕ) (at next n : ℕ) (a b : List ℕ) → next ≡ at + n → piece at n payload ≡ a → drop next payload ≡ b → drop at payload ≡ a ++ b
cut payload at next n a b is_next first others =
    let rest : drop n (drop at payload) ≡ drop next payload = drop-drop n at payload ∙ ap (λ (j : ℕ). drop j payload) (sym is_next) in
    sym (take-append-drop n (drop at payload)) ∙ (λ i. first i ++ (rest ∙ others) i)

uncut : (payload : List ℕ) (at next n : ℕ) (a b : List ℕ) → next ≡ at + n → length a ≡ n → drop at payload ≡ a ++ b → (piece at n payload ≡ a) × (drop next payload ≡ b)
uncut payload at next n a b is_next long whole =
    let rest : drop n (drop at payload) ≡ drop next payload = drop-drop n at payload ∙ ap (λ (j : ℕ). drop j payload) (sym is_next) in
    (ap (take n) whole ∙ take_at a b n long, sym rest ∙ ap (drop n) whole ∙ drop_at a b n long)

rest_of_rows : (h : Head) (payload : List ℕ) (rows : List Row) → HoldsRows h payload rows → RestIs (first_page h) payload rows
unfolding fields_bytes
rest_of_rows h payload rows holds =
    let s : ℕ = head_length (fixed_of h) in
    let r : ℕ = h.rows in
    let n : ℕ = r - 0 in
    let b1 : List ℕ = map (λ r. r.pattern) rows in
    let b2 : List ℕ = flat_map moment_bytes (map (λ r. r.moment) rows) in
    let b3 : List ℕ = flat_map four_bytes (map (λ r. r.log_type) rows) in
    let b4 : List ℕ = flat_map four_bytes (map (λ r. length r.words) rows) in
    let b5 : List ℕ = flat_map eight_bytes (flat_map (λ r. r.words) rows) in
    let count : length rows ≡ n = omega (arith, holds.behind.count) in
    let l1 : length b1 ≡ n = length-map rows (λ (r : Row). r.pattern) ∙ count in
    let l2 : length b2 ≡ 8 * n = length_column 8 moment_bytes length-moment_bytes (map (λ r. r.moment) rows) ∙ ap (λ (j : ℕ). 8 * j) (length-map rows (λ (r : Row). r.moment) ∙ count) in
    let l3 : length b3 ≡ 4 * n = length_column 4 four_bytes length-four_bytes (map (λ r. r.log_type) rows) ∙ ap (λ (j : ℕ). 4 * j) (length-map rows (λ (r : Row). r.log_type) ∙ count) in
    let l4 : length b4 ≡ 4 * n = length_column 4 four_bytes length-four_bytes (map (λ r. length r.words) rows) ∙ ap (λ (j : ℕ). 4 * j) (length-map rows (λ (r : Row). length r.words) ∙ count) in
    let l5 : length b5 ≡ 8 * variable_count rows = length_column 8 eight_bytes length-eight_bytes (flat_map (λ r. r.words) rows) ∙ ap (λ (j : ℕ). 8 * j) (length-flat_map (λ r. r.words) rows) in
    let start : s + 0 ≡ s = omega arith in
    let u1 = uncut payload (s + 0) (s + r + 8 * 0) n b1 (b2 ++ (b3 ++ (b4 ++ b5))) (omega arith) l1 (ap (λ (k : ℕ). drop k payload) start ∙ holds.behind.spelled) in
    let u2 = uncut payload (s + r + 8 * 0) (s + 9 * r + 4 * 0) (8 * n) b2 (b3 ++ (b4 ++ b5)) (omega arith) l2 u1.1 in
    let u3 = uncut payload (s + 9 * r + 4 * 0) (s + 13 * r + 4 * 0) (4 * n) b3 (b4 ++ b5) (omega arith) l3 u2.1 in
    let u4 = uncut payload (s + 13 * r + 4 * 0) (s + 17 * r + 8 * 0) (4 * n) b4 b5 (omega arith) l4 u3.1 in
    record {
      patterns = u1.0;
      moments = u2.0;
      types = u3.0;
      counts = u4.0;
      words = ap (take (8 * (h.variables - 0))) u4.1 ∙ take_all (8 * (h.variables - 0)) b5 (omega (arith, l5, holds.behind.variables));
      fit = holds.behind.fit;
      count = count;
      total = omega (arith, holds.behind.variables);
    }

rows_of_rest : (h : Head) (payload : List ℕ) (rows : List Row) → HasPages h (length payload) → RestIs (first_page h) payload rows → HoldsRows h payload rows
unfolding fields_bytes
rows_of_rest h payload rows has rest =
    let s : ℕ = head_length (fixed_of h) in
    let r : ℕ = h.rows in
    let n : ℕ = r - 0 in
    let start : s ≡ s + 0 = omega arith in
    let e5 : drop (s + 17 * r + 8 * 0) payload ≡ flat_map eight_bytes (flat_map (λ r. r.words) rows) =
    sym (take_all (8 * (h.variables - 0)) (drop (s + 17 * r + 8 * 0) payload) (omega (arith, has.length, length-drop (s + 17 * r + 8 * 0) payload))) ∙ rest.words in
    let e4 = cut payload (s + 13 * r + 4 * 0) (s + 17 * r + 8 * 0) (4 * n) _ _ (omega arith) rest.counts e5 in
    let e3 = cut payload (s + 9 * r + 4 * 0) (s + 13 * r + 4 * 0) (4 * n) _ _ (omega arith) rest.types e4 in
    let e2 = cut payload (s + r + 8 * 0) (s + 9 * r + 4 * 0) (8 * n) _ _ (omega arith) rest.moments e3 in
    let e1 = cut payload (s + 0) (s + r + 8 * 0) n _ _ (omega arith) rest.patterns e2 in
    record {
      front = omega (arith, has.length);
      behind = record {
        fit = rest.fit;
        count = omega (arith, rest.count);
        variables = omega (arith, rest.total);
        spelled = ap (λ (k : ℕ). drop k payload) start ∙ e1;
      };
    }

has_pages : (h : Head) (payload : List ℕ) (rows : List Row) → HoldsRows h payload rows → HasPages h (length payload)
has_pages h payload rows holds = record {
  length = omega (arith, ap (λ (l : List ℕ). length l) holds.behind.spelled, length-columns_bytes rows, holds.behind.count, holds.behind.variables, holds.front, length-drop (head_length (fixed_of h)) payload);
  none = λ e.
      let empty : rows ≡ [] = nil_from_length rows (omega (arith, holds.behind.count, e)) in
      omega (arith, holds.behind.variables, ap (λ (l : List Row). variable_count l) empty);
}

first_within : (h : Head) (payload : List ℕ) → HasPages h (length payload) → Within (first_page h) payload
first_within h payload has = record {
  whole = has.length;
  row = omega arith;
  variable = omega arith;
  done = λ le. omega (arith, has.none (omega (arith, le)));
}

pub pages_are_rows : (h : Head) (payload : List ℕ) (rows : List Row) → IsHead h
    → HoldsRows h payload rows ↔ (HasPages h (length payload) × ((pages : List (List Row)) × HoldsPages (first_page h) payload pages × (rows ≡ flat_map (λ page. page) pages)))
pages_are_rows h payload rows is = (
  λ holds. let has = has_pages h payload rows holds in
      (has, pages_of_rows (length rows) (first_page h) payload rows (omega arith) (first_within h payload has) (rest_of_rows h payload rows holds)),
  λ found. rows_of_rest h payload rows found.0
      (subst (RestIs (first_page h) payload) (sym found.1.2) (rows_of_pages (first_page h) payload found.1.0 (first_within h payload found.0) found.1.1)),
)
