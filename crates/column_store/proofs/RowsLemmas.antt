-- The rows of columns: their count, their fields and their words.
use Rattle.std.proofs.Common.{◌≡◌, ◌<◌, ◌≤◌, ℕ, zero, suc, ◌+◌, ◌-◌, ℤ, pos, List, [], ◌∷◌, ◌++◌, length, map, take, drop, set, get_or, slice_range, All, ◌^◌, subst, refl, sym, ap, ◌∙◌, arith, Some, slice_get, inl, inr}
use Rattle.std.specs.List.{range_with_len, flat_map, sum}
use Rattle.std.proofs.Math.Seq.{take-add}
use Rattle.std.proofs.lemmas.List.{ext_get_or, get_or-drop, drop-set-lt, drop-drop, length-map, length-take, length-drop, get_or-map, get_or_read, get_or_push, get_or_append_left, take_more, take_all, take_at, drop_at, drop-append-le, take-append-le, append-nil, length_push, length-append}
use Rattle.std.proofs.lemmas.List.FromFn.{length-map-range_with_len, get_or-map-range_with_len, map-range_with_len_more}
use Rattle.std.proofs.lemmas.List.Concat.{flat_map-append, length-flat_map}
use Rattle.std.proofs.lemmas.List.Sums.{sum_by_more, sum_by-cons, sum_by-take-le, sum-map}
use Rattle.std.specs.Int.{w64}
use Rattle.std.specs.Int.RustNames.{FitsSigned}
use Rattle.std.proofs.lemmas.Bool.{cases_lt}
use Rattle.std.proofs.lemmas.List.Elements.{All-take, All-drop}
use Rattle.std.proofs.lemmas.Option.{slice_get-get_or}
use Rattle.column_store.specs.declared.row.Row.{Row}
use Rattle.column_store.specs.declared.arrays.Arrays.{Arrays}
use Rattle.column_store.specs.Row.{variable_count, IsRow}
use Rattle.column_store.specs.Columns.{ends_from, AreArraysOf}
use Rattle.column_store.specs.Places.{start_of, row_at, rows_of, AreColumns}

-- ---- lists by their places

same_by_places : {X : Type 0} (f g : ℕ → X) (n : ℕ) → ((k : ℕ) → k < n → f k ≡ g k) → map f (range_with_len 0 n) ≡ map g (range_with_len 0 n)
same_by_places {X} f g zero same = refl
same_by_places {X} f g (suc n) same =
    let front = same_by_places f g n (λ k lt. same k (omega arith)) in
    let step : suc n ≡ n + 1 = omega arith in
    ap (λ (k : ℕ). map f (range_with_len 0 k)) step
    ∙ map-range_with_len_more f 0 n n (omega arith)
    ∙ ap (λ (l : List X). l ++ f n ∷ []) front
    ∙ ap (λ (x : X). map g (range_with_len 0 n) ++ x ∷ []) (same n (omega arith))
    ∙ sym (map-range_with_len_more g 0 n n (omega arith))
    ∙ sym (ap (λ (k : ℕ). map g (range_with_len 0 k)) step)

-- ---- the rows of columns

pub length-rows_of : (ps : List ℕ) (ms : List ℤ) (ts es ws : List ℕ) → length (rows_of ps ms ts es ws) ≡ length ps
length-rows_of ps ms ts es ws = length-map-range_with_len (row_at ps ms ts es ws) 0 (length ps)

pub get_or-rows_of : (ps : List ℕ) (ms : List ℤ) (ts es ws : List ℕ) (k : ℕ) (d : Row) → k < length ps → get_or (rows_of ps ms ts es ws) k d ≡ row_at ps ms ts es ws k
get_or-rows_of ps ms ts es ws k d lt = get_or-map-range_with_len (row_at ps ms ts es ws) 0 (length ps) k k d lt (omega arith)

pub slice_get-rows_of : (ps : List ℕ) (ms : List ℤ) (ts es ws : List ℕ) (k : ℕ) → k < length ps → slice_get (rows_of ps ms ts es ws) k ≡ Some (row_at ps ms ts es ws k)
slice_get-rows_of ps ms ts es ws k lt =
    let rows = rows_of ps ms ts es ws in
    let d = row_at ps ms ts es ws k in
    slice_get-get_or rows k d (omega (arith, length-rows_of ps ms ts es ws)) ∙ ap (λ (r : Row). Some r) (get_or-rows_of ps ms ts es ws k d lt)

-- a field of all rows is the array that has it at each place
pub field-rows_of : {Y : Type 0} (f : Row → Y) (xs : List Y) (d : Y) (ps : List ℕ) (ms : List ℤ) (ts es ws : List ℕ)
    → length xs ≡ length ps → ((k : ℕ) → k < length ps → f (row_at ps ms ts es ws k) ≡ get_or xs k d) → map f (rows_of ps ms ts es ws) ≡ xs
field-rows_of f xs d ps ms ts es ws long each =
    let rows = rows_of ps ms ts es ws in
    let count = length-rows_of ps ms ts es ws in
    ext_get_or d (map f rows) xs (omega (arith, length-map rows f, count)) (λ k lt.
    let in_ps : k < length ps = omega (arith, length-map rows f, count) in
    get_or-map f rows k (row_at ps ms ts es ws k) d (omega arith) ∙ ap f (get_or-rows_of ps ms ts es ws k (row_at ps ms ts es ws k) in_ps) ∙ each k in_ps)

-- ---- the words

words_at : (ps : List ℕ) (ms : List ℤ) (ts es ws : List ℕ) → ℕ → List ℕ
words_at ps ms ts es ws k = slice_range ws (start_of es k) (get_or es k 0)

-- what the first rows have is what stands before the next one
pub words_upto : (ps : List ℕ) (ms : List ℤ) (ts es ws : List ℕ) (bytes : ℕ) → AreColumns ps ms ts es ws bytes
    → (k : ℕ) → k ≤ length ps → flat_map (λ r. r.words) (take k (rows_of ps ms ts es ws)) ≡ take (start_of es k) ws
words_upto ps ms ts es ws bytes are zero le = refl
words_upto ps ms ts es ws bytes are (suc k) le =
    let rows : List Row = rows_of ps ms ts es ws in
    let row : Row = row_at ps ms ts es ws k in
    let words : Row → List ℕ = λ r. r.words in
    let lt : k < length rows = omega (arith, length-rows_of ps ms ts es ws) in
    let step : suc k ≡ k + 1 = omega arith in
    let more : take (k + 1) rows ≡ take k rows ++ row ∷ [] =
    take_more rows k row lt ∙ ap (λ (r : Row). take k rows ++ r ∷ []) (get_or-rows_of ps ms ts es ws k row (omega arith)) in
    let before : flat_map words (take k rows) ≡ take (start_of es k) ws = words_upto ps ms ts es ws bytes are k (omega arith) in
    let rise : start_of es k ≤ get_or es k 0 = are.rise k (omega arith) in
    let parts : flat_map words (take k rows ++ row ∷ []) ≡ flat_map words (take k rows) ++ row.words =
    flat_map-append words (take k rows) (row ∷ []) ∙ ap (λ (l : List ℕ). flat_map words (take k rows) ++ l) (append-nil row.words) in
    let whole : take (start_of es k + (get_or es k 0 - start_of es k)) ws ≡ take (start_of es k) ws ++ row.words = take-add (start_of es k) (get_or es k 0 - start_of es k) ws in
    let end : start_of es k + (get_or es k 0 - start_of es k) ≡ get_or es k 0 = omega arith in
    ap (λ (n : ℕ). flat_map words (take n rows)) step ∙ ap (flat_map words) more ∙ parts ∙ ap (λ (l : List ℕ). l ++ row.words) before ∙ sym whole ∙ ap (λ (n : ℕ). take n ws) end

pub words_are : (ps : List ℕ) (ms : List ℤ) (ts es ws : List ℕ) (bytes : ℕ) → AreColumns ps ms ts es ws bytes
    → ws ≡ flat_map (λ r. r.words) (rows_of ps ms ts es ws)
words_are ps ms ts es ws bytes are =
    let rows : List Row = rows_of ps ms ts es ws in
    let words : Row → List ℕ = λ r. r.words in
    let all = words_upto ps ms ts es ws bytes are (length ps) (omega arith) in
    let every : take (length ps) rows ≡ rows = take_all (length ps) rows (omega (arith, length-rows_of ps ms ts es ws)) in
    let whole : take (start_of es (length ps)) ws ≡ ws = take_all (start_of es (length ps)) ws (omega (arith, are.last)) in
    sym whole ∙ sym all ∙ ap (flat_map words) every

pub variables_are : (ps : List ℕ) (ms : List ℤ) (ts es ws : List ℕ) (bytes : ℕ) → AreColumns ps ms ts es ws bytes
    → length ws ≡ variable_count (rows_of ps ms ts es ws)
variables_are ps ms ts es ws bytes are =
    ap (λ (l : List ℕ). length l) (words_are ps ms ts es ws bytes are) ∙ length-flat_map (λ r. r.words) (rows_of ps ms ts es ws)

-- ---- where the words end

count_of : Row → ℕ
count_of r = length r.words

length-ends_from : (start : ℕ) (rows : List Row) → length (ends_from start rows) ≡ length rows
length-ends_from start [] = refl
length-ends_from start (r ∷ rows) = ap (λ (n : ℕ). suc n) (length-ends_from (start + length r.words) rows)

get_or-ends_from : (start : ℕ) (rows : List Row) (k : ℕ) → k < length rows → get_or (ends_from start rows) k 0 ≡ start + variable_count (take (suc k) rows)
get_or-ends_from start [] k lt = absurd (omega arith)
get_or-ends_from start (r ∷ rows) zero lt = ap (λ (n : ℕ). start + n) (sym (sum_by-cons (λ r. length r.words) r [] ∙ omega arith))
get_or-ends_from start (r ∷ rows) (suc k) lt =
    let rest = get_or-ends_from (start + length r.words) rows k (omega arith) in
    let first = sum_by-cons (λ r. length r.words) r (take (suc k) rows) in
    omega (arith, rest, first)

end_is : (ps : List ℕ) (ms : List ℤ) (ts es ws : List ℕ) (bytes : ℕ) → AreColumns ps ms ts es ws bytes
    → (k : ℕ) → k < length ps → get_or es k 0 ≡ variable_count (take (suc k) (rows_of ps ms ts es ws))
end_is ps ms ts es ws bytes are k lt =
    let rows : List Row = rows_of ps ms ts es ws in
    let words = words_upto ps ms ts es ws bytes are (suc k) (omega arith) in
    let len : length (take (get_or es k 0) ws) ≡ get_or es k 0 = omega (arith, length-take (get_or es k 0) ws, are.within k lt) in
    sym len ∙ ap (λ (l : List ℕ). length l) (sym words) ∙ length-flat_map (λ r. r.words) (take (suc k) rows)

pub ends_are : (ps : List ℕ) (ms : List ℤ) (ts es ws : List ℕ) (bytes : ℕ) → AreColumns ps ms ts es ws bytes
    → es ≡ ends_from 0 (rows_of ps ms ts es ws)
ends_are ps ms ts es ws bytes are =
    let rows : List Row = rows_of ps ms ts es ws in
    let count = length-rows_of ps ms ts es ws in
    ext_get_or 0 es (ends_from 0 rows) (omega (arith, length-ends_from 0 rows, count, are.as_ends)) (λ k lt.
    omega (arith, end_is ps ms ts es ws bytes are k (omega (arith, are.as_ends)), get_or-ends_from 0 rows k (omega (arith, count, are.as_ends))))

-- ---- a row more

start_of-push : (es : List ℕ) (e k : ℕ) → k ≤ length es → start_of (es ++ e ∷ []) k ≡ start_of es k
start_of-push es e zero le = refl
start_of-push es e (suc k) le = get_or_append_left es (e ∷ []) 0 k (omega arith)

slice_range-append : (ws vs : List ℕ) (a b : ℕ) → a ≤ b → b ≤ length ws → slice_range (ws ++ vs) a b ≡ slice_range ws a b
slice_range-append ws vs a b le in_ws =
    ap (take (b - a)) (drop-append-le a ws vs (omega arith)) ∙ take-append-le (b - a) (drop a ws) vs (omega (arith, length-drop a ws))

slice_range-last : (ws vs : List ℕ) (n : ℕ) → n ≡ length ws → slice_range (ws ++ vs) n (length (ws ++ vs)) ≡ vs
slice_range-last ws vs n e =
    ap (take (length (ws ++ vs) - n)) (drop_at ws vs n (sym e)) ∙ take_all (length (ws ++ vs) - n) vs (omega (arith, length-append ws vs))

abbrev row_with : ℕ → ℤ → ℕ → List ℕ → Row
row_with p m t ws = record { pattern = p; moment = m; log_type = t; words = ws }

same_row : {p q : ℕ} {m n : ℤ} {t u : ℕ} {v w : List ℕ} → p ≡ q → m ≡ n → t ≡ u → v ≡ w → row_with p m t v ≡ row_with q n u w
same_row a b c d = λ i. record { pattern = a i; moment = b i; log_type = c i; words = d i }

pub rows_push : (ps : List ℕ) (ms : List ℤ) (ts es ws : List ℕ) (bytes : ℕ) → AreColumns ps ms ts es ws bytes
    → (p : ℕ) (m : ℤ) (t : ℕ) (vs : List ℕ)
    → rows_of (ps ++ p ∷ []) (ms ++ m ∷ []) (ts ++ t ∷ []) (es ++ length (ws ++ vs) ∷ []) (ws ++ vs)
    ≡ rows_of ps ms ts es ws ++ record { pattern = p; moment = m; log_type = t; words = vs } ∷ []
rows_push ps ms ts es ws bytes are p m t vs =
    let n : ℕ = length ps in
    let e : ℕ = length (ws ++ vs) in
    let old : ℕ → Row = row_at ps ms ts es ws in
    let new : ℕ → Row = row_at (ps ++ p ∷ []) (ms ++ m ∷ []) (ts ++ t ∷ []) (es ++ e ∷ []) (ws ++ vs) in
    let more : map new (range_with_len 0 (n + 1)) ≡ map new (range_with_len 0 n) ++ new n ∷ [] = map-range_with_len_more new 0 n n (omega arith) in
    let same : (k : ℕ) → k < n → new k ≡ old k = λ k lt.
    let end : get_or (es ++ e ∷ []) k 0 ≡ get_or es k 0 = get_or_append_left es (e ∷ []) 0 k (omega (arith, are.as_ends)) in
    let start : start_of (es ++ e ∷ []) k ≡ start_of es k = start_of-push es e k (omega (arith, are.as_ends)) in
    same_row
    (get_or_append_left ps (p ∷ []) 0 k lt)
    (get_or_append_left ms (m ∷ []) (pos 0) k (omega (arith, are.as_moments)))
    (get_or_append_left ts (t ∷ []) 0 k (omega (arith, are.as_types)))
    (ap (λ (a : ℕ). slice_range (ws ++ vs) a (get_or (es ++ e ∷ []) k 0)) start ∙ ap (λ (b : ℕ). slice_range (ws ++ vs) (start_of es k) b) end
    ∙ slice_range-append ws vs (start_of es k) (get_or es k 0) (are.rise k lt) (are.within k lt)) in
    let last_start : start_of (es ++ e ∷ []) n ≡ length ws = start_of-push es e n (omega (arith, are.as_ends)) ∙ are.last in
    let last_end : get_or (es ++ e ∷ []) n 0 ≡ e = get_or_push es e 0 n are.as_ends in
    let last : new n ≡ record { pattern = p; moment = m; log_type = t; words = vs } =
    same_row
    (get_or_push ps p 0 n refl)
    (get_or_push ms m (pos 0) n are.as_moments)
    (get_or_push ts t 0 n are.as_types)
    (ap (λ (b : ℕ). slice_range (ws ++ vs) (start_of (es ++ e ∷ []) n) b) last_end ∙ slice_range-last ws vs (start_of (es ++ e ∷ []) n) last_start) in
    ap (λ (k : ℕ). map new (range_with_len 0 k)) (length_push ps p) ∙ more
    ∙ ap (λ (l : List Row). l ++ new n ∷ []) (same_by_places new old n same)
    ∙ ap (λ (r : Row). map old (range_with_len 0 n) ++ r ∷ []) last

pub columns_push : (ps : List ℕ) (ms : List ℤ) (ts es ws : List ℕ) (bytes : ℕ) → AreColumns ps ms ts es ws bytes
    → (p : ℕ) (m : ℤ) (t : ℕ) (vs : List ℕ) (more : ℕ) → length ps < 4294967295 → length ws + length vs < 4294967296 → more ≤ 1048576
    → AreColumns (ps ++ p ∷ []) (ms ++ m ∷ []) (ts ++ t ∷ []) (es ++ length (ws ++ vs) ∷ []) (ws ++ vs) (bytes + more)
columns_push ps ms ts es ws bytes are p m t vs more few room small =
    let e : ℕ = length (ws ++ vs) in
    let len_ps = length_push ps p in
    let len_ws = length-append ws vs in
    let len_es = are.as_ends in
    let end_old : (k : ℕ) → k < length ps → get_or (es ++ e ∷ []) k 0 ≡ get_or es k 0 = λ k lt. get_or_append_left es (e ∷ []) 0 k (omega arith) in
    let end_new : get_or (es ++ e ∷ []) (length ps) 0 ≡ e = get_or_push es e 0 (length ps) are.as_ends in
    let start : (k : ℕ) → k ≤ length ps → start_of (es ++ e ∷ []) k ≡ start_of es k = λ k le. start_of-push es e k (omega arith) in
    record {
      as_moments = omega (arith, length_push ms m, len_ps, are.as_moments);
      as_types = omega (arith, length_push ts t, len_ps, are.as_types);
      as_ends = omega (arith, length_push es e, len_ps, are.as_ends);
      few = omega (arith, len_ps);
      room = omega (arith, len_ws);
      small = omega (arith, len_ps, are.small);
      rise = λ k lt. elim (cases_lt k (length ps)) [
        | inl old ↦ omega (arith, start k (omega arith), end_old k old, are.rise k old)
        | inr le ↦ let here : k ≡ length ps = omega (arith, len_ps) in
            omega (arith, start k (omega arith), ap (start_of es) here, ap (λ (j : ℕ). get_or (es ++ e ∷ []) j 0) here, end_new, are.last, len_ws)
      ];
      within = λ k lt. elim (cases_lt k (length ps)) [
        | inl old ↦ omega (arith, end_old k old, are.within k old, len_ws)
        | inr le ↦ let here : k ≡ length ps = omega (arith, len_ps) in omega (arith, ap (λ (j : ℕ). get_or (es ++ e ∷ []) j 0) here, end_new)
      ];
      last = let step : length (ps ++ p ∷ []) ≡ suc (length ps) = omega (arith, len_ps) in ap (start_of (es ++ e ∷ [])) step ∙ end_new;
    }

-- ---- what reads of the arrays at a place give

pub row_now : (ps : List ℕ) (ms : List ℤ) (ts es ws : List ℕ) (bytes : ℕ) → AreColumns ps ms ts es ws bytes → (k : ℕ) → k < length ps
    → (p : ℕ) (m : ℤ) (t s e : ℕ) (vs : List ℕ) → p ≡ get_or ps k p → m ≡ get_or ms k m → t ≡ get_or ts k t → s ≡ start_of es k → e ≡ get_or es k e → vs ≡ slice_range ws s e
    → slice_get (rows_of ps ms ts es ws) k ≡ Some (row_with p m t vs)
row_now ps ms ts es ws bytes are k lt p m t s e vs is_p is_m is_t is_s is_e is_vs =
    let end : e ≡ get_or es k 0 = get_or_read es k e (omega (arith, are.as_ends)) is_e 0 in
    let words : vs ≡ slice_range ws (start_of es k) (get_or es k 0) = is_vs ∙ ap (λ (a : ℕ). slice_range ws a e) is_s ∙ ap (slice_range ws (start_of es k)) end in
    slice_get-rows_of ps ms ts es ws k lt
    ∙ ap (λ (r : Row). Some r) (sym (same_row
    (get_or_read ps k p lt is_p 0)
    (get_or_read ms k m (omega (arith, are.as_moments)) is_m (pos 0))
    (get_or_read ts k t (omega (arith, are.as_types)) is_t 0)
    words))

-- the same over what the pushes left
module _ (ps : List ℕ) (ms : List ℤ) (ts es ws : List ℕ) (bytes : ℕ) (are : AreColumns ps ms ts es ws bytes) (p : ℕ) (m : ℤ) (t e : ℕ) (vs : List ℕ)
    (ps_now : List ℕ) (ms_now : List ℤ) (ts_now es_now ws_now : List ℕ) (to_ps : ps_now ≡ ps ++ p ∷ []) (to_ms : ms_now ≡ ms ++ m ∷ []) (to_ts : ts_now ≡ ts ++ t ∷ [])
    (to_es : es_now ≡ es ++ e ∷ []) (to_ws : ws_now ≡ ws ++ vs) (end : e ≡ length ws_now) where
  pub rows_now : rows_of ps_now ms_now ts_now es_now ws_now ≡ rows_of ps ms ts es ws ++ row_with p m t vs ∷ []
  rows_now = rw (to_ps, to_ms, to_ts, to_es, end, to_ws) (rows_push ps ms ts es ws bytes are p m t vs)

  pub columns_now : (more : ℕ) → length ps < 4294967295 → length ws + length vs < 4294967296 → more ≤ 1048576
      → AreColumns ps_now ms_now ts_now es_now ws_now (bytes + more)
  columns_now more few room small = rw (to_ps, to_ms, to_ts, to_es, end, to_ws) (columns_push ps ms ts es ws bytes are p m t vs more few room small)

-- ---- arrays with counts in place of ends

add_counts : (cs es : List ℕ) (n : ℕ) → ((k : ℕ) → k < n → get_or es k 0 ≡ sum (take (k + 1) cs)) → (k : ℕ) → k ≤ n → start_of es k ≡ sum (take k cs)
add_counts cs es n ends zero le = refl
add_counts cs es n ends (suc k) le = let step : k + 1 ≡ suc k = omega arith in ends k (omega arith) ∙ ap (λ (j : ℕ). sum (take j cs)) step

module _ (ps : List ℕ) (ms : List ℤ) (ts cs es ws : List ℕ) (long_ms : length ms ≡ length ps) (long_ts : length ts ≡ length ps) (long_cs : length cs ≡ length ps)
    (long_es : length es ≡ length ps) (few : length ps < 4294967296) (room : length ws < 4294967296) (total : length ws ≡ sum cs)
    (ends : (k : ℕ) → k < length cs → get_or es k 0 ≡ sum (take (k + 1) cs)) where
  starts : (k : ℕ) → k ≤ length ps → start_of es k ≡ sum (take k cs)
  starts k le = add_counts cs es (length ps) (λ j lt. ends j (omega arith)) k le

  one_more : (k : ℕ) → k < length ps → sum (take (k + 1) cs) ≡ sum (take k cs) + get_or cs k 0
  one_more k lt = sum_by_more (λ x. x) cs k 0 (omega arith)

  pub columns_from_counts : AreColumns ps ms ts es ws 0
  columns_from_counts = record {
    as_moments = long_ms;
    as_types = long_ts;
    as_ends = long_es;
    few = few;
    room = room;
    small = omega arith;
    rise = λ k lt. omega (arith, starts k (omega arith), ends k (omega arith), one_more k lt);
    within = λ k lt. omega (arith, ends k (omega arith), sum_by-take-le (λ x. x) cs (k + 1), total);
    last = starts (length ps) (omega arith) ∙ ap sum (take_all (length ps) cs (omega arith)) ∙ sym total;
  }

  pub counts_are : cs ≡ map (λ r. length r.words) (rows_of ps ms ts es ws)
  counts_are = sym (field-rows_of (λ r. length r.words) cs 0 ps ms ts es ws long_cs (λ k lt.
      let end = columns_from_counts.within k lt in
      let rise = columns_from_counts.rise k lt in
      omega (arith, length-take (get_or es k 0 - start_of es k) (drop (start_of es k) ws), length-drop (start_of es k) ws, starts k (omega arith), ends k (omega arith), one_more k lt)))

-- ---- what types say

pub rows_fit : (ps : List ℕ) (ms : List ℤ) (ts es ws : List ℕ) (bytes : ℕ) → AreColumns ps ms ts es ws bytes
    → All (λ p. p < 2 ^ 8) ps → All (λ m. FitsSigned w64 m) ms → All (λ t. t < 2 ^ 32) ts → All (λ w. w < 2 ^ 64) ws
    → All IsRow (rows_of ps ms ts es ws)
rows_fit ps ms ts es ws bytes are fits_ps fits_ms fits_ts fits_ws =
    λ k d lt.
    let in_ps : k < length ps = omega (arith, length-rows_of ps ms ts es ws) in
    let words : All (λ w. w < 2 ^ 64) (slice_range ws (start_of es k) (get_or es k 0)) =
    All-take (λ w. w < 2 ^ 64) (get_or es k 0 - start_of es k) (drop (start_of es k) ws) (All-drop (λ w. w < 2 ^ 64) (start_of es k) ws fits_ws) in
    subst IsRow (sym (get_or-rows_of ps ms ts es ws k d in_ps)) record {
      pattern = fits_ps k 0 in_ps;
      moment = fits_ms k (pos 0) (omega (arith, are.as_moments));
      log_type = fits_ts k 0 (omega (arith, are.as_types));
      words = words;
    }

-- ---- loops that write over a list as they read it

-- what is not yet written over is as it was
pub same_at : (now old : List ℕ) (i d : ℕ) → drop i now ≡ drop i old → get_or now i d ≡ get_or old i d
same_at now old i d same =
    let at : get_or (drop i now) 0 d ≡ get_or (drop i old) 0 d = ap (λ (l : List ℕ). get_or l 0 d) same in
    let step : i + 0 ≡ i = omega arith in
    ap (λ (n : ℕ). get_or now n d) (sym step) ∙ sym (get_or-drop i now 0 d) ∙ at ∙ get_or-drop i old 0 d ∙ ap (λ (n : ℕ). get_or old n d) step

pub kept_after : (now old : List ℕ) (i x : ℕ) → drop i now ≡ drop i old → drop (i + 1) (set now i x) ≡ drop (i + 1) old
kept_after now old i x same =
    drop-set-lt (i + 1) now i x (omega arith) ∙ sym (drop-drop 1 i now) ∙ ap (drop 1) same ∙ drop-drop 1 i old

-- ---- what rows with given arrays have

pub lengths_of : (rows : List Row) (a : Arrays) → AreArraysOf rows a → (sum a.counts.items ≡ variable_count rows) × (length a.words.items ≡ variable_count rows)
lengths_of rows a are = (
  ap sum are.counts ∙ sum-map (λ r. length r.words) rows,
  ap (λ (l : List ℕ). length l) are.words ∙ length-flat_map (λ r. r.words) rows,
)

-- arrays whose counts were added up are those of the rows
pub arrays_of_counts : (a : Arrays) (es : List ℕ) → length a.moments.items ≡ length a.patterns.items → length a.types.items ≡ length a.patterns.items
    → length a.counts.items ≡ length a.patterns.items → length es ≡ length a.patterns.items → length a.patterns.items < 4294967296 → length a.words.items < 4294967296
    → length a.words.items ≡ sum a.counts.items → ((k : ℕ) → k < length a.counts.items → get_or es k 0 ≡ sum (take (k + 1) a.counts.items))
    → AreArraysOf (rows_of a.patterns.items a.moments.items a.types.items es a.words.items) a
arrays_of_counts a es long_ms long_ts long_cs long_es few room total ends =
    let ps : List ℕ = a.patterns.items in
    let ms : List ℤ = a.moments.items in
    let ts : List ℕ = a.types.items in
    let ws : List ℕ = a.words.items in
    record {
      patterns = sym (field-rows_of (λ r. r.pattern) ps 0 ps ms ts es ws refl (λ k lt. refl));
      moments = sym (field-rows_of (λ r. r.moment) ms (pos 0) ps ms ts es ws long_ms (λ k lt. refl));
      types = sym (field-rows_of (λ r. r.log_type) ts 0 ps ms ts es ws long_ts (λ k lt. refl));
      counts = counts_are ps ms ts a.counts.items es ws long_ms long_ts long_cs long_es few room total ends;
      words = words_are ps ms ts es ws 0 (columns_from_counts ps ms ts a.counts.items es ws long_ms long_ts long_cs long_es few room total ends);
    }

-- and so are those whose ends were taken apart
pub arrays_of_ends : (ps : List ℕ) (ms : List ℤ) (ts es ws : List ℕ) (bytes : ℕ) → AreColumns ps ms ts es ws bytes → (a : Arrays) → a.patterns.items ≡ ps → a.moments.items ≡ ms
    → a.types.items ≡ ts → a.words.items ≡ ws → length a.counts.items ≡ length es → ((k : ℕ) → k < length es → get_or a.counts.items k 0 ≡ get_or es k 0 - start_of es k)
    → AreArraysOf (rows_of ps ms ts es ws) a
arrays_of_ends ps ms ts es ws bytes are a is_ps is_ms is_ts is_ws long counts = record {
  patterns = is_ps ∙ sym (field-rows_of (λ r. r.pattern) ps 0 ps ms ts es ws refl (λ k lt. refl));
  moments = is_ms ∙ sym (field-rows_of (λ r. r.moment) ms (pos 0) ps ms ts es ws are.as_moments (λ k lt. refl));
  types = is_ts ∙ sym (field-rows_of (λ r. r.log_type) ts 0 ps ms ts es ws are.as_types (λ k lt. refl));
  counts = sym (field-rows_of (λ r. length r.words) a.counts.items 0 ps ms ts es ws (omega (arith, long, are.as_ends)) (λ k lt.
      omega (arith, length-take (get_or es k 0 - start_of es k) (drop (start_of es k) ws), length-drop (start_of es k) ws, are.within k lt, are.rise k lt, counts k (omega (arith, are.as_ends)))));
  words = is_ws ∙ words_are ps ms ts es ws bytes are;
}

-- ---- no arrays are those of two lists of rows

abbrev head_of : {X : Type 0} → X → List X → X
head_of d [] = d
head_of d (x ∷ xs) = x

pub one_list : (rows others : List Row) → map (λ r. r.pattern) rows ≡ map (λ r. r.pattern) others → map (λ r. r.moment) rows ≡ map (λ r. r.moment) others
    → map (λ r. r.log_type) rows ≡ map (λ r. r.log_type) others → map (λ r. length r.words) rows ≡ map (λ r. length r.words) others
    → flat_map (λ r. r.words) rows ≡ flat_map (λ r. r.words) others → rows ≡ others
one_list [] [] ps ms ts cs ws = refl
one_list [] (q ∷ qs) ps ms ts cs ws = absurd (omega (arith, ap (λ (l : List ℕ). length l) ps, length-map qs (λ (r : Row). r.pattern)))
one_list (r ∷ rs) [] ps ms ts cs ws = absurd (omega (arith, ap (λ (l : List ℕ). length l) ps, length-map rs (λ (r : Row). r.pattern)))
one_list (r ∷ rs) (q ∷ qs) ps ms ts cs ws =
    let count : length r.words ≡ length q.words = ap (head_of 0) cs in
    let front : take (length r.words) (r.words ++ flat_map (λ r. r.words) rs) ≡ take (length r.words) (q.words ++ flat_map (λ r. r.words) qs) = ap (take (length r.words)) ws in
    let back : drop (length r.words) (r.words ++ flat_map (λ r. r.words) rs) ≡ drop (length r.words) (q.words ++ flat_map (λ r. r.words) qs) = ap (drop (length r.words)) ws in
    let words : r.words ≡ q.words = sym (take_at r.words (flat_map (λ r. r.words) rs) (length r.words) refl) ∙ front ∙ take_at q.words (flat_map (λ r. r.words) qs) (length r.words) (sym count) in
    let rest : flat_map (λ r. r.words) rs ≡ flat_map (λ r. r.words) qs =
    sym (drop_at r.words (flat_map (λ r. r.words) rs) (length r.words) refl) ∙ back ∙ drop_at q.words (flat_map (λ r. r.words) qs) (length r.words) (sym count) in
    let first : r ≡ q = same_row (ap (head_of 0) ps) (ap (head_of (pos 0)) ms) (ap (head_of 0) ts) words in
    let others : rs ≡ qs = one_list rs qs (ap (drop 1) ps) (ap (drop 1) ms) (ap (drop 1) ts) (ap (drop 1) cs) rest in
    ap (λ (x : Row). x ∷ rs) first ∙ ap (λ (l : List Row). q ∷ l) others
