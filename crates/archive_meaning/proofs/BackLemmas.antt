-- What is spelled reads back.
use Rattle.std.proofs.Common.{◌≡◌, ℕ, suc, ◌+◌, ◌*◌, ◌%◌, ◌/◌, ◌^◌, ◌<◌, ℤ, List, [], ◌∷◌, ◌++◌, Bool, true, false, length, map, take, drop, All, refl, sym, ◌∙◌, ap, ap₂, subst, arith, length-append, to_z-of_z}
use Rattle.std.specs.Prelude.{slice_index, ◌==◌}
use Rattle.std.specs.List.{flat_map}
use Rattle.std.specs.Int.{w64, cast_signed, cast_unsigned}
use Rattle.std.specs.Int.RustNames.{FitsSigned}
use Rattle.std.proofs.lemmas.List.{append-nil, append_assoc, get_or-drop, length-map, take_at, drop_at}
use Rattle.std.proofs.Math.Seq.{drop-append-add}
use Rattle.std.proofs.lemmas.List.Concat.{flat_map-cons, length-flat_map}
use Rattle.std.proofs.lemmas.List.Sums.{get_or-le-sum_by}
use Rattle.std.proofs.Math.Facts.{Fits-of_z}
use Rattle.std.proofs.lemmas.List.Elements.{All-nil, All-append, All-head, All-map, All-tail}
use Rattle.byteorder.specs.Endian.{little_number}
use Rattle.byteorder.specs.Numbers.{little_number-reads_back}
use Rattle.record_format.specs.Lists.{AreTexts, four_bytes, text_bytes, list_bytes, texts_payload}
use Rattle.record_format.proofs.ListLemmas.{length-four_bytes}
use Rattle.column_store.specs.declared.row.Row.{Row}
use Rattle.column_store.specs.Row.{IsRow, variable_count}
use Rattle.segment_format.specs.Layout.{columns_bytes, eight_bytes, fields_bytes, moment_bytes, flags, fixed_bytes}
use Rattle.segment_format.proofs.UniqueLemmas.{length_column}
use Rattle.segment_format.specs.declared.fixed.Fixed.{Fixed}
use Rattle.segment_format.proofs.FixedLemmas.{length-eight_bytes, length-moment_bytes}
use Rattle.segment_format.specs.declared.head.Head.{Head}
use Rattle.segment_format.specs.Layout.{fixed_of, head_of, segment_bytes}
use Rattle.segment_format.proofs.FixedLemmas.{length-fixed_bytes}
use Rattle.archive_meaning.specs.declared.entry.SegmentEntry.{SegmentEntry}
use Rattle.archive_meaning.specs.declared.entry.JournalEntry.{JournalEntry}
use Rattle.archive_meaning.specs.declared.entry.JournalEntry.TheVariants.{Files, Types, Words, Segment}
use Rattle.archive_meaning.specs.Back.{entry_in, list_in, numbers_in, rows_by, rows_in, segment_in, texts_in}
use Rattle.archive_meaning.specs.Spelled.{record_of, records_from, types_in as types_added, words_named}
use Rattle.archive_meaning.specs.StepsForms.{HasForm, HaveForms, IsSegment}
use Rattle.archive_meaning.proofs.SetLemmas.{set_is_short}

four_back : (n : ℕ) (rest : List ℕ) → n < 2 ^ 32 → little_number 4 (four_bytes n ++ rest) ≡ n
unfolding four_bytes
four_back n rest fit = little_number-reads_back 4 n rest fit

eight_back : (n : ℕ) (rest : List ℕ) → n < 2 ^ 64 → little_number 8 (eight_bytes n ++ rest) ≡ n
unfolding eight_bytes
eight_back n rest fit = little_number-reads_back 8 n rest fit

-- ---- columns

numbers_back : {X : Type 0} (size : ℕ) (spell : X → List ℕ) (code : X → ℕ) (Fit : X → Type 0)
    → ((x : X) (rest : List ℕ) → Fit x → little_number size (spell x ++ rest) ≡ code x) → ((x : X) → length (spell x) ≡ size)
    → (xs : List X) (rest : List ℕ) → All Fit xs → numbers_in size (length xs) (flat_map spell xs ++ rest) ≡ map code xs
numbers_back size spell code Fit back long [] rest fit = refl
numbers_back {X = X} size spell code Fit back long (x ∷ xs) rest fit =
    let apart : flat_map spell (x ∷ xs) ++ rest ≡ spell x ++ (flat_map spell xs ++ rest) =
    ap (λ (l : List ℕ). l ++ rest) (flat_map-cons spell x xs) ∙ append_assoc (spell x) (flat_map spell xs) rest in
    ap (λ (l : List ℕ). numbers_in size (length (x ∷ xs)) l) apart
    ∙ ap₂ (λ (n : ℕ) (l : List ℕ). n ∷ numbers_in size (length xs) l) (back x (flat_map spell xs ++ rest) (All-head Fit x xs fit)) (drop_at (spell x) (flat_map spell xs ++ rest) size (long x))
    ∙ ap (λ (l : List ℕ). code x ∷ l) (numbers_back size spell code Fit back long xs rest (All-tail Fit x xs fit))

same_row : (r : Row) (p : ℕ) (m : ℤ) (t : ℕ) (ws : List ℕ) → p ≡ r.pattern → m ≡ r.moment → t ≡ r.log_type → ws ≡ r.words
    → (let x : Row = record { pattern = p; moment = m; log_type = t; words = ws } in x) ≡ r
same_row r p m t ws a b c d = λ i. record { pattern = a i; moment = b i; log_type = c i; words = d i }

pub rows_back : (rows : List Row) (rest : List ℕ)
    → rows_by (map (λ r. r.pattern) rows) (map (λ r. r.moment) rows) (map (λ r. r.log_type) rows) (map (λ r. length r.words) rows) (flat_map (λ r. r.words) rows ++ rest) ≡ rows
rows_back [] rest = refl
rows_back (r ∷ rows) rest =
    let apart : flat_map (λ (q : Row). q.words) (r ∷ rows) ++ rest ≡ r.words ++ (flat_map (λ (q : Row). q.words) rows ++ rest) =
    ap (λ (l : List ℕ). l ++ rest) (flat_map-cons (λ (q : Row). q.words) r rows) ∙ append_assoc r.words (flat_map (λ (q : Row). q.words) rows) rest in
    let others : List ℕ = flat_map (λ (q : Row). q.words) rows ++ rest in
    ap (λ (l : List ℕ). rows_by (map (λ (q : Row). q.pattern) (r ∷ rows)) (map (λ (q : Row). q.moment) (r ∷ rows)) (map (λ (q : Row). q.log_type) (r ∷ rows)) (map (λ (q : Row). length q.words) (r ∷ rows)) l) apart
    ∙ ap₂ (λ (q : Row) (l : List ℕ). q ∷ rows_by (map (λ (q : Row). q.pattern) rows) (map (λ (q : Row). q.moment) rows) (map (λ (q : Row). q.log_type) rows) (map (λ (q : Row). length q.words) rows) l)
    (same_row r _ _ _ _ refl refl refl (take_at r.words others (length r.words) refl)) (drop_at r.words others (length r.words) refl)
    ∙ ap (λ (l : List Row). r ∷ l) (rows_back rows rest)

-- ---- lists of texts

texts_back : (texts : List (List ℕ)) (rest : List ℕ) → All (λ t. length t < 2 ^ 32) texts → texts_in (length texts) (flat_map text_bytes texts ++ rest) ≡ texts
texts_back [] rest fit = refl
texts_back (t ∷ texts) rest fit =
    let others : List ℕ = flat_map text_bytes texts ++ rest in
    let apart : flat_map text_bytes (t ∷ texts) ++ rest ≡ four_bytes (length t) ++ (t ++ others) =
    ap (λ (l : List ℕ). l ++ rest) (flat_map-cons text_bytes t texts) ∙ append_assoc (text_bytes t) (flat_map text_bytes texts) rest
    ∙ append_assoc (four_bytes (length t)) t others in
    let size : little_number 4 (four_bytes (length t) ++ (t ++ others)) ≡ length t = four_back (length t) (t ++ others) (All-head (λ (u : List ℕ). length u < 2 ^ 32) t texts fit) in
    let behind : drop 4 (four_bytes (length t) ++ (t ++ others)) ≡ t ++ others = drop_at (four_bytes (length t)) (t ++ others) 4 (length-four_bytes (length t)) in
    let past : drop (4 + length t) (four_bytes (length t) ++ (t ++ others)) ≡ others =
    ap (λ (l : List ℕ). drop (4 + length t) l) (sym (append_assoc (four_bytes (length t)) t others))
    ∙ drop_at (four_bytes (length t) ++ t) others (4 + length t) (omega (arith, length-append (four_bytes (length t)) t, length-four_bytes (length t))) in
    ap (λ (l : List ℕ). texts_in (length (t ∷ texts)) l) apart
    ∙ ap₂ (λ (n : ℕ) (l : List ℕ). take n l ∷ texts_in (length texts) (drop (4 + n) (four_bytes (length t) ++ (t ++ others)))) size behind
    ∙ ap₂ (λ (u : List ℕ) (l : List ℕ). u ∷ texts_in (length texts) l) (take_at t others (length t) refl) past
    ∙ ap (λ (l : List (List ℕ)). t ∷ l) (texts_back texts rest (All-tail (λ (u : List ℕ). length u < 2 ^ 32) t texts fit))

pub list_back : (texts : List (List ℕ)) → AreTexts texts → list_in (list_bytes texts) ≡ texts
list_back texts are =
    let size : little_number 4 (list_bytes texts) ≡ length texts = four_back (length texts) (flat_map text_bytes texts) are.count in
    let behind : drop 4 (list_bytes texts) ≡ flat_map text_bytes texts = drop_at (four_bytes (length texts)) (flat_map text_bytes texts) 4 (length-four_bytes (length texts)) in
    ap₂ (λ (n : ℕ) (l : List ℕ). texts_in n l) size (behind ∙ sym (append-nil (flat_map text_bytes texts))) ∙ texts_back texts [] are.lengths

pub first_back : (first : ℕ) (texts : List (List ℕ)) → first < 2 ^ 32 → AreTexts texts
    → (little_number 4 (texts_payload first texts) ≡ first) × (list_in (drop 4 (texts_payload first texts)) ≡ texts)
first_back first texts fit are = (
  four_back first (list_bytes texts) fit,
  ap list_in (drop_at (four_bytes first) (list_bytes texts) 4 (length-four_bytes first)) ∙ list_back texts are,
)

-- ---- the fixed part of a segment

fixed_front : (f : Fixed) (x : List ℕ) → fixed_bytes f ++ x
    ≡ four_bytes f.file ++ (eight_bytes f.first ++ (four_bytes f.rows ++ (flags f.last f.ended f.stamped ∷ (moment_bytes f.least ++ (moment_bytes f.greatest
    ++ (four_bytes f.types ++ (four_bytes f.words ++ (four_bytes f.variables ++ x))))))))
unfolding fixed_bytes
fixed_front f x = simp append_assoc refl

past : (a x : List ℕ) (n k : ℕ) → length a ≡ n → drop (n + k) (a ++ x) ≡ drop k x
past a x n k long = ap (λ m. drop (m + k) (a ++ x)) (sym long) ∙ drop-append-add a x k

last_back : (l e s : Bool) → (flags l e s % 2 == 1) ≡ l
last_back false false false = refl
last_back false false true = refl
last_back false true false = refl
last_back false true true = refl
last_back true false false = refl
last_back true false true = refl
last_back true true false = refl
last_back true true true = refl

ended_back : (l e s : Bool) → (flags l e s / 2 % 2 == 1) ≡ e
ended_back false false false = refl
ended_back false false true = refl
ended_back false true false = refl
ended_back false true true = refl
ended_back true false false = refl
ended_back true false true = refl
ended_back true true false = refl
ended_back true true true = refl

-- what is read at each place of a fixed part and what is behind it
module _ (f : Fixed) (x bytes : List ℕ) (is : bytes ≡ fixed_bytes f ++ x) where
  behind_words : List ℕ
  behind_words = four_bytes f.variables ++ x

  behind_types : List ℕ
  behind_types = four_bytes f.words ++ behind_words

  behind_greatest : List ℕ
  behind_greatest = four_bytes f.types ++ behind_types

  behind_least : List ℕ
  behind_least = moment_bytes f.greatest ++ behind_greatest

  behind_flags : List ℕ
  behind_flags = moment_bytes f.least ++ behind_least

  behind_rows : List ℕ
  behind_rows = flags f.last f.ended f.stamped ∷ behind_flags

  behind_first : List ℕ
  behind_first = four_bytes f.rows ++ behind_rows

  behind_file : List ℕ
  behind_file = eight_bytes f.first ++ behind_first

  whole : List ℕ
  whole = four_bytes f.file ++ behind_file

  is_whole : bytes ≡ whole
  unfolding whole behind_file behind_first behind_rows behind_flags behind_least behind_greatest behind_types behind_words
  is_whole = is ∙ fixed_front f x

  to_rows : (k : ℕ) → drop (4 + (8 + k)) whole ≡ drop k behind_first
  unfolding whole behind_file
  to_rows k = past (four_bytes f.file) behind_file 4 (8 + k) (length-four_bytes f.file) ∙ past (eight_bytes f.first) behind_first 8 k (length-eight_bytes f.first)

  to_flags : (k : ℕ) → drop (4 + (8 + (4 + k))) whole ≡ drop k behind_rows
  unfolding behind_first
  to_flags k = to_rows (4 + k) ∙ past (four_bytes f.rows) behind_rows 4 k (length-four_bytes f.rows)

  to_types : (k : ℕ) → drop (4 + (8 + (4 + (1 + (8 + (8 + k)))))) whole ≡ drop k behind_greatest
  unfolding behind_rows behind_flags behind_least
  to_types k =
      let one : 1 + (8 + (8 + k)) ≡ suc (8 + (8 + k)) = omega arith in
      to_flags (1 + (8 + (8 + k))) ∙ ap (λ n. drop n behind_rows) one
      ∙ past (moment_bytes f.least) behind_least 8 (8 + k) (length-moment_bytes f.least)
      ∙ past (moment_bytes f.greatest) behind_greatest 8 k (length-moment_bytes f.greatest)

  file_at : f.file < 2 ^ 32 → little_number 4 bytes ≡ f.file
  unfolding whole
  file_at fit = ap (little_number 4) is_whole ∙ four_back f.file behind_file fit

  first_at : f.first < 2 ^ 64 → little_number 8 (drop 4 bytes) ≡ f.first
  unfolding whole behind_file
  first_at fit =
      ap (λ (l : List ℕ). little_number 8 (drop 4 l)) is_whole
      ∙ ap (little_number 8) (drop_at (four_bytes f.file) behind_file 4 (length-four_bytes f.file)) ∙ eight_back f.first behind_first fit

  rows_at : f.rows < 2 ^ 32 → little_number 4 (drop 12 bytes) ≡ f.rows
  unfolding behind_first
  rows_at fit = ap (λ (l : List ℕ). little_number 4 (drop 12 l)) is_whole ∙ ap (little_number 4) (to_rows 0) ∙ four_back f.rows behind_rows fit

  flags_at : slice_index bytes 16 ≡ flags f.last f.ended f.stamped
  unfolding behind_rows
  flags_at = ap (λ (l : List ℕ). slice_index l 16) is_whole ∙ sym (get_or-drop 16 whole 0 0) ∙ ap (λ (l : List ℕ). slice_index l 0) (to_flags 0)

  types_at : f.types < 2 ^ 32 → little_number 4 (drop 33 bytes) ≡ f.types
  unfolding behind_greatest
  types_at fit = ap (λ (l : List ℕ). little_number 4 (drop 33 l)) is_whole ∙ ap (little_number 4) (to_types 0) ∙ four_back f.types behind_types fit

  words_at : f.words < 2 ^ 32 → little_number 4 (drop 37 bytes) ≡ f.words
  unfolding behind_greatest behind_types
  words_at fit =
      ap (λ (l : List ℕ). little_number 4 (drop 37 l)) is_whole
      ∙ ap (little_number 4) (to_types 4 ∙ drop_at (four_bytes f.types) behind_types 4 (length-four_bytes f.types)) ∙ four_back f.words behind_words fit

  variables_at : f.variables < 2 ^ 32 → little_number 4 (drop 41 bytes) ≡ f.variables
  unfolding behind_greatest behind_types behind_words
  variables_at fit =
      ap (λ (l : List ℕ). little_number 4 (drop 41 l)) is_whole
      ∙ ap (little_number 4) (
      to_types 8 ∙ past (four_bytes f.types) behind_types 4 4 (length-four_bytes f.types)
      ∙ drop_at (four_bytes f.words) behind_words 4 (length-four_bytes f.words)
      )
      ∙ four_back f.variables x fit

-- ---- the rows of columns

all_words : (rows : List Row) → All IsRow rows → All (λ w. w < 2 ^ 64) (flat_map (λ (r : Row). r.words) rows)
all_words [] fit = All-nil (λ w. w < 2 ^ 64)
all_words (r ∷ rows) fit =
    subst (λ l. All (λ w. w < 2 ^ 64) l) (sym (flat_map-cons (λ (q : Row). q.words) r rows))
    (All-append (λ w. w < 2 ^ 64) r.words (flat_map (λ (q : Row). q.words) rows) ((All-head IsRow r rows fit).words) (all_words rows (All-tail IsRow r rows fit)))

signed_back : (ms : List ℤ) → All (FitsSigned w64) ms → map (cast_signed w64) (map (cast_unsigned w64) ms) ≡ ms
signed_back [] fit = refl
signed_back (m ∷ ms) fit =
    ap₂ (λ (n : ℤ) (l : List ℤ). n ∷ l) (to_z-of_z {w = w64} {z = m} (All-head (FitsSigned w64) m ms fit)) (signed_back ms (All-tail (FitsSigned w64) m ms fit))

moment_back : (m : ℤ) (rest : List ℕ) → FitsSigned w64 m → little_number 8 (moment_bytes m ++ rest) ≡ cast_unsigned w64 m
unfolding moment_bytes
moment_back m rest fit = little_number-reads_back 8 (cast_unsigned w64 m) rest (omega (arith, Fits-of_z {w = w64} {z = m} fit))

map_same : (ns : List ℕ) → map (λ n. n) ns ≡ ns
map_same [] = refl
map_same (n ∷ ns) = ap (λ l. n ∷ l) (map_same ns)

-- so many bytes from a place on are numbers of the column
column_at : {X : Type 0} (size : ℕ) (spell : X → List ℕ) (code : X → ℕ) (Fit : X → Type 0)
    → ((x : X) (rest : List ℕ) → Fit x → little_number size (spell x ++ rest) ≡ code x) → ((x : X) → length (spell x) ≡ size)
    → (xs : List X) (n : ℕ) (bytes rest : List ℕ) → All Fit xs → length xs ≡ n → bytes ≡ flat_map spell xs ++ rest → numbers_in size n bytes ≡ map code xs
column_at size spell code Fit back long xs n bytes rest fit count is =
    ap₂ (λ (k : ℕ) (l : List ℕ). numbers_in size k l) (sym count) is ∙ numbers_back size spell code Fit back long xs rest fit

pub columns_back : (rows : List Row) → All IsRow rows → variable_count rows < 2 ^ 32 → rows_in (length rows) (variable_count rows) (columns_bytes rows) ≡ rows
unfolding fields_bytes
columns_back rows fit few =
    let n = length rows in
    let ps : List ℕ = map (λ (r : Row). r.pattern) rows in
    let ms : List ℤ = map (λ (r : Row). r.moment) rows in
    let ts : List ℕ = map (λ (r : Row). r.log_type) rows in
    let cs : List ℕ = map (λ (r : Row). length r.words) rows in
    let ws : List ℕ = flat_map (λ (r : Row). r.words) rows in
    let behind_cs : List ℕ = flat_map eight_bytes ws in
    let behind_ts : List ℕ = flat_map four_bytes cs ++ behind_cs in
    let behind_ms : List ℕ = flat_map four_bytes ts ++ behind_ts in
    let behind_ps : List ℕ = flat_map moment_bytes ms ++ behind_ms in
    let many_ps : length ps ≡ n = length-map rows (λ (r : Row). r.pattern) in
    let many_ms : length ms ≡ n = length-map rows (λ (r : Row). r.moment) in
    let many_ts : length ts ≡ n = length-map rows (λ (r : Row). r.log_type) in
    let many_cs : length cs ≡ n = length-map rows (λ (r : Row). length r.words) in
    let long_ms : length (flat_map moment_bytes ms) ≡ 8 * n = length_column 8 moment_bytes length-moment_bytes ms ∙ ap (λ k. 8 * k) many_ms in
    let long_ts : length (flat_map four_bytes ts) ≡ 4 * n = length_column 4 four_bytes length-four_bytes ts ∙ ap (λ k. 4 * k) many_ts in
    let long_cs : length (flat_map four_bytes cs) ≡ 4 * n = length_column 4 four_bytes length-four_bytes cs ∙ ap (λ k. 4 * k) many_cs in
    let at_ms : drop n (ps ++ behind_ps) ≡ behind_ps = drop_at ps behind_ps n many_ps in
    let at_ts : drop (n + 8 * n) (ps ++ behind_ps) ≡ behind_ms = past ps behind_ps n (8 * n) many_ps ∙ drop_at (flat_map moment_bytes ms) behind_ms (8 * n) long_ms in
    let to_cs : n + 8 * n + 4 * n ≡ n + (8 * n + 4 * n) = omega arith in
    let at_cs : drop (n + 8 * n + 4 * n) (ps ++ behind_ps) ≡ behind_ts =
    ap (λ k. drop k (ps ++ behind_ps)) to_cs ∙ past ps behind_ps n (8 * n + 4 * n) many_ps ∙ past (flat_map moment_bytes ms) behind_ms (8 * n) (4 * n) long_ms
    ∙ drop_at (flat_map four_bytes ts) behind_ts (4 * n) long_ts in
    let to_ws : n + 8 * n + 4 * n + 4 * n ≡ n + (8 * n + (4 * n + 4 * n)) = omega arith in
    let at_ws : drop (n + 8 * n + 4 * n + 4 * n) (ps ++ behind_ps) ≡ behind_cs =
    ap (λ k. drop k (ps ++ behind_ps)) to_ws ∙ past ps behind_ps n (8 * n + (4 * n + 4 * n)) many_ps ∙ past (flat_map moment_bytes ms) behind_ms (8 * n) (4 * n + 4 * n) long_ms
    ∙ past (flat_map four_bytes ts) behind_ts (4 * n) (4 * n) long_ts ∙ drop_at (flat_map four_bytes cs) behind_cs (4 * n) long_cs in
    let fit_ms : All (FitsSigned w64) ms = All-map (FitsSigned w64) (λ (r : Row). r.moment) rows (λ k d lt. (fit k d lt).moment) in
    let fit_ts : All (λ t. t < 2 ^ 32) ts = All-map (λ t. t < 2 ^ 32) (λ (r : Row). r.log_type) rows (λ k d lt. (fit k d lt).log_type) in
    let fit_cs : All (λ t. t < 2 ^ 32) cs =
    All-map (λ t. t < 2 ^ 32) (λ (r : Row). length r.words) rows (λ k d lt. omega (arith, get_or-le-sum_by (λ (r : Row). length r.words) rows k d lt, few)) in
    let read_ms : map (cast_signed w64) (numbers_in 8 n (drop n (ps ++ behind_ps))) ≡ ms =
    ap (map (cast_signed w64)) (column_at 8 moment_bytes (cast_unsigned w64) (FitsSigned w64) moment_back length-moment_bytes ms n _ behind_ms fit_ms many_ms at_ms) ∙ signed_back ms fit_ms in
    let read_ts : numbers_in 4 n (drop (n + 8 * n) (ps ++ behind_ps)) ≡ ts =
    column_at 4 four_bytes (λ t. t) (λ t. t < 2 ^ 32) four_back length-four_bytes ts n _ behind_ts fit_ts many_ts at_ts ∙ map_same ts in
    let read_cs : numbers_in 4 n (drop (n + 8 * n + 4 * n) (ps ++ behind_ps)) ≡ cs =
    column_at 4 four_bytes (λ t. t) (λ t. t < 2 ^ 32) four_back length-four_bytes cs n _ behind_cs fit_cs many_cs at_cs ∙ map_same cs in
    let read_ws : numbers_in 8 (variable_count rows) (drop (n + 8 * n + 4 * n + 4 * n) (ps ++ behind_ps)) ≡ ws =
    column_at 8 eight_bytes (λ t. t) (λ w. w < 2 ^ 64) eight_back length-eight_bytes ws (variable_count rows) _ [] (all_words rows fit)
    (length-flat_map (λ (r : Row). r.words) rows) (at_ws ∙ sym (append-nil behind_cs)) ∙ map_same ws in
    ap₂ (λ (p : List ℕ) (m : List ℤ). rows_by p m (numbers_in 4 n (drop (n + 8 * n) (ps ++ behind_ps))) (numbers_in 4 n (drop (n + 8 * n + 4 * n) (ps ++ behind_ps)))
    (numbers_in 8 (variable_count rows) (drop (n + 8 * n + 4 * n + 4 * n) (ps ++ behind_ps)))) (take_at ps behind_ps n many_ps) read_ms
    ∙ ap₂ (λ (t c : List ℕ). rows_by ps ms t c (numbers_in 8 (variable_count rows) (drop (n + 8 * n + 4 * n + 4 * n) (ps ++ behind_ps)))) read_ts read_cs
    ∙ ap (λ (w : List ℕ). rows_by ps ms ts cs w) (read_ws ∙ sym (append-nil ws))
    ∙ rows_back rows []

-- ---- segments and entries

same_segment : (file first : ℕ) (last ended : Bool) (rows : List Row) (a b : ℕ) (c d : Bool) (e : List Row) → a ≡ file → b ≡ first → c ≡ last → d ≡ ended → e ≡ rows
    → (let x : SegmentEntry = record { file = a; first = b; last = c; ended = d; rows = e } in x) ≡ record { file = file; first = first; last = last; ended = ended; rows = rows }
same_segment file first last ended rows a b c d e p q r s t = λ i. record { file = p i; first = q i; last = r i; ended = s i; rows = t i }

fixed_behind : (f : Fixed) (types words x : List ℕ) → (fixed_bytes f ++ (types ++ words)) ++ x ≡ fixed_bytes f ++ ((types ++ words) ++ x)
fixed_behind f types words x = append_assoc (fixed_bytes f) (types ++ words) x

pub segment_back : (file first : ℕ) (last ended : Bool) (rows : List Row) (words : List ℕ) → IsSegment file first last ended rows words
    → segment_in (segment_bytes file first last ended rows words) ≡ record { file = file; first = first; last = last; ended = ended; rows = rows }
segment_back file first last ended rows words fits =
    let head : Head = head_of file first last ended rows words in
    let f : Fixed = fixed_of head in
    let lists : List ℕ = flat_map four_bytes head.types ++ flat_map four_bytes head.words in
    let x : List ℕ = lists ++ columns_bytes rows in
    let bytes : List ℕ = segment_bytes file first last ended rows words in
    let is : bytes ≡ fixed_bytes f ++ x = append_assoc (fixed_bytes f) lists (columns_bytes rows) in
    let few_types : length head.types < 2 ^ 32 = omega (arith, set_is_short (map (λ (r : Row). r.log_type) rows), length-map rows (λ (r : Row). r.log_type), fits.few_rows) in
    let flag = flags_at f x bytes is in
    let types : little_number 4 (drop 33 bytes) ≡ length head.types = types_at f x bytes is few_types in
    let numbers : little_number 4 (drop 37 bytes) ≡ length words = words_at f x bytes is fits.few_words in
    let long : length lists ≡ 4 * (length head.types + length words) =
    omega (
      arith,
      length-append (flat_map four_bytes head.types) (flat_map four_bytes head.words),
      length_column 4 four_bytes length-four_bytes head.types,
      length_column 4 four_bytes length-four_bytes head.words,
    ) in
    let behind : drop (45 + 4 * (length head.types + length words)) bytes ≡ columns_bytes rows =
    ap (drop (45 + 4 * (length head.types + length words))) is
    ∙ past (fixed_bytes f) x 45 (4 * (length head.types + length words)) (length-fixed_bytes f)
    ∙ drop_at lists (columns_bytes rows) (4 * (length head.types + length words)) long in
    let columns : drop (45 + 4 * (little_number 4 (drop 33 bytes) + little_number 4 (drop 37 bytes))) bytes ≡ columns_bytes rows =
    ap₂ (λ (t w : ℕ). drop (45 + 4 * (t + w)) bytes) types numbers ∙ behind in
    let counted : rows_in (little_number 4 (drop 12 bytes)) (little_number 4 (drop 41 bytes)) (columns_bytes rows) ≡ rows =
    ap₂ (λ (n v : ℕ). rows_in n v (columns_bytes rows)) (rows_at f x bytes is fits.few_rows) (variables_at f x bytes is fits.few_variables)
    ∙ columns_back rows fits.rows_fit fits.few_variables in
    same_segment file first last ended rows _ _ _ _ _
    (file_at f x bytes is fits.file_fits) (first_at f x bytes is fits.first_fits)
    (ap (λ n. n % 2 == 1) flag ∙ last_back f.last f.ended f.stamped) (ap (λ n. n / 2 % 2 == 1) flag ∙ ended_back f.last f.ended f.stamped)
    (ap (λ l. rows_in (little_number 4 (drop 12 bytes)) (little_number 4 (drop 41 bytes)) l) columns ∙ counted)

-- no record is of two entries, and each entry that has a form is read back from its record
pub entry_back : (types : List (List ℕ)) (e : JournalEntry) → HasForm types e → entry_in (record_of types e) ≡ e
entry_back types (Files names) form = ap Files (list_back names form)
entry_back types (Types first texts) form = let back = first_back first texts form.0 form.1 in ap₂ Types back.0 back.1
entry_back types (Words first texts) form = let back = first_back first texts form.0 form.1 in ap₂ Words back.0 back.1
entry_back types (Segment s) form = ap Segment (segment_back s.file s.first s.last s.ended s.rows (words_named types s.rows) form)

pub entries_back : (types : List (List ℕ)) (es : List JournalEntry) → HaveForms types es → map entry_in (records_from types es) ≡ es
entries_back types [] forms = refl
entries_back types (e ∷ es) forms = ap₂ (λ (x : JournalEntry) (l : List JournalEntry). x ∷ l) (entry_back types e forms.0) (entries_back (types ++ types_added e) es forms.2)
