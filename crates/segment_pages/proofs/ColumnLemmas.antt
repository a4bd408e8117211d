-- The columns of the rows that are left, each for itself.
use Rattle.std.proofs.Common.{IfSome, ap₂, ⊎_elim, Bool, false, ◌≡◌, ◌≤◌, ◌<◌, ◌+◌, ◌-◌, ◌*◌, ◌^◌, ℕ, ℤ, List, [], ◌∷◌, ◌++◌, length, take, drop, map, All, Option, Some, None, refl, sym, ◌∙◌, ap, subst, arith, length-append}
use Rattle.std.specs.List.{flat_map}
use Rattle.std.specs.Int.{w64}
use Rattle.std.specs.Int.RustNames.{FitsSigned}
use Rattle.std.proofs.Math.Seq.{take-add}
use Rattle.std.proofs.lemmas.List.{take_at, drop_at, drop-take, take-take, drop-drop, take-append-drop, length-take, length-drop, length-map, map-append, take_all}
use Rattle.std.proofs.lemmas.Bool.{cases_lt}
use Rattle.std.proofs.lemmas.List.Concat.{flat_map-append, flat_map-cons}
use Rattle.std.proofs.lemmas.List.Elements.{All-nil, All-append, All-map, All-take, All-drop, All-weaker}
use Rattle.record_format.specs.Lists.{four_bytes}
use Rattle.record_format.proofs.ListLemmas.{length-four_bytes}
use Rattle.column_store.specs.declared.row.Row.{Row}
use Rattle.column_store.specs.Row.{IsRow, variable_count}
use Rattle.log_seams.specs.Disk.{DiskState}
use Rattle.segment_format.specs.declared.ask.PageAsk.{PageAsk}
use Rattle.segment_format.specs.Layout.{fields_bytes, moment_bytes}
use Rattle.segment_format.specs.Pages.{IsPage, Pages, after, page_rows, pieces}
use Rattle.segment_format.specs.Laws.{HoldsPages, page_bytes, piece}
use Rattle.segment_format.proofs.FixedLemmas.{length-moment_bytes}
use Rattle.segment_format.proofs.UniqueLemmas.{Tells, column_once, length_column, moments_tell, numbers_tell, same_parts}
use Rattle.segment_pages.specs.Laws.{LeftAreCounted}
use Rattle.segment_pages.specs.Paged.{AreTypes, AreTypesTold, HoldsLeft, HoldsNoneTold, OfRows, Paged, ReadsColumns, columns_size, moments_in, paged, paged_end, part, patterns_in, payload_size, types_in}
use Rattle.segment_pages.specs.Reads.{OnlyReadsIn}
use Rattle.segment_pages.specs.StepsLoaded.{EndsBefore, passing}
use Rattle.segment_pages.proofs.PageLemmas.{dropped, long_piece, none_left, piece_within, short_told}
use Rattle.segment_pages.proofs.ReadLemmas.{reads_wider}

-- ---- pieces

join : (payload : List ℕ) (at next n m k : ℕ) (a b : List ℕ) → next ≡ at + n → k ≡ n + m → piece at n payload ≡ a → piece next m payload ≡ b → piece at k payload ≡ a ++ b
join payload at next n m k a b is_next is_k first others =
    let rest : drop n (drop at payload) ≡ drop next payload = drop-drop n at payload ∙ ap (λ (j : ℕ). drop j payload) (sym is_next) in
    ap (λ (j : ℕ). take j (drop at payload)) is_k ∙ take-add n m (drop at payload)
    ∙ ap (λ (l : List ℕ). take n (drop at payload) ++ take m l) rest
    ∙ (λ i. first i ++ others i)

-- three of the columns of so many rows
record AreIn (p : Pages) (n : ℕ) (payload : List ℕ) (rows : List Row) : Type 0 where
  patterns : piece (pieces p).patterns n payload ≡ patterns_in rows
  moments : piece (pieces p).moments (8 * n) payload ≡ flat_map moment_bytes (moments_in rows)
  types : piece (pieces p).types (4 * n) payload ≡ flat_map four_bytes (types_in rows)
  fit : All IsRow rows
  count : length rows ≡ n

of_page : (p : Pages) (payload : List ℕ) (page : List Row) → length payload ≡ payload_size p → p.row < p.rows → IsPage p (page_bytes p (variable_count page) payload) page → AreIn p (page_rows p) payload page
unfolding fields_bytes
of_page p payload page size left is =
    let n : ℕ = page_rows p in
    let l1 = long_piece (p.start + p.row) n payload (omega (arith, size, left)) in
    let l2 = long_piece (p.start + p.rows + 8 * p.row) (8 * n) payload (omega (arith, size, left)) in
    let l3 = long_piece (p.start + 9 * p.rows + 4 * p.row) (4 * n) payload (omega (arith, size, left)) in
    let m1 : length (patterns_in page) ≡ n = length-map page (λ (r : Row). r.pattern) ∙ is.columns.count in
    let m2 : length (flat_map moment_bytes (moments_in page)) ≡ 8 * n =
    length_column 8 moment_bytes length-moment_bytes (moments_in page) ∙ ap (λ (k : ℕ). 8 * k) (length-map page (λ (r : Row). r.moment) ∙ is.columns.count) in
    let m3 : length (flat_map four_bytes (types_in page)) ≡ 4 * n =
    length_column 4 four_bytes length-four_bytes (types_in page) ∙ ap (λ (k : ℕ). 4 * k) (length-map page (λ (r : Row). r.log_type) ∙ is.columns.count) in
    let p1 = same_parts _ _ _ _ (l1 ∙ sym m1) is.columns.spelled in
    let p2 = same_parts _ _ _ _ (l2 ∙ sym m2) p1.1 in
    let p3 = same_parts _ _ _ _ (l3 ∙ sym m3) p2.1 in
    record { patterns = p1.0; moments = p2.0; types = p3.0; fit = is.columns.fit; count = is.columns.count }

both : {X : Type 0} (f : Row → X) (spell : X → List ℕ) (page rest : List Row) → flat_map spell (map f (page ++ rest)) ≡ flat_map spell (map f page) ++ flat_map spell (map f rest)
both f spell page rest = ap (flat_map spell) (map-append f page rest) ∙ flat_map-append spell (map f page) (map f rest)

of_pages : (p : Pages) (payload : List ℕ) (left : List (List Row)) → length payload ≡ payload_size p → p.row ≤ p.rows → HoldsPages p payload left
    → AreIn p (p.rows - p.row) payload (flat_map (λ (page : List Row). page) left)
of_pages p payload [] size row holds =
    let none : p.rows - p.row ≡ 0 = omega (arith, holds) in
    record {
      patterns = ap (λ (k : ℕ). piece (pieces p).patterns k payload) none;
      moments = ap (λ (k : ℕ). piece (pieces p).moments (8 * k) payload) none;
      types = ap (λ (k : ℕ). piece (pieces p).types (4 * k) payload) none;
      fit = All-nil IsRow;
      count = sym none;
    }
of_pages p payload (page ∷ left) size row holds =
    let n : ℕ = page_rows p in
    let m : ℕ = p.rows - (p.row + n) in
    let k : ℕ = p.rows - p.row in
    let rest : List Row = flat_map (λ (page : List Row). page) left in
    let first = of_page p payload page size holds.0 holds.1 in
    let others = of_pages (after p page) payload left size (omega (arith, row)) holds.2 in
    let rows : k ≡ n + m = omega (arith, row) in
    let all : flat_map (λ (page : List Row). page) (page ∷ left) ≡ page ++ rest = flat_map-cons (λ (l : List Row). l) page left in
    subst (AreIn p k payload) (sym all) (record {
      patterns = join payload (p.start + p.row) (p.start + (p.row + n)) n m k _ _ (omega arith) rows first.patterns others.patterns ∙ sym (map-append (λ (r : Row). r.pattern) page rest);
      moments = join payload (p.start + p.rows + 8 * p.row) (p.start + p.rows + 8 * (p.row + n)) (8 * n) (8 * m) (8 * k) _ _ (omega arith) (omega (arith, rows)) first.moments others.moments
          ∙ sym (both (λ r. r.moment) moment_bytes page rest);
      types = join payload (p.start + 9 * p.rows + 4 * p.row) (p.start + 9 * p.rows + 4 * (p.row + n)) (4 * n) (4 * m) (4 * k) _ _ (omega arith) (omega (arith, rows)) first.types others.types
          ∙ sym (both (λ r. r.log_type) four_bytes page rest);
      fit = All-append IsRow page rest first.fit others.fit;
      count = omega (arith, length-append page rest, first.count, others.count, rows);
    })

-- ---- a part of a column

part_within : (s c n : ℕ) (xs : List ℕ) → s + c ≤ n → take c (drop s xs) ≡ take c (drop s (take n xs))
part_within s c n xs le =
    let j : ℕ = n - s in
    let whole : n ≡ s + j = omega (arith, le) in
    sym (ap (λ (k : ℕ). take c (drop s (take k xs))) whole ∙ ap (take c) (drop-take s j xs) ∙ take-take c j (drop s xs) (omega (arith, le)))

part_spelled : {X : Type 0} (n : ℕ) (spell : X → List ℕ) → ((x : X) → length (spell x) ≡ n) → (xs : List X) (s c : ℕ) → s + c ≤ length xs
    → take (n * c) (drop (n * s) (flat_map spell xs)) ≡ flat_map spell (part s c xs)
part_spelled {X} n spell long xs s c le =
    let rest : List X = drop s xs in
    let front : length (flat_map spell (take s xs)) ≡ n * s =
    length_column n spell long (take s xs) ∙ ap (λ (k : ℕ). n * k) (omega (arith, length-take s xs, le)) in
    let cut : flat_map spell xs ≡ flat_map spell (take s xs) ++ flat_map spell rest =
    ap (flat_map spell) (sym (take-append-drop s xs)) ∙ flat_map-append spell (take s xs) rest in
    let middle : length (flat_map spell (take c rest)) ≡ n * c =
    length_column n spell long (take c rest) ∙ ap (λ (k : ℕ). n * k) (omega (arith, length-take c rest, length-drop s xs, le)) in
    let again : flat_map spell rest ≡ flat_map spell (take c rest) ++ flat_map spell (drop c rest) =
    ap (flat_map spell) (sym (take-append-drop c rest)) ∙ flat_map-append spell (take c rest) (drop c rest) in
    ap (λ (l : List ℕ). take (n * c) (drop (n * s) l)) cut ∙ ap (take (n * c)) (drop_at (flat_map spell (take s xs)) (flat_map spell rest) (n * s) front)
    ∙ ap (take (n * c)) again ∙ take_at (flat_map spell (take c rest)) (flat_map spell (drop c rest)) (n * c) middle

-- ---- of the bytes of a disk

-- the columns stand in the bytes of the disk from a place on
in_bytes : (p : Paged) (bytes : List ℕ) (rows : List Row) → p.pages.row < p.pages.rows → HoldsLeft p bytes rows → AreIn p.pages (p.pages.rows - p.pages.row) (drop p.at bytes) rows
in_bytes p bytes rows left holds =
    let n : ℕ = p.pages.rows - p.pages.row in
    let are : AreIn p.pages n holds.payload rows = subst (AreIn p.pages n holds.payload) (sym holds.are) (of_pages p.pages holds.payload holds.left holds.sized (omega (arith, left)) holds.holds) in
    let here : drop p.at bytes ≡ holds.payload ++ holds.stands.behind = dropped p.at holds.payload bytes holds.stands in
    let within : (at m : ℕ) → at + m ≤ length holds.payload → piece at m (drop p.at bytes) ≡ piece at m holds.payload =
    λ at m le. ap (piece at m) here ∙ piece_within at m holds.payload holds.stands.behind le in
    record {
      patterns = within (p.pages.start + p.pages.row) n (omega (arith, holds.sized, left)) ∙ are.patterns;
      moments = within (p.pages.start + p.pages.rows + 8 * p.pages.row) (8 * n) (omega (arith, holds.sized, left)) ∙ are.moments;
      types = within (p.pages.start + 9 * p.pages.rows + 4 * p.pages.row) (4 * n) (omega (arith, holds.sized, left)) ∙ are.types;
      fit = are.fit;
      count = are.count;
    }

-- what was read of a column are the values of the rows
read_once : {X : Type 0} (n : ℕ) (spell : X → List ℕ) (Fit : X → Type 0) → Tells n spell Fit → (at place s c m k : ℕ) (bytes text : List ℕ) (xs out : List X) → s + c ≤ m → n * s + n * c ≤ n * m → length xs ≡ m → All Fit xs → All Fit out
    → piece place (n * m) (drop at bytes) ≡ flat_map spell xs → k ≡ n * c → text ≡ take k (drop (at + place + n * s) bytes) → text ≡ flat_map spell out → length out ≡ c → out ≡ part s c xs
read_once {X} n spell Fit tells at place s c m k bytes text xs out le most count fit_xs fit_out column size text_is spelled long =
    let d : List ℕ = drop place (drop at bytes) in
    let same : drop (at + place + n * s) bytes ≡ drop (n * s) d =
    sym (drop-drop (n * s) (at + place) bytes) ∙ ap (drop (n * s)) (sym (drop-drop place at bytes)) in
    let there : text ≡ flat_map spell (part s c xs) =
    text_is ∙ ap (λ (j : ℕ). take j (drop (at + place + n * s) bytes)) size ∙ ap (take (n * c)) same ∙ part_within (n * s) (n * c) (n * m) d most ∙ ap (λ (l : List ℕ). take (n * c) (drop (n * s) l)) column
    ∙ part_spelled n spell tells.long xs s c (omega (arith, le, count)) in
    column_once n spell Fit tells out (part s c xs) fit_out (All-take Fit c (drop s xs) (All-drop Fit s xs fit_xs))
    (omega (arith, long, length-take c (drop s xs), length-drop s xs, le, count)) (sym spelled ∙ there)

types_fit : (rows : List Row) → All IsRow rows → All (λ n. n < 2 ^ 32) (types_in rows)
types_fit rows fit = All-map (λ n. n < 2 ^ 32) (λ (r : Row). r.log_type) rows (All-weaker IsRow (λ r. r.log_type < 2 ^ 32) (λ r is. is.log_type) rows fit)

moments_fit : (rows : List Row) → All IsRow rows → All (FitsSigned w64) (moments_in rows)
moments_fit rows fit = All-map (FitsSigned w64) (λ (r : Row). r.moment) rows (All-weaker IsRow (λ r. FitsSigned w64 r.moment) (λ r is. is.moment) rows fit)

-- what is read of a column lies where it says
pub record IsPart (p : Paged) (s c : ℕ) : Type 0 where
  pub left : p.pages.row < p.pages.rows
  pub within : s + c ≤ p.pages.rows - p.pages.row

pub types_told : (seen : Option (List ℕ)) (p : Paged) (s c k place : ℕ) (text out : List ℕ) → IsPart p s c → place ≡ p.at + (pieces p.pages).types + 4 * s → k ≡ 4 * c
    → IfSome seen (λ bytes. text ≡ take k (drop place bytes)) → text ≡ flat_map four_bytes out → All (λ n. n < 2 ^ 32) out → length out ≡ c → OfRows seen p (λ rows. out ≡ part s c (types_in rows))
types_told None p s c k place text out is at size told spelled fit long = tt
types_told (Some bytes) p s c k place text out is at size told spelled fit long = λ rows holds.
    let are = in_bytes p bytes rows is.left holds in
    let m : ℕ = p.pages.rows - p.pages.row in
    read_once 4 four_bytes (λ n. n < 2 ^ 32) numbers_tell p.at (pieces p.pages).types s c m k bytes text (types_in rows) out is.within (omega (arith, is.within)) (length-map rows (λ (r : Row). r.log_type) ∙ are.count)
    (types_fit rows are.fit) fit are.types size (told ∙ ap (λ (j : ℕ). take k (drop j bytes)) at) spelled long

pub moments_told : (seen : Option (List ℕ)) (p : Paged) (s c k place : ℕ) (text : List ℕ) (out : List ℤ) → IsPart p s c → place ≡ p.at + (pieces p.pages).moments + 8 * s → k ≡ 8 * c
    → IfSome seen (λ bytes. text ≡ take k (drop place bytes)) → text ≡ flat_map moment_bytes out → All (FitsSigned w64) out → length out ≡ c → OfRows seen p (λ rows. out ≡ part s c (moments_in rows))
moments_told None p s c k place text out is at size told spelled fit long = tt
moments_told (Some bytes) p s c k place text out is at size told spelled fit long = λ rows holds.
    let are = in_bytes p bytes rows is.left holds in
    let m : ℕ = p.pages.rows - p.pages.row in
    read_once 8 moment_bytes (FitsSigned w64) moments_tell p.at (pieces p.pages).moments s c m k bytes text (moments_in rows) out is.within (omega (arith, is.within)) (length-map rows (λ (r : Row). r.moment) ∙ are.count)
    (moments_fit rows are.fit) fit are.moments size (told ∙ ap (λ (j : ℕ). take k (drop j bytes)) at) spelled long

pub patterns_told : (seen : Option (List ℕ)) (p : Paged) (s c k place : ℕ) (out : List ℕ) → IsPart p s c → place ≡ p.at + (pieces p.pages).patterns + s → k ≡ c
    → IfSome seen (λ bytes. out ≡ take k (drop place bytes)) → OfRows seen p (λ rows. out ≡ part s c (patterns_in rows))
patterns_told None p s c k place out is at size told = tt
patterns_told (Some bytes) p s c k place out is at size told = λ rows holds.
    let are = in_bytes p bytes rows is.left holds in
    let column : ℕ = (pieces p.pages).patterns in
    let same : drop place bytes ≡ drop s (drop column (drop p.at bytes)) =
    ap (λ (j : ℕ). drop j bytes) at ∙ sym (drop-drop s (p.at + column) bytes) ∙ ap (drop s) (sym (drop-drop column p.at bytes)) in
    told ∙ ap (λ (j : ℕ). take j (drop place bytes)) size ∙ ap (take c) same ∙ part_within s c (p.pages.rows - p.pages.row) (drop column (drop p.at bytes)) is.within ∙ ap (λ (l : List ℕ). take c (drop s l)) are.patterns

-- ---- where a column lies

-- from a column's place on as many bytes lie within the columns of the segment
pub types_within : (p : Paged) (s c k place : ℕ) → IsPart p s c → place ≡ p.at + (pieces p.pages).types + 4 * s → k ≡ 4 * c → (p.at + p.pages.start ≤ place) × (place + k ≤ p.at + p.pages.start + columns_size p.pages)
types_within p s c k place is at size = (omega (arith, at), omega (arith, at, size, is.left, is.within))

pub moments_within : (p : Paged) (s c k place : ℕ) → IsPart p s c → place ≡ p.at + (pieces p.pages).moments + 8 * s → k ≡ 8 * c → (p.at + p.pages.start ≤ place) × (place + k ≤ p.at + p.pages.start + columns_size p.pages)
moments_within p s c k place is at size = (omega (arith, at), omega (arith, at, size, is.left, is.within))

pub patterns_within : (p : Paged) (s c k place : ℕ) → IsPart p s c → place ≡ p.at + (pieces p.pages).patterns + s → k ≡ c → (p.at + p.pages.start ≤ place) × (place + k ≤ p.at + p.pages.start + columns_size p.pages)
patterns_within p s c k place is at size = (omega (arith, at), omega (arith, at, size, is.left, is.within))

-- ---- the reader

-- where a reader stands that has not passed all rows
pub stands_as : (at : ℕ) (passed : Bool) (pages : Pages) (p : Paged) → paged at (passing passed pages) ≡ p → passed ≡ false → p ≡ paged at pages
stands_as at passed pages p is not = sym is ∙ ap (λ (b : Bool). paged at (passing b pages)) not

pub counted_left : LeftAreCounted
counted_left p bytes rows holds = ⊎_elim
    (λ some. (in_bytes p bytes rows some holds).count)
    (λ done. ap (λ (l : List Row). length l) (none_left p bytes rows done holds) ∙ omega (arith, done))
    (cases_lt p.pages.row p.pages.rows)

-- the log types of all rows that are left, read at once: those of a later page stand behind the others
all_types : (bytes : List ℕ) (p : Paged) (c place : ℕ) (text out : List ℕ) → c ≡ p.pages.rows - p.pages.row → place ≡ p.at + (pieces p.pages).types → text ≡ take (4 * c) (drop place bytes) → text ≡ flat_map four_bytes out → All (λ n. n < 2 ^ 32) out
    → length out ≡ c → AreTypes bytes p out
all_types bytes p c place text out whole at told spelled fit long = λ later count rows is holds.
    let m : ℕ = later.pages.rows - later.pages.row in
    let there : ℕ = place + 4 * count in
    let total : c ≡ count + m = omega (arith, whole, is.row, is.rows, is.left) in
    let size : 4 * c ≡ 4 * count + 4 * m = omega (arith, total) in
    let front : length (flat_map four_bytes (take count out)) ≡ 4 * count =
    length_column 4 four_bytes length-four_bytes (take count out) ∙ ap (λ (k : ℕ). 4 * k) (omega (arith, length-take count out, long, total)) in
    let parts : text ≡ flat_map four_bytes (take count out) ++ flat_map four_bytes (drop count out) =
    spelled ∙ ap (flat_map four_bytes) (sym (take-append-drop count out)) ∙ flat_map-append four_bytes (take count out) (drop count out) in
    let own : drop (4 * count) text ≡ flat_map four_bytes (drop count out) =
    ap (drop (4 * count)) parts ∙ drop_at (flat_map four_bytes (take count out)) (flat_map four_bytes (drop count out)) (4 * count) front in
    let here : drop (4 * count) text ≡ take (4 * m) (drop there bytes) =
    ap (drop (4 * count)) (told ∙ ap (λ (k : ℕ). take k (drop place bytes)) size) ∙ drop-take (4 * count) (4 * m) (drop place bytes) ∙ ap (take (4 * m)) (drop-drop (4 * count) place bytes) in
    let first : drop count out ≡ part 0 m (types_in rows) =
    types_told (Some bytes) later 0 m (4 * m) there (drop (4 * count) text) (drop count out) (record { left = is.left; within = omega arith }) (omega (arith, at, is.at, is.start, is.rows, is.row)) refl here own
    (All-drop (λ n. n < 2 ^ 32) count out fit) (omega (arith, length-drop count out, long, total)) rows holds in
    let counted : length (types_in rows) ≡ m = length-map rows (λ (r : Row). r.log_type) ∙ counted_left later bytes rows holds in
    sym (first ∙ take_all m (types_in rows) (omega (arith, counted)))

-- behind all rows none are left
pub end_holds : (p : Paged) (bytes : List ℕ) (rows : List Row) → HoldsLeft p bytes rows → HoldsLeft (paged_end p) bytes []
end_holds p bytes rows holds = record { payload = holds.payload; stands = holds.stands; sized = holds.sized; left = []; holds = omega arith; are = refl }

-- ---- what is read of a column

-- a reader that asks for its next page reads so many rows behind the first ones
pub record Reading (at : ℕ) (ask : PageAsk) (p : Paged) (s c : ℕ) : Type 0 where
  pub place : p.at ≡ at
  pub asks : ask ≡ pieces p.pages
  pub part : IsPart p s c

pub reading_of : (at : ℕ) (passed : Bool) (pages : Pages) (ask : PageAsk) (p : Paged) (s c : ℕ) → paged at (passing passed pages) ≡ p → passed ≡ false → ask ≡ pieces pages → pages.row < pages.rows
    → s + c ≤ p.pages.rows - p.pages.row → Reading at ask p s c
reading_of at passed pages ask p s c view not asks left within =
    let is : p ≡ paged at pages = stands_as at passed pages p view not in
    record {
      place = ap (λ (q : Paged). q.at) is;
      asks = asks ∙ sym (ap (λ (q : Paged). pieces q.pages) is);
      part = record { left = subst (λ (q : Paged). q.pages.row < q.pages.rows) (sym is) left; within = within };
    }

-- a reader that asks for its next page, and reads a column of all rows that are left
pub all_reading : (at : ℕ) (passed : Bool) (pages : Pages) (ask : PageAsk) (p : Paged) (c : ℕ) → paged at (passing passed pages) ≡ p → passed ≡ false → ask ≡ pieces pages → pages.row < pages.rows → c ≡ pages.rows - pages.row
    → Reading at ask p 0 c × (c ≡ p.pages.rows - p.pages.row)
all_reading at passed pages ask p c view not asks left count =
    let whole : c ≡ p.pages.rows - p.pages.row = count ∙ sym (ap (λ (q : Paged). q.pages.rows - q.pages.row) (stands_as at passed pages p view not)) in
    (reading_of at passed pages ask p 0 c view not asks left (omega (arith, whole)), whole)

short_column : (seen : Option (List ℕ)) (p : Paged) (place k : ℕ) → place + k ≤ p.at + p.pages.start + columns_size p.pages → EndsBefore (place + k) seen → HoldsNoneTold seen p
short_column seen p place k within short = short_told (place + k) seen p (omega (arith, within)) short

-- what was cut from a buffer is what was read into it
pub patterns_cut : (seen : Option (List ℕ)) (k place : ℕ) (buffer out : List ℕ) → out ≡ take k buffer → IfSome seen (λ bytes. take k buffer ≡ take k (drop place bytes)) → IfSome seen (λ bytes. out ≡ take k (drop place bytes))
patterns_cut None k place buffer out cut told = tt
patterns_cut (Some bytes) k place buffer out cut told = cut ∙ told

module _ (at : ℕ) (ask : PageAsk) (p : Paged) (s c : ℕ) (r : Reading at ask p s c) where
  types_at : at + ask.types + 4 * s ≡ p.at + (pieces p.pages).types + 4 * s
  types_at = ap₂ (λ (x : ℕ) (a : PageAsk). x + a.types + 4 * s) (sym r.place) r.asks

  moments_at : at + ask.moments + 8 * s ≡ p.at + (pieces p.pages).moments + 8 * s
  moments_at = ap₂ (λ (x : ℕ) (a : PageAsk). x + a.moments + 8 * s) (sym r.place) r.asks

  patterns_at : at + ask.patterns + s ≡ p.at + (pieces p.pages).patterns + s
  patterns_at = ap₂ (λ (x : ℕ) (a : PageAsk). x + a.patterns + s) (sym r.place) r.asks

  pub types_reads : (d e : DiskState) → OnlyReadsIn (at + ask.types + 4 * s) (4 * c) d e → ReadsColumns p d e
  types_reads d e reads =
      let within = types_within p s c (4 * c) (at + ask.types + 4 * s) r.part types_at refl in
      reads_wider (at + ask.types + 4 * s) (4 * c) d e reads (p.at + p.pages.start) (columns_size p.pages) within.0 within.1

  -- of the first of these rows on
  pub all_reads : (d e : DiskState) → s ≡ 0 → OnlyReadsIn (at + ask.types) (4 * c) d e → ReadsColumns p d e
  all_reads d e none reads =
      let here : at + ask.types ≡ at + ask.types + 4 * s = omega (arith, none) in
      types_reads d e (subst (λ (x : ℕ). OnlyReadsIn x (4 * c) d e) here reads)

  pub moments_reads : (d e : DiskState) → OnlyReadsIn (at + ask.moments + 8 * s) (8 * c) d e → ReadsColumns p d e
  moments_reads d e reads =
      let within = moments_within p s c (8 * c) (at + ask.moments + 8 * s) r.part moments_at refl in
      reads_wider (at + ask.moments + 8 * s) (8 * c) d e reads (p.at + p.pages.start) (columns_size p.pages) within.0 within.1

  pub patterns_reads : (d e : DiskState) (k : ℕ) → k ≡ c → OnlyReadsIn (at + ask.patterns + s) k d e → ReadsColumns p d e
  patterns_reads d e k size reads =
      let within = patterns_within p s c k (at + ask.patterns + s) r.part patterns_at size in
      reads_wider (at + ask.patterns + s) k d e reads (p.at + p.pages.start) (columns_size p.pages) within.0 within.1

  pub types_short : (seen : Option (List ℕ)) → EndsBefore (at + ask.types + 4 * s + 4 * c) seen → HoldsNoneTold seen p
  types_short seen short = short_column seen p (at + ask.types + 4 * s) (4 * c) (types_within p s c (4 * c) (at + ask.types + 4 * s) r.part types_at refl).1 short

  pub all_short : (seen : Option (List ℕ)) → s ≡ 0 → EndsBefore (at + ask.types + 4 * c) seen → HoldsNoneTold seen p
  all_short seen none short =
      let here : at + ask.types + 4 * c ≡ at + ask.types + 4 * s + 4 * c = omega (arith, none) in
      types_short seen (subst (λ (x : ℕ). EndsBefore x seen) here short)

  pub moments_short : (seen : Option (List ℕ)) → EndsBefore (at + ask.moments + 8 * s + 8 * c) seen → HoldsNoneTold seen p
  moments_short seen short = short_column seen p (at + ask.moments + 8 * s) (8 * c) (moments_within p s c (8 * c) (at + ask.moments + 8 * s) r.part moments_at refl).1 short

  pub patterns_short : (seen : Option (List ℕ)) (k : ℕ) → k ≡ c → EndsBefore (at + ask.patterns + s + k) seen → HoldsNoneTold seen p
  patterns_short seen k size short = short_column seen p (at + ask.patterns + s) k (patterns_within p s c k (at + ask.patterns + s) r.part patterns_at size).1 short

  pub types_are : (seen : Option (List ℕ)) (buffer text out : List ℕ) → IfSome seen (λ bytes. take (4 * c) buffer ≡ take (4 * c) (drop (at + ask.types + 4 * s) bytes)) → text ≡ take (4 * c) buffer → text ≡ flat_map four_bytes out
      → All (λ n. n < 2 ^ 32) out → length out ≡ c → OfRows seen p (λ rows. out ≡ part s c (types_in rows))
  types_are seen buffer text out told cut spelled fit long =
      types_told seen p s c (4 * c) (at + ask.types + 4 * s) (take (4 * c) buffer) out r.part types_at refl told (sym cut ∙ spelled) fit long

  pub moments_are : (seen : Option (List ℕ)) (buffer text : List ℕ) (out : List ℤ) → IfSome seen (λ bytes. take (8 * c) buffer ≡ take (8 * c) (drop (at + ask.moments + 8 * s) bytes)) → text ≡ take (8 * c) buffer → text ≡ flat_map moment_bytes out
      → All (FitsSigned w64) out → length out ≡ c → OfRows seen p (λ rows. out ≡ part s c (moments_in rows))
  moments_are seen buffer text out told cut spelled fit long =
      moments_told seen p s c (8 * c) (at + ask.moments + 8 * s) (take (8 * c) buffer) out r.part moments_at refl told (sym cut ∙ spelled) fit long

  pub patterns_are : (seen : Option (List ℕ)) (k : ℕ) (out : List ℕ) → k ≡ c → IfSome seen (λ bytes. out ≡ take k (drop (at + ask.patterns + s) bytes)) → OfRows seen p (λ rows. out ≡ part s c (patterns_in rows))
  patterns_are seen k out size told = patterns_told seen p s c k (at + ask.patterns + s) out r.part patterns_at size told

  pub all_types_are : (seen : Option (List ℕ)) (buffer text out : List ℕ) → s ≡ 0 → c ≡ p.pages.rows - p.pages.row → IfSome seen (λ bytes. take (4 * c) buffer ≡ take (4 * c) (drop (at + ask.types) bytes)) → text ≡ take (4 * c) buffer
      → text ≡ flat_map four_bytes out → All (λ n. n < 2 ^ 32) out → length out ≡ c → AreTypesTold seen p out
  all_types_are None buffer text out none whole told cut spelled fit long = tt
  all_types_are (Some bytes) buffer text out none whole told cut spelled fit long =
      all_types bytes p c (at + ask.types) text out whole (omega (arith, types_at, none)) (cut ∙ told) spelled fit long
