-- Which rows the next page has, where the bytes of a disk hold rows.
use Rattle.std.proofs.Common.{IfSome, ◌≡◌, ◌≤◌, ◌<◌, ◌+◌, ◌-◌, ◌*◌, ◌^◌, ℕ, List, [], ◌∷◌, ◌++◌, length, take, drop, map, sum, All, Option, Some, None, refl, sym, ◌∙◌, ap, subst, arith, length-append}
use Rattle.std.specs.List.{flat_map}
use Rattle.std.proofs.lemmas.List.{append_assoc, take_at, drop_at, take-take, take-append-le, drop-append-le, drop-drop, length-take, length-drop}
use Rattle.std.proofs.lemmas.List.Concat.{flat_map-cons}
use Rattle.record_format.specs.Lists.{four_bytes}
use Rattle.column_store.specs.declared.row.Row.{Row}
use Rattle.column_store.specs.Row.{variable_count}
use Rattle.segment_format.specs.declared.head.Head.{Head}
use Rattle.segment_format.specs.declared.ask.PageAsk.{PageAsk}
use Rattle.segment_format.specs.Pages.{Pages, FitsPage, HasPages, IsPage, page_rows, pieces}
use Rattle.segment_format.specs.Laws.{HoldsPages, page_bytes, piece}
use Rattle.segment_format.proofs.LawsLemmas.{rows_once}
use Rattle.segment_format.proofs.PagesLawLemmas.{pages_are_rows}
use Rattle.segment_format.proofs.PagesLemmas.{counts_fit, counts_there, sums_same}
use Rattle.segment_pages.specs.Paged.{AreNext, AreNextTold, HoldsLeft, HoldsNoneTold, HoldsSegment, Paged, StandsAt, paged_after, paged_first, payload_size}
use Rattle.segment_pages.specs.Laws.{NoneAreLeft}
use Rattle.segment_pages.specs.StepsLoaded.{EndsBefore, FixedTold, HasLoaded, LoadedTold, fixed_bytes}

-- ---- pieces

pub long_piece : (at n : ℕ) (payload : List ℕ) → at + n ≤ length payload → length (piece at n payload) ≡ n
long_piece at n payload le = omega (arith, length-take n (drop at payload), length-drop at payload, le)

pub piece_within : (at n : ℕ) (payload behind : List ℕ) → at + n ≤ length payload → piece at n (payload ++ behind) ≡ piece at n payload
piece_within at n payload behind le =
    ap (take n) (drop-append-le at payload behind (omega (arith, le)))
    ∙ take-append-le n (drop at payload) behind (omega (arith, le, length-drop at payload))

-- a reader with a page left, in a payload of its size
record Stands (p : Pages) (payload : List ℕ) : Type 0 where
  size : length payload ≡ payload_size p
  left : p.row < p.rows

page_within : (p : Pages) (v : ℕ) (payload behind : List ℕ) → Stands p payload → p.variable + v ≤ p.variables → page_bytes p v (payload ++ behind) ≡ page_bytes p v payload
page_within p v payload behind at few =
    let e1 = piece_within (p.start + p.row) (page_rows p) payload behind (omega (arith, at.size, at.left)) in
    let e2 = piece_within (p.start + p.rows + 8 * p.row) (8 * page_rows p) payload behind (omega (arith, at.size, at.left)) in
    let e3 = piece_within (p.start + 9 * p.rows + 4 * p.row) (4 * page_rows p) payload behind (omega (arith, at.size, at.left)) in
    let e4 = piece_within (p.start + 13 * p.rows + 4 * p.row) (4 * page_rows p) payload behind (omega (arith, at.size, at.left)) in
    let e5 = piece_within (p.start + 17 * p.rows + 8 * p.variable) (8 * v) payload behind (omega (arith, at.size, few)) in
    λ i. e1 i ++ (e2 i ++ (e3 i ++ (e4 i ++ e5 i)))

-- the fourth of five texts
fourth : (n : ℕ) (a b c d e : List ℕ) → length a ≡ n → length b ≡ 8 * n → length c ≡ 4 * n → length d ≡ 4 * n → take (4 * n) (drop (13 * n) (a ++ (b ++ (c ++ (d ++ e))))) ≡ d
fourth n a b c d e la lb lc ld =
    let whole : (a ++ (b ++ c)) ++ (d ++ e) ≡ a ++ (b ++ (c ++ (d ++ e))) =
    append_assoc a (b ++ c) (d ++ e) ∙ ap (λ (l : List ℕ). a ++ l) (append_assoc b c (d ++ e)) in
    let long : length (a ++ (b ++ c)) ≡ 13 * n = omega (arith, length-append a (b ++ c), length-append b c, la, lb, lc) in
    ap (λ (l : List ℕ). take (4 * n) (drop (13 * n) l)) (sym whole) ∙ ap (take (4 * n)) (drop_at (a ++ (b ++ c)) (d ++ e) (13 * n) long) ∙ take_at d e (4 * n) ld

counts_of_page : (p : Pages) (v : ℕ) (payload : List ℕ) → Stands p payload → take (4 * page_rows p) (drop (13 * page_rows p) (page_bytes p v payload)) ≡ piece (pieces p).counts (4 * page_rows p) payload
counts_of_page p v payload at =
    let n : ℕ = page_rows p in
    fourth n _ _ _ _ (piece (p.start + 17 * p.rows + 8 * p.variable) (8 * v) payload)
    (long_piece (p.start + p.row) n payload (omega (arith, at.size, at.left)))
    (long_piece (p.start + p.rows + 8 * p.row) (8 * n) payload (omega (arith, at.size, at.left)))
    (long_piece (p.start + 9 * p.rows + 4 * p.row) (4 * n) payload (omega (arith, at.size, at.left)))
    (long_piece (p.start + 13 * p.rows + 4 * p.row) (4 * n) payload (omega (arith, at.size, at.left)))

-- ---- the next page

-- a reader with a page left, whose segment has not too many variables
pub record Goes (p : Paged) : Type 0 where
  pub left : p.pages.row < p.pages.rows
  pub few : p.pages.variables < 2 ^ 32

-- the next page's rows, as they stand in the bytes, and the rows behind them
pub record HasNext (p : Paged) (bytes : List ℕ) (all : List Row) : Type 0 where
  pub page : List Row
  pub is : IsPage p.pages (page_bytes p.pages (variable_count page) (drop p.at bytes)) page
  pub counts : piece (pieces p.pages).counts (4 * page_rows p.pages) (drop p.at bytes) ≡ flat_map four_bytes (map (λ r. length r.words) page)
  pub rest : List Row
  pub all_are : all ≡ page ++ rest
  pub behind : HoldsLeft (paged_after p page) bytes rest

pub dropped : (at : ℕ) (text bytes : List ℕ) → (stands : StandsAt at text bytes) → drop at bytes ≡ text ++ stands.behind
dropped at text bytes stands = ap (drop at) stands.spells ∙ drop_at stands.front (text ++ stands.behind) at stands.place

next_in : (p : Paged) (bytes : List ℕ) (all : List Row) (payload : List ℕ) (stands : StandsAt p.at payload bytes) (left : List (List Row)) → Goes p → length payload ≡ payload_size p.pages
    → HoldsPages p.pages payload left → all ≡ flat_map (λ page. page) left → HasNext p bytes all
next_in p bytes all payload stands [] goes size holds are = absurd (omega (arith, goes.left, holds))
next_in p bytes all payload stands (page ∷ left) goes size holds are =
    let at : Stands p.pages payload = record { size = size; left = goes.left } in
    let v : ℕ = variable_count page in
    let few : p.pages.variable + v ≤ p.pages.variables = holds.1.fits.most in
    let here : drop p.at bytes ≡ payload ++ stands.behind = dropped p.at payload bytes stands in
    let same : page_bytes p.pages v (drop p.at bytes) ≡ page_bytes p.pages v payload = ap (page_bytes p.pages v) here ∙ page_within p.pages v payload stands.behind at few in
    let counted : piece (pieces p.pages).counts (4 * page_rows p.pages) (drop p.at bytes) ≡ piece (pieces p.pages).counts (4 * page_rows p.pages) payload =
    ap (piece (pieces p.pages).counts (4 * page_rows p.pages)) here
    ∙ piece_within (p.pages.start + 13 * p.pages.rows + 4 * p.pages.row) (4 * page_rows p.pages) payload stands.behind (omega (arith, size, goes.left)) in
    record {
      page = page;
      is = subst (λ l. IsPage p.pages l page) (sym same) holds.1;
      counts = counted ∙ sym (counts_of_page p.pages v payload at) ∙ counts_there (page_bytes p.pages v payload) (page_rows p.pages) v page holds.1.columns;
      rest = flat_map (λ (l : List Row). l) left;
      all_are = are ∙ flat_map-cons (λ (l : List Row). l) page left;
      behind = record { payload = payload; stands = stands; sized = size; left = left; holds = holds.2; are = refl };
    }

pub has_next : (p : Paged) (bytes : List ℕ) (all : List Row) → Goes p → HoldsLeft p bytes all → HasNext p bytes all
has_next p bytes all goes holds = next_in p bytes all holds.payload holds.stands holds.left goes holds.sized holds.holds holds.are

-- the counts that stand there are those of the page
pub counts_once : (p : Paged) (bytes : List ℕ) (all : List Row) (ns : List ℕ) → Goes p → (next : HasNext p bytes all) → All (λ k. k < 2 ^ 32) ns
    → piece (pieces p.pages).counts (4 * page_rows p.pages) (drop p.at bytes) ≡ flat_map four_bytes ns → sum ns ≡ variable_count next.page
counts_once p bytes all ns goes next fit spelled =
    let small : variable_count next.page < 2 ^ 32 = omega (arith, next.is.fits.most, goes.few) in
    let own = counts_fit _ (page_rows p.pages) (variable_count next.page) next.page small next.is.columns in
    sums_same ns (map (λ r. length r.words) next.page) fit own.0 (sym spelled ∙ next.counts) ∙ own.1

-- ---- the answers of a reader of pages

-- what was loaded and read is the next page
pub loaded_next : (p : Paged) (bytes text : List ℕ) (rows : List Row) → Goes p → HasLoaded p bytes text → IsPage p.pages text rows → AreNext p (paged_after p rows) rows bytes
loaded_next p bytes text rows goes loaded is all holds =
    let next = has_next p bytes all goes holds in
    let total = counts_once p bytes all loaded.counts goes next loaded.fit loaded.spelled in
    let same : text ≡ page_bytes p.pages (variable_count next.page) (drop p.at bytes) = loaded.pieces_are ∙ ap (λ (v : ℕ). page_bytes p.pages v (drop p.at bytes)) total in
    let one : rows ≡ next.page =
    rows_once rows next.page is.columns.fit next.is.columns.fit (is.columns.count ∙ sym next.is.columns.count) (omega (arith, is.fits.most, goes.few)) (omega (arith, next.is.fits.most, goes.few))
    (sym is.columns.spelled ∙ same ∙ next.is.columns.spelled) in
    (next.rest, next.all_are ∙ ap (λ (l : List Row). l ++ next.rest) (sym one), subst (λ l. HoldsLeft (paged_after p l) bytes next.rest) (sym one) next.behind)

pub next_told : (seen : Option (List ℕ)) (p new : Paged) (text : List ℕ) (rows : List Row) → Goes p → LoadedTold seen p text → IsPage p.pages text rows → new ≡ paged_after p rows
    → AreNextTold seen p new rows
next_told None p new text rows goes loaded is same = tt
next_told (Some bytes) p new text rows goes loaded is same = subst (λ q. AreNext p q rows bytes) (sym same) (loaded_next p bytes text rows goes loaded is)

pub malformed_told : (seen : Option (List ℕ)) (p : Paged) (text : List ℕ) → Goes p → LoadedTold seen p text → ((rows : List Row) → ¬ IsPage p.pages text rows) → HoldsNoneTold seen p
malformed_told None p text goes loaded none = tt
malformed_told (Some bytes) p text goes loaded none = λ all holds.
    let next = has_next p bytes all goes holds in
    let total = counts_once p bytes all loaded.counts goes next loaded.fit loaded.spelled in
    let same : text ≡ page_bytes p.pages (variable_count next.page) (drop p.at bytes) = loaded.pieces_are ∙ ap (λ (v : ℕ). page_bytes p.pages v (drop p.at bytes)) total in
    none next.page (subst (λ l. IsPage p.pages l next.page) (sym same) next.is)

-- a disk that ends before the payload does holds no rows
pub short_told : (end : ℕ) (seen : Option (List ℕ)) (p : Paged) → end ≤ p.at + payload_size p.pages → EndsBefore end seen → HoldsNoneTold seen p
short_told end None p within short = tt
short_told end (Some bytes) p within short = λ all holds.
    let long : length bytes ≡ p.at + (payload_size p.pages + length holds.stands.behind) =
    ap length holds.stands.spells ∙ length-append holds.stands.front (holds.payload ++ holds.stands.behind)
    ∙ omega (arith, holds.stands.place, length-append holds.payload holds.stands.behind, holds.sized) in
    omega (arith, long, within, short)

-- ---- the buffer

-- where the fixed pieces stand in a buffer, the counts are the last of them
counts_last : (n : ℕ) (a b c d : List ℕ) → length a ≡ n → length b ≡ 8 * n → length c ≡ 4 * n → drop (13 * n) (a ++ (b ++ (c ++ d))) ≡ d
counts_last n a b c d la lb lc =
    let whole : (a ++ (b ++ c)) ++ d ≡ a ++ (b ++ (c ++ d)) = append_assoc a (b ++ c) d ∙ ap (λ (l : List ℕ). a ++ l) (append_assoc b c d) in
    let long : length (a ++ (b ++ c)) ≡ 13 * n = omega (arith, length-append a (b ++ c), length-append b c, la, lb, lc) in
    ap (drop (13 * n)) (sym whole) ∙ drop_at (a ++ (b ++ c)) d (13 * n) long

counts_in : (p : Pages) (payload text : List ℕ) → text ≡ fixed_bytes (pieces p) payload → length text ≡ 17 * page_rows p
    → drop (13 * page_rows p) text ≡ piece (pieces p).counts (4 * page_rows p) payload
counts_in p payload text is size =
    let n : ℕ = page_rows p in
    let a : List ℕ = piece (p.start + p.row) n payload in
    let b : List ℕ = piece (p.start + p.rows + 8 * p.row) (8 * n) payload in
    let c : List ℕ = piece (p.start + 9 * p.rows + 4 * p.row) (4 * n) payload in
    let d : List ℕ = piece (p.start + 13 * p.rows + 4 * p.row) (4 * n) payload in
    let whole : length a + (length b + (length c + length d)) ≡ 17 * n =
    sym (length-append a (b ++ (c ++ d)) ∙ ap (λ (k : ℕ). length a + k) (length-append b (c ++ d)) ∙ ap (λ (k : ℕ). length a + (length b + k)) (length-append c d))
    ∙ sym (ap (λ (l : List ℕ). length l) is) ∙ size in
    let la = length-take n (drop (p.start + p.row) payload) in
    let lb = length-take (8 * n) (drop (p.start + p.rows + 8 * p.row) payload) in
    let lc = length-take (4 * n) (drop (p.start + 9 * p.rows + 4 * p.row) payload) in
    let ld = length-take (4 * n) (drop (p.start + 13 * p.rows + 4 * p.row) payload) in
    ap (drop (13 * n)) is ∙ counts_last n a b c d (omega (arith, whole, la, lb, lc, ld)) (omega (arith, whole, la, lb, lc, ld)) (omega (arith, whole, la, lb, lc, ld))

-- counts that fit no page are those of no rows
pub counts_told : (seen : Option (List ℕ)) (p : Paged) (text counts : List ℕ) → Goes p → FixedTold seen p.at (pieces p.pages) text → length text ≡ 17 * page_rows p.pages
    → counts ≡ drop (13 * page_rows p.pages) text
    → ((ns : List ℕ) → All (λ k. k < 2 ^ 32) ns → counts ≡ flat_map four_bytes ns → FitsPage p.pages (sum ns) → ⊥) → HoldsNoneTold seen p
counts_told None p text counts goes fixed size cut none = tt
counts_told (Some bytes) p text counts goes fixed size cut none = λ all holds.
    let next = has_next p bytes all goes holds in
    let small : variable_count next.page < 2 ^ 32 = omega (arith, next.is.fits.most, goes.few) in
    let own = counts_fit _ (page_rows p.pages) (variable_count next.page) next.page small next.is.columns in
    let spelled : counts ≡ flat_map four_bytes (map (λ r. length r.words) next.page) = cut ∙ counts_in p.pages (drop p.at bytes) text fixed size ∙ next.counts in
    none (map (λ r. length r.words) next.page) own.0 spelled (subst (FitsPage p.pages) (sym own.1) next.is.fits)

-- the fixed pieces and then the variables are the page
pub loaded_told : (seen : Option (List ℕ)) (p : Paged) (fixed words counts text ns : List ℕ) → FixedTold seen p.at (pieces p.pages) fixed → length fixed ≡ 17 * page_rows p.pages
    → counts ≡ drop (13 * page_rows p.pages) fixed → All (λ k. k < 2 ^ 32) ns → counts ≡ flat_map four_bytes ns
    → IfSome seen (λ bytes. words ≡ take (8 * sum ns) (drop (p.at + (pieces p.pages).variables) bytes)) → text ≡ fixed ++ words → LoadedTold seen p text
loaded_told None p fixed words counts text ns is size cut fit spelled behind whole = tt
loaded_told (Some bytes) p fixed words counts text ns is size cut fit spelled behind whole =
    let payload : List ℕ = drop p.at bytes in
    let n : ℕ = page_rows p.pages in
    let a : List ℕ = piece (pieces p.pages).patterns n payload in
    let b : List ℕ = piece (pieces p.pages).moments (8 * n) payload in
    let c : List ℕ = piece (pieces p.pages).types (4 * n) payload in
    let d : List ℕ = piece (pieces p.pages).counts (4 * n) payload in
    let e : List ℕ = piece (pieces p.pages).variables (8 * sum ns) payload in
    let last : words ≡ e = behind ∙ ap (take (8 * sum ns)) (sym (drop-drop (pieces p.pages).variables p.at bytes)) in
    record {
      counts = ns;
      fit = fit;
      spelled = sym (counts_in p.pages payload fixed is size) ∙ sym cut ∙ spelled;
      pieces_are = whole ∙ (λ i. is i ++ last i) ∙ append_assoc a (b ++ (c ++ d)) e ∙ ap (λ (l : List ℕ). a ++ l) (append_assoc b (c ++ d) e ∙ ap (λ (l : List ℕ). b ++ l) (append_assoc c d e));
    }

-- ---- before the first page, and behind the last

pub first_holds : (at size : ℕ) (head : Head) (p : Paged) (bytes : List ℕ) (rows : List Row) → p ≡ paged_first at head → HoldsSegment at size head bytes rows → HoldsLeft p bytes rows
first_holds at size head p bytes rows is holds =
    let found = (pages_are_rows head holds.payload rows holds.is_head).0 holds.holds in
    subst (λ q. HoldsLeft q bytes rows) (sym is) (record {
      payload = holds.payload;
      stands = holds.stands;
      sized = omega (arith, found.0.length);
      left = found.1.0;
      holds = found.1.1;
      are = found.1.2;
    })

pub none_large : (at size : ℕ) (head : Head) → 2 ^ 64 - 1 - at < size → (bytes : List ℕ) (rows : List Row) → ¬ HoldsSegment at size head bytes rows
none_large at size head large bytes rows holds = omega (arith, large, holds.small)

pub none_pages : (at size : ℕ) (head : Head) → (HasPages head size → ⊥) → (bytes : List ℕ) (rows : List Row) → ¬ HoldsSegment at size head bytes rows
none_pages at size head none bytes rows holds =
    let found = (pages_are_rows head holds.payload rows holds.is_head).0 holds.holds in
    none (subst (HasPages head) holds.sized found.0)

last_none : (p : Pages) (payload : List ℕ) (left : List (List Row)) → p.rows ≤ p.row → HoldsPages p payload left → left ≡ []
last_none p payload [] done holds = refl
last_none p payload (page ∷ left) done holds = absurd (omega (arith, done, holds.0))

pub none_left : NoneAreLeft
none_left p bytes rows done holds = holds.are ∙ ap (flat_map (λ (l : List Row). l)) (last_none p.pages holds.payload holds.left done holds.holds)

-- ---- what is left in the buffer

-- the front of a buffer that was written back, and grown since
pub front_kept : (a r d new : List ℕ) (k most : ℕ) → length a ≡ k → k ≤ most → take (length (take most (a ++ r ++ d))) new ≡ take most (a ++ r ++ d) → take k new ≡ a
front_kept a r d new k most long le kept =
    let whole : take k (a ++ r ++ d) ≡ a = take-append-le k (a ++ r) d (omega (arith, long, length-append a r)) ∙ take_at a r k long in
    let size : k ≤ length (take most (a ++ r ++ d)) = omega (arith, length-take most (a ++ r ++ d), length-append (a ++ r) d, length-append a r, long, le) in
    sym (take-take k (length (take most (a ++ r ++ d))) new size) ∙ ap (take k) kept ∙ take-take k most (a ++ r ++ d) le ∙ whole

-- two parts at the front of a buffer that was written back
pub front_joined : (a w r d : List ℕ) (n most : ℕ) → n ≡ length a + length w → n ≤ most → take n (take most (a ++ (w ++ r) ++ d)) ≡ a ++ w
front_joined a w r d n most is le =
    let all : a ++ (w ++ r) ++ d ≡ (a ++ w) ++ (r ++ d) =
    ap (λ (l : List ℕ). l ++ d) (sym (append_assoc a w r)) ∙ append_assoc (a ++ w) r d in
    take-take n most (a ++ (w ++ r) ++ d) le ∙ ap (take n) all ∙ take_at (a ++ w) (r ++ d) n (length-append a w ∙ sym is)

pub ask_told : (seen : Option (List ℕ)) (at : ℕ) (ask : PageAsk) (p : Pages) (text : List ℕ) → ask ≡ pieces p → FixedTold seen at ask text → FixedTold seen at (pieces p) text
ask_told seen at ask p text is told = subst (λ a. FixedTold seen at a text) is told

pub words_told : (seen seen1 : Option (List ℕ)) (w : List ℕ) (n m x y : ℕ) → seen1 ≡ seen → n ≡ m → x ≡ y → IfSome seen1 (λ bytes. w ≡ take n (drop x bytes)) → IfSome seen (λ bytes. w ≡ take m (drop y bytes))
words_told seen seen1 w n m x y same few at told =
    subst (λ s. IfSome s (λ bytes. w ≡ take m (drop y bytes))) same
    (subst (λ k. IfSome seen1 (λ bytes. w ≡ take k (drop y bytes))) few (subst (λ k. IfSome seen1 (λ bytes. w ≡ take n (drop k bytes))) at told))
