-- What is left behind a page that is passed by its counts.
use Rattle.std.proofs.Common.{IfSome, ap₂, Bool, false, ◌≡◌, ◌<◌, ◌+◌, ◌*◌, ◌^◌, ℕ, List, length, take, drop, map, sum, All, Option, Some, None, sym, ◌∙◌, ap, subst, arith}
use Rattle.std.specs.List.{flat_map}
use Rattle.std.proofs.lemmas.List.{drop_at}
use Rattle.record_format.specs.Lists.{four_bytes}
use Rattle.column_store.specs.declared.row.Row.{Row}
use Rattle.column_store.specs.Row.{variable_count}
use Rattle.log_seams.specs.Disk.{DiskState}
use Rattle.segment_format.specs.declared.ask.PageAsk.{PageAsk}
use Rattle.segment_format.specs.Pages.{FitsPage, Pages, page_rows, passed, pieces}
use Rattle.segment_format.specs.Laws.{piece}
use Rattle.segment_format.proofs.PagesLemmas.{counts_fit}
use Rattle.segment_pages.specs.Paged.{AreBehind, AreBehindTold, HoldsLeft, HoldsNoneTold, Paged, ReadsColumns, columns_size, paged, paged_after, paged_passed}
use Rattle.segment_pages.specs.Reads.{OnlyReadsIn}
use Rattle.segment_pages.specs.StepsLoaded.{EndsBefore, passing}
use Rattle.segment_pages.proofs.ColumnLemmas.{stands_as}
use Rattle.segment_pages.proofs.PageLemmas.{Goes, counts_once, has_next, short_told}
use Rattle.segment_pages.proofs.ReadLemmas.{piece_is, reads_wider}

-- counts that stand there and fit: the rows left are those behind the page
pub passed_behind : (p : Paged) (bytes ns : List ℕ) → Goes p → All (λ k. k < 2 ^ 32) ns → piece (pieces p.pages).counts (4 * page_rows p.pages) (drop p.at bytes) ≡ flat_map four_bytes ns
    → AreBehind p (paged_passed p (sum ns)) (page_rows p.pages) bytes
passed_behind p bytes ns goes fit spelled = λ all holds.
    let next = has_next p bytes all goes holds in
    let total : sum ns ≡ variable_count next.page = counts_once p bytes all ns goes next fit spelled in
    let rest : drop (page_rows p.pages) all ≡ next.rest =
    ap (drop (page_rows p.pages)) next.all_are ∙ drop_at next.page next.rest (page_rows p.pages) next.is.columns.count in
    let same : paged_passed p (sum ns) ≡ paged_after p next.page = ap (paged_passed p) total in
    subst (λ (l : List Row). HoldsLeft (paged_passed p (sum ns)) bytes l) (sym rest) (subst (λ (q : Paged). HoldsLeft q bytes next.rest) (sym same) next.behind)

-- counts that fit no page are those of no rows
pub passed_none : (p : Paged) (bytes text : List ℕ) → Goes p → text ≡ piece (pieces p.pages).counts (4 * page_rows p.pages) (drop p.at bytes)
    → ((ns : List ℕ) → All (λ k. k < 2 ^ 32) ns → text ≡ flat_map four_bytes ns → FitsPage p.pages (sum ns) → ⊥) → (rows : List Row) → ¬ HoldsLeft p bytes rows
passed_none p bytes text goes here none = λ all holds.
    let next = has_next p bytes all goes holds in
    let small : variable_count next.page < 2 ^ 32 = omega (arith, next.is.fits.most, goes.few) in
    let own = counts_fit _ (page_rows p.pages) (variable_count next.page) next.page small next.is.columns in
    none (map (λ r. length r.words) next.page) own.0 (here ∙ next.counts) (subst (FitsPage p.pages) (sym own.1) next.is.fits)

-- the text is the counts of the next page, where the bytes are told
abbrev pub AreCounts : Option (List ℕ) → Paged → List ℕ → Type 0
AreCounts seen p text = IfSome seen (λ bytes. text ≡ piece (pieces p.pages).counts (4 * page_rows p.pages) (drop p.at bytes))

pub behind_told : (seen : Option (List ℕ)) (p new : Paged) (n : ℕ) (text ns : List ℕ) → Goes p → AreCounts seen p text → All (λ k. k < 2 ^ 32) ns → text ≡ flat_map four_bytes ns
    → new ≡ paged_passed p (sum ns) → n ≡ page_rows p.pages → AreBehindTold seen p new n
behind_told None p new n text ns goes here fit spelled after count = tt
behind_told (Some bytes) p new n text ns goes here fit spelled after count =
    subst (λ (k : ℕ). AreBehind p new k bytes) (sym count)
    (subst (λ (q : Paged). AreBehind p q (page_rows p.pages) bytes) (sym after) (passed_behind p bytes ns goes fit (sym here ∙ spelled)))

pub none_told : (seen : Option (List ℕ)) (p : Paged) (text : List ℕ) → Goes p → AreCounts seen p text
    → ((ns : List ℕ) → All (λ k. k < 2 ^ 32) ns → text ≡ flat_map four_bytes ns → FitsPage p.pages (sum ns) → ⊥) → HoldsNoneTold seen p
none_told None p text goes here none = tt
none_told (Some bytes) p text goes here none = passed_none p bytes text goes here none

-- ---- where the counts lie

-- a reader that asks for its next page
pub record Asking (at : ℕ) (ask : PageAsk) (p : Paged) : Type 0 where
  pub place : p.at ≡ at
  pub asks : ask ≡ pieces p.pages
  pub goes : Goes p

pub asking_of : (at : ℕ) (all : Bool) (pages : Pages) (ask : PageAsk) (p : Paged) → paged at (passing all pages) ≡ p → all ≡ false → ask ≡ pieces pages → pages.row < pages.rows → pages.variables < 2 ^ 32
    → Asking at ask p
asking_of at all pages ask p view not asks left few =
    let is : p ≡ paged at pages = stands_as at all pages p view not in
    record {
      place = ap (λ (q : Paged). q.at) is;
      asks = asks ∙ sym (ap (λ (q : Paged). pieces q.pages) is);
      goes = subst Goes (sym is) (record { left = left; few = few });
    }

-- the reader behind the page
pub passed_view : (at : ℕ) (all : Bool) (pages later : Pages) (p : Paged) (v : ℕ) → paged at (passing all pages) ≡ p → all ≡ false → later ≡ passed pages v → paged at (passing all later) ≡ paged_passed p v
passed_view at all pages later p v view not after =
    ap (λ (b : Bool). paged at (passing b later)) not ∙ ap (paged at) after ∙ ap (λ (q : Paged). paged_passed q v) (sym (stands_as at all pages p view not))

-- a text that was read at a place of the payload, where the bytes are told
told_cut : (seen : Option (List ℕ)) (at from place there n k : ℕ) (buffer text : List ℕ) → n ≡ k → from ≡ at → place ≡ there → text ≡ take n buffer
    → IfSome seen (λ bytes. take n buffer ≡ take n (drop (at + place) bytes)) → IfSome seen (λ bytes. text ≡ piece there k (drop from bytes))
told_cut None at from place there n k buffer text size same is cut told = tt
told_cut (Some bytes) at from place there n k buffer text size same is cut told =
    cut ∙ told ∙ piece_is at place n k bytes size ∙ ap₂ (λ (x a : ℕ). piece x k (drop a bytes)) is (sym same)

module _ (at : ℕ) (ask : PageAsk) (p : Paged) (r : Asking at ask p) where
  counts_at : at + ask.counts ≡ p.at + (pieces p.pages).counts
  counts_at = ap₂ (λ (x : ℕ) (a : PageAsk). x + a.counts) (sym r.place) r.asks

  counts_long : ask.rows ≡ page_rows p.pages
  counts_long = ap (λ (a : PageAsk). a.rows) r.asks

  pub counts_reads : (d e : DiskState) → OnlyReadsIn (at + ask.counts) (4 * ask.rows) d e → ReadsColumns p d e
  counts_reads d e reads =
      reads_wider (at + ask.counts) (4 * ask.rows) d e reads (p.at + p.pages.start) (columns_size p.pages) (omega (arith, counts_at)) (omega (arith, counts_at, counts_long, r.goes.left))

  pub counts_short : (seen : Option (List ℕ)) → EndsBefore (at + ask.counts + 4 * ask.rows) seen → HoldsNoneTold seen p
  counts_short seen short = short_told (at + ask.counts + 4 * ask.rows) seen p (omega (arith, counts_at, counts_long, r.goes.left)) short

  pub counts_here : (seen : Option (List ℕ)) (buffer text : List ℕ) → text ≡ take (4 * ask.rows) buffer
      → IfSome seen (λ bytes. take (4 * ask.rows) buffer ≡ take (4 * ask.rows) (drop (at + ask.counts) bytes)) → AreCounts seen p text
  counts_here seen buffer text cut told =
      told_cut seen at p.at ask.counts (pieces p.pages).counts (4 * ask.rows) (4 * page_rows p.pages) buffer text
      (ap (λ (k : ℕ). 4 * k) counts_long) r.place (ap (λ (a : PageAsk). a.counts) r.asks) cut told
