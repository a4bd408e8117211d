-- What the pages of a segment have passed that are read and wait.
use Rattle.std.proofs.Common.{◌≡◌, ℕ, ◌+◌, List, [], ◌∷◌, ◌++◌, length, Option, ◌∙◌, ap, ap₂, subst}
use Rattle.std.proofs.lemmas.List.{append-nil}
use Rattle.column_store.specs.declared.row.Row.{Row}
use Rattle.segment_pages.specs.Paged.{AreNextTold, Paged}
use Rattle.subquery_filter.specs.declared.verdicts.Verdict.{Verdict}
use Rattle.archive_open.specs.declared.files.FileEntry.{FileEntry}
use Rattle.archive_places.specs.declared.front.SegmentFront.{SegmentFront}
use Rattle.printed_lines.specs.Lines.{numbered}
use Rattle.search_meaning.specs.Scan.{Asked}
use Rattle.search_walk.specs.Held.{Named, OfLeft}
use Rattle.search_walk.specs.Walked.{PastTold}
use Rattle.search_walk.proofs.PageLemmas.{left_all, past_more}
use Rattle.search_walk.proofs.PageLemmas.{past_damaged as pages_damaged, past_page as one_past, past_stops as pages_stop}
use Rattle.search_engine.specs.SegmentsDone.{SearchedFronts, StoppedFronts}
use Rattle.search_engine.specs.Sofar.{sofar}
use Rattle.search_engine.specs.Waiting.{Blames, Halts, Page, Pending, Reaches, StandFor, State, page, sofar_of, state}
use Rattle.search_engine.specs.StepsSofar.{front_none}
use Rattle.search_engine.specs.StepsWaiting.{halts_behind, halts_here, halts_more, reaches_on, reaches_page}

-- a page was read, and waits
pub page_past : (seen : Option (List ℕ)) (start now : Paged) (n : Named) (q : Asked) (name : List ℕ) (number count : ℕ) (rows : List Row) (verdicts : List Verdict) (w : Option (List ℕ)) (x y z : Pending) (t : ℕ) (p : Page) → AreNextTold seen start now rows
    → count ≡ length rows → y ≡ x → p ≡ page name number rows verdicts → z ≡ record { gathered = y.gathered; counts = y.counts; pages = y.pages ++ p ∷ [] }
    → PastTold (λ l. Reaches n q l (state w x t) (state w z t)) seen start n name number now count
page_past seen start now n q name number count rows verdicts w x y z t p next long still is added =
    let same : sofar_of (state w z t) ≡ sofar_of (state w x t) =
    ap (λ (e : Pending). sofar w e.gathered e.counts t) added ∙ ap (λ (e : Pending). sofar w e.gathered e.counts t) still in
    let pages : z.pages ≡ x.pages ++ page name number rows verdicts ∷ [] =
    ap (λ (e : Pending). e.pages) added ∙ ap₂ (λ (e : Pending) (o : Page). e.pages ++ o ∷ []) still is in
    one_past (λ l. Reaches n q l (state w x t) (state w z t)) seen start now n name number count rows next long
    (λ messages are. reaches_page n q (state w x t) (state w z t) name number rows verdicts messages are same pages)

-- the pages that waited were searched
pub past_run : (seen : Option (List ℕ)) (start now : Paged) (n : Named) (q : Asked) (name : List ℕ) (number count : ℕ) (a b c : State) → PastTold (λ l. Reaches n q l a b) seen start n name number now count → Reaches n q [] b c
    → PastTold (λ l. Reaches n q l a c) seen start n name number now count
past_run seen start now n q name number count a b c past run =
    past_more (λ l. Reaches n q l a b) (λ l. Reaches n q l a c) seen start now n name number count
    (λ xs one. subst (λ l. Reaches n q l a c) (append-nil xs) (reaches_on n q xs [] a b c one run)) past

-- the search stopped among the pages that waited
pub run_halts : (seen : Option (List ℕ)) (start : Paged) (n : Named) (q : Asked) (name : List ℕ) (number : ℕ) (a : State) (w : Option (List ℕ)) (k : ℕ) → Halts n q [] a w k
    → OfLeft seen start n (λ messages. Halts n q (numbered name number messages) a w k)
run_halts seen start n q name number a w k halts = left_all (λ l. Halts n q l a w k) seen start n name number (λ xs. halts_more n q [] xs a w k halts)

-- a page that was not read
pub unread_halts : (seen : Option (List ℕ)) (start : Paged) (n : Named) (q : Asked) (name : List ℕ) (number : ℕ) (a : State) (w : Option (List ℕ)) (k : ℕ) → w ≡ a.written → k ≡ a.ticks
    → OfLeft seen start n (λ messages. Halts n q (numbered name number messages) a w k)
unread_halts seen start n q name number a w k same ticks = run_halts seen start n q name number a w k (halts_here n q [] a w k (front_none a.written w a.pending.gathered same) ticks)

-- the same behind pages that were searched
pub unread_sent : (seen : Option (List ℕ)) (start : Paged) (n : Named) (q : Asked) (name : List ℕ) (number : ℕ) (a b : State) (w : Option (List ℕ)) (k : ℕ) → Reaches n q [] a b → w ≡ b.written → k ≡ b.ticks
    → OfLeft seen start n (λ messages. Halts n q (numbered name number messages) a w k)
unread_sent seen start n q name number a b w k reaches same ticks =
    run_halts seen start n q name number a w k (halts_behind n q [] [] a b w k reaches (halts_here n q [] b w k (front_none b.written w b.pending.gathered same) ticks))

-- it stopped behind pages that were read
pub past_stops : (seen later : Option (List ℕ)) (start now : Paged) (n : Named) (q : Asked) (name : List ℕ) (number at count : ℕ) (a b : State) (w : Option (List ℕ)) (k : ℕ) → later ≡ seen → at ≡ number + count
    → PastTold (λ l. Reaches n q l a b) seen start n name number now count → OfLeft later now n (λ messages. Halts n q (numbered name at messages) b w k)
    → OfLeft seen start n (λ messages. Halts n q (numbered name number messages) a w k)
past_stops seen later start now n q name number at count a b w k same place past stops =
    pages_stop (λ l. Reaches n q l a b) (λ l. Halts n q l b w k) (λ l. Halts n q l a w k) seen later start now n name number at count (λ xs ys one halts. halts_behind n q xs ys a b w k one halts) same place past stops

pub past_damaged : (seen later : Option (List ℕ)) (start now : Paged) (n : Named) (q : Asked) (name : List ℕ) (number count : ℕ) (a b : State) → later ≡ seen → PastTold (λ l. Reaches n q l a b) seen start n name number now count
    → Blames n b.pending.pages (OfLeft later now n (λ _. ⊥)) → Blames n a.pending.pages (OfLeft seen start n (λ _. ⊥))
past_damaged seen later start now n q name number count a b same past none = λ early waits.
    pages_damaged (λ l. Reaches n q l a b) (StandFor n b.pending.pages) seen later start now n name number count (λ xs one. let p = one early waits in (p.later, p.waits)) same past (λ stands. none stands.0 stands.1)

-- ---- what is said of a walk by what stands behind what was lent to it

pub searched_so : (seen : Option (List ℕ)) (n : Named) (files : List FileEntry) (q : Asked) (fronts : List SegmentFront) (w w2 v v2 : Option (List ℕ)) (x x2 y y2 : Pending) (j j2 k k2 t u count : ℕ) → w ≡ w2 → v ≡ v2 → x ≡ x2 → y ≡ y2 → j ≡ j2 → k ≡ k2
    → SearchedFronts seen n files q fronts (state w x j) (state v y k) t u count → SearchedFronts seen n files q fronts (state w2 x2 j2) (state v2 y2 k2) t u count
searched_so seen n files q fronts w w2 v v2 x x2 y y2 j j2 k k2 t u count same_w same_v same_x same_y same_j same_k has =
    let one : state w x j ≡ state w2 x2 j2 = λ i. state (same_w i) (same_x i) (same_j i) in
    let two : state v y k ≡ state v2 y2 k2 = λ i. state (same_v i) (same_y i) (same_k i) in
    subst (λ a. SearchedFronts seen n files q fronts a (state v2 y2 k2) t u count) one (subst (λ b. SearchedFronts seen n files q fronts (state w x j) b t u count) two has)

pub stopped_so : (seen : Option (List ℕ)) (n : Named) (files : List FileEntry) (q : Asked) (fronts : List SegmentFront) (w w2 v v2 : Option (List ℕ)) (x x2 : Pending) (j j2 k k2 t u : ℕ) → w ≡ w2 → v ≡ v2 → x ≡ x2 → j ≡ j2 → k ≡ k2
    → StoppedFronts seen n files q fronts (state w x j) v k t u → StoppedFronts seen n files q fronts (state w2 x2 j2) v2 k2 t u
stopped_so seen n files q fronts w w2 v v2 x x2 j j2 k k2 t u same_w same_v same_x same_j same_k has =
    let one : state w x j ≡ state w2 x2 j2 = λ i. state (same_w i) (same_x i) (same_j i) in
    subst (λ a. StoppedFronts seen n files q fronts a v2 k2 t u) one
    (subst (λ o. StoppedFronts seen n files q fronts (state w x j) o k2 t u) same_v (subst (λ m. StoppedFronts seen n files q fronts (state w x j) v m t u) same_k has))
