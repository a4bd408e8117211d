-- What is said of a page by its rows, and of an archive's journal by its segments.
use Rattle.std.proofs.Common.{◌≡◌, inl, inr, refl, sym, ap, subst, ◌∙◌, ℕ, ◌+◌, List, [], ◌++◌, length, Option, None, Some, arith}
use Rattle.std.proofs.lemmas.List.{length-map}
use Rattle.log_seams.specs.Outside.{Rose}
use Rattle.column_store.specs.declared.row.Row.{Row}
use Rattle.segment_pages.specs.Paged.{AreNextTold, Paged}
use Rattle.archive_open.specs.declared.files.FileEntry.{FileEntry}
use Rattle.archive_places.specs.declared.front.SegmentFront.{SegmentFront}
use Rattle.archive_places.specs.declared.places.Places.{Places}
use Rattle.archive_places.specs.Fronts.{front_of_place}
use Rattle.archive_places.specs.Laws.{HeadsStand, TypesStand, WordsStand}
use Rattle.archive_places.specs.Opened.{OpensPlaces}
use Rattle.word_places.specs.Held.{HeldNames, kept_of}
use Rattle.word_places.specs.Kept.{AreKeptOf, KeptTypes}
use Rattle.search_walk.specs.declared.prepared.Prepared.{Prepared}
use Rattle.search_walk.specs.Prepared.{KeepsPlaces}
use Rattle.search_walk.specs.Held.{AreRowsOf, Named, OfLeft, OfSegments}
use Rattle.search_meaning.specs.Journal.{OfJournal}
use Rattle.printed_lines.specs.Lines.{Placed, numbered}
use Rattle.search_meaning.specs.Scan.{Asked}
use Rattle.search_walk.specs.Walked.{PastTold, Searched, SearchedFronts, Stopped, StoppedFronts}
use Rattle.search_walk.proofs.GroupLemmas.{content_small}
use Rattle.search_walk.proofs.JournalLemmas.{Knows, of_journal}
use Rattle.search_walk.proofs.PageLemmas.{left_all, past_page}
use Rattle.printed_lines.proofs.LineLemmas.{numbered_append}
use Rattle.group_count.specs.declared.archive_counting.Gone.{Gone}
use Rattle.group_count.specs.declared.counts.Counts.{Counts}
use Rattle.group_count.specs.Grouped.{HasStoppedCounting}
use Rattle.group_count.specs.StepsArchive.{HasCounted, HoldsTypes}
use Rattle.group_count.specs.StepsCounted.{Passes, Sofar, Stops, sofar}
use Rattle.group_count.specs.StepsGoing.{stops_more, stops_same}

-- ---- a page

-- what holds of the messages of a page, and of more behind them, holds of those that are left
past_left : (F : List Placed → Type 0) (seen : Option (List ℕ)) (start now : Paged) (n : Named) (name : List ℕ) (number count : ℕ) → ((xs ys : List Placed) → F xs → F (xs ++ ys)) → PastTold F seen start n name number now count
    → OfLeft seen start n (λ messages. F (numbered name number messages))
past_left F None start now n name number count more past = tt
past_left F (Some bytes) start now n name number count more past = λ rows messages holds are.
    let p = past rows messages holds are in
    subst F (sym (ap (numbered name number) p.all ∙ numbered_append name number p.gone p.left (number + length p.gone) refl))
    (more (numbered name number p.gone) (numbered name (number + length p.gone) p.left) p.reaches)

-- the count stopped among the rows of a page
pub page_stopped : (seen : Option (List ℕ)) (start now : Paged) (n : Named) (q : Asked) (rows : List Row) (old new : ℕ) → AreNextTold seen start now rows
    → ((name : List ℕ) (number : ℕ) (messages : List (List ℕ)) → AreRowsOf n rows messages → Stops n.version q (numbered name number messages) old new)
    → (name : List ℕ) (number : ℕ) → OfLeft seen start n (λ messages. Stops n.version q (numbered name number messages) old new)
page_stopped seen start now n q rows old new next stops name number =
    past_left (λ l. Stops n.version q l old new) seen start now n name number (length rows) (λ xs ys one. stops_more n.version q xs ys old new one)
    (past_page (λ l. Stops n.version q l old new) seen start now n name number (length rows) rows next refl (stops name number))

-- a page was not read
pub page_unread : (seen : Option (List ℕ)) (start : Paged) (n : Named) (q : Asked) (ticks : ℕ) (name : List ℕ) (number : ℕ) → OfLeft seen start n (λ messages. Stops n.version q (numbered name number messages) ticks ticks)
page_unread seen start n q ticks name number = left_all (λ l. Stops n.version q l ticks ticks) seen start n name number (λ xs. stops_same n.version q xs ticks ticks refl)

-- its rows are no encodings
pub page_damaged : (seen : Option (List ℕ)) (start now : Paged) (n : Named) (rows : List Row) → AreNextTold seen start now rows → ((messages : List (List ℕ)) → ¬ AreRowsOf n rows messages) → OfLeft seen start n (λ _. ⊥)
page_damaged seen start now n rows next none = past_left (λ _. ⊥) seen start now n [] 0 (length rows) (λ xs ys one. one) (past_page (λ _. ⊥) seen start now n [] 0 (length rows) rows next refl none)

-- ---- what is said of a walk by what stands behind what was lent to it

pub counted_so : {T : Type 0} (counted : T → ℕ → List Row → Type 0) (seen : Option (List ℕ)) (n : Named) (files : List FileEntry) (q : Asked) (fronts : List SegmentFront) (x x2 y y2 : Counts T) (j j2 k k2 t u count : ℕ) → x ≡ x2 → y ≡ y2 → j ≡ j2 → k ≡ k2
    → SearchedFronts (λ l. Passes counted n q l (sofar x j) (sofar y k)) seen n files q fronts t u count
    → SearchedFronts (λ l. Passes counted n q l (sofar x2 j2) (sofar y2 k2)) seen n files q fronts t u count
counted_so {T} counted seen n files q fronts x x2 y y2 j j2 k k2 t u count same_x same_y same_j same_k has =
    let one : sofar x j ≡ sofar x2 j2 = λ i. sofar (same_x i) (same_j i) in
    let two : sofar y k ≡ sofar y2 k2 = λ i. sofar (same_y i) (same_k i) in
    subst (λ (a : Sofar T). SearchedFronts (λ l. Passes counted n q l a (sofar y2 k2)) seen n files q fronts t u count) one
    (subst (λ (b : Sofar T). SearchedFronts (λ l. Passes counted n q l (sofar x j) b) seen n files q fronts t u count) two has)

pub stopped_so : (seen : Option (List ℕ)) (n : Named) (files : List FileEntry) (q : Asked) (fronts : List SegmentFront) (j j2 k k2 t u : ℕ) → j ≡ j2 → k ≡ k2 → StoppedFronts (λ l. Stops n.version q l j k) seen n files q fronts t u
    → StoppedFronts (λ l. Stops n.version q l j2 k2) seen n files q fronts t u
stopped_so seen n files q fronts j j2 k k2 t u same_j same_k has =
    subst (λ (a : ℕ). StoppedFronts (λ l. Stops n.version q l a k2) seen n files q fronts t u) same_j
    (subst (λ (b : ℕ). StoppedFronts (λ l. Stops n.version q l j b) seen n files q fronts t u) same_k has)

-- a count that stands at 0 has not risen
pub never_rose : Rose 0 0 → ⊥
never_rose (inl above) = omega (arith, above)
never_rose (inr most) = omega (arith, most)

-- ---- an archive

-- the log types that were held before the walk are held behind it
pub held_types : (seen : Option (List ℕ)) (a : Places) (p : Prepared) (held : HeldNames) → kept_of held ≡ kept_of p.held → KeepsPlaces seen a p → HoldsTypes seen a held
held_types seen a p held same keeps = record {
  places = ap (λ (k : KeptTypes). k.places) same ∙ keeps.type_places;
  kept = (keeps.types.0, keeps.types.1, subst (AreKeptOf keeps.types.0) (sym same) keeps.types.2);
}

module _ (seen later : Option (List ℕ)) (a : Places) (n : Named) (files : List FileEntry) (fronts : List SegmentFront) (types_law : TypesStand) (words_law : WordsStand) (heads_law : HeadsStand) (same_files : files ≡ a.files) (same_fronts : fronts ≡ a.segments)
    (opens : OpensPlaces seen a) (known : Knows seen a n) (same : later ≡ seen) where
  pub all_stopped : (q : Asked) (e0 e1 o0 o1 : ℕ) → StoppedFronts (λ l. Stops n.version q l e0 e1) later n files q fronts o0 o1 → OfJournal seen (λ h es held. HasStoppedCounting h es held q o0 o1 e0 e1)
  all_stopped q e0 e1 o0 o1 stopped =
      of_journal seen a n files fronts (λ m l _ all. Stopped (λ x. Stops m.version q x e0 e1) m q l all o0 o1) (λ h es held. HasStoppedCounting h es held q o0 o1 e0 e1) types_law words_law heads_law same_files same_fronts opens known
      (λ l is. subst (λ s. OfSegments s n files l (λ _ all. Stopped (λ x. Stops n.version q x e0 e1) n q l all o0 o1)) same (stopped l is))
      (λ bytes h es stood is has. record { all = is.ordered; are_all = record { are = is.are; sorted = is.sorted }; opens = has.most; expands = has.halts })

  pub all_counted : {T : Type 0} (counted : T → ℕ → List Row → Type 0) (q : Asked) (gone : Gone) (count : ℕ) (x y : Sofar T) (o0 o1 : ℕ) → gone.opened ≡ count → gone.segments ≡ length fronts
      → SearchedFronts (λ l. Passes counted n q l x y) later n files q fronts o0 o1 count → OfJournal seen (λ h es held. HasCounted counted h es held q gone x y o0 o1)
  all_counted counted q gone count x y o0 o1 opened segments searched =
      of_journal seen a n files fronts (λ m l _ all. Searched (λ z. Passes counted m q z x y) m q l all o0 o1 count) (λ h es held. HasCounted counted h es held q gone x y o0 o1)
      types_law words_law heads_law same_files same_fronts opens known
      (λ l is. subst (λ s. OfSegments s n files l (λ _ all. Searched (λ z. Passes counted n q z x y) n q l all o0 o1 count)) same (searched l is))
      (λ bytes h es stood is has.
      let long : length is.ordered ≡ length fronts = sym (length-map is.ordered front_of_place) ∙ ap (λ (l : List SegmentFront). length l) (sym is.segments ∙ sym same_fronts) in
      record {
        found = has.reaches.found;
        expansions = has.reaches.expansions;
        rows = has.reaches.rows;
        all = is.ordered;
        segments = has.opened;
        are_all = record { are = is.are; sorted = is.sorted };
        are_found = has.reaches.are_found;
        are_expanded = has.reaches.are_expanded;
        are_opened = has.are_opened;
        few = content_small bytes h es stood;
        are = has.reaches.are;
        adds = has.reaches.adds;
        opens = has.ticked;
        opened_count = opened ∙ has.counted;
        segment_count = segments ∙ sym long;
      })
