-- What was done by the fronts of an archive's segments is said of its journal.
use Rattle.std.proofs.Common.{◌≡◌, sym, ap, subst, ◌∙◌, ℕ, List, [], length, Option}
use Rattle.std.proofs.lemmas.List.{length-map}
use Rattle.archive_open.specs.declared.files.FileEntry.{FileEntry}
use Rattle.archive_places.specs.declared.front.SegmentFront.{SegmentFront}
use Rattle.archive_places.specs.declared.places.Places.{Places}
use Rattle.archive_places.specs.Fronts.{front_of_place}
use Rattle.archive_places.specs.Laws.{HeadsStand, TypesStand, WordsStand}
use Rattle.archive_places.specs.Opened.{OpensPlaces}
use Rattle.search_engine.specs.declared.counts.Counts.{Counts}
use Rattle.search_meaning.specs.Scan.{Asked}
use Rattle.search_engine.specs.Waiting.{Blames, Halts, Pending, Reaches, State, nothing_pending, state}
use Rattle.search_walk.specs.Held.{Named, OfSegments}
use Rattle.search_engine.specs.SegmentsDone.{Searched, SearchedFronts, Stopped, StoppedFronts}
use Rattle.search_engine.specs.Searched.{HasSearched, HasStopped}
use Rattle.search_meaning.specs.Journal.{OfJournal}
use Rattle.search_walk.proofs.SegmentLemmas.{of_all}
use Rattle.search_walk.proofs.JournalLemmas.{Knows, of_journal, all_damaged}
use Rattle.search_engine.proofs.SearchLemmas.{has_searched, has_stopped, last_damaged, last_stopped}

module _ (seen later : Option (List ℕ)) (a : Places) (n : Named) (files : List FileEntry) (fronts : List SegmentFront) (types_law : TypesStand) (words_law : WordsStand) (heads_law : HeadsStand) (same_files : files ≡ a.files) (same_fronts : fronts ≡ a.segments)
    (opens : OpensPlaces seen a) (known : Knows seen a n) (same : later ≡ seen) where
  pub all_stopped : (q : Asked) (w0 w : Option (List ℕ)) (z : Pending) (e0 e1 o0 o1 : ℕ) → z ≡ nothing_pending → StoppedFronts later n files q fronts (state w0 z e0) w e1 o0 o1
      → OfJournal seen (λ h es held. HasStopped h es held q w0 w o0 o1 e0 e1)
  all_stopped q w0 w z e0 e1 o0 o1 none stopped =
      of_journal seen a n files fronts (λ m l _ all. Stopped m q l all (state w0 z e0) w e1 o0 o1) (λ h es held. HasStopped h es held q w0 w o0 o1 e0 e1) types_law words_law heads_law same_files same_fronts opens known
      (λ l is. subst (λ s. OfSegments s n files l (λ _ all. Stopped n q l all (state w0 z e0) w e1 o0 o1)) same (stopped l is))
      (λ bytes h es stood is has. has_stopped bytes h es q n.kept is.ordered w0 w z o0 o1 e0 e1 stood (record { are = is.are; sorted = is.sorted }) none has)

  -- the last pages did not all go out
  pub last_halted : (q : Asked) (w0 w : Option (List ℕ)) (z : Pending) (b : State) (e0 e1 o0 o1 count : ℕ) → z ≡ nothing_pending → SearchedFronts later n files q fronts (state w0 z e0) b o0 o1 count → Halts n q [] b w e1
      → OfJournal seen (λ h es held. HasStopped h es held q w0 w o0 o1 e0 e1)
  last_halted q w0 w z b e0 e1 o0 o1 count none searched halts =
      all_stopped q w0 w z e0 e1 o0 o1 none
      (λ l is. of_all later n files l (λ _ all. Searched n q l all (state w0 z e0) b o0 o1 count) (λ _ all. Stopped n q l all (state w0 z e0) w e1 o0 o1)
      (λ bytes all has. last_stopped n q l all (state w0 z e0) b w e1 o0 o1 count has halts) (searched l is))

  pub last_blamed : (q : Asked) (w0 : Option (List ℕ)) (z : Pending) (b : State) (e0 o0 o1 count : ℕ) → z ≡ nothing_pending → SearchedFronts later n files q fronts (state w0 z e0) b o0 o1 count → Blames n b.pending.pages ⊥
      → OfJournal seen (λ _ _ _. ⊥)
  last_blamed q w0 z b e0 o0 o1 count none searched blames =
      all_damaged seen later a n files fronts types_law words_law heads_law same_files same_fronts opens known same
      (λ l is. of_all later n files l (λ _ all. Searched n q l all (state w0 z e0) b o0 o1 count) (λ _ _. ⊥)
      (λ bytes all has. last_damaged n q l all (state w0 z e0) b o0 o1 count none has blames) (searched l is))

  pub all_searched : (q : Asked) (counts : Counts) (count : ℕ) (w0 w2 : Option (List ℕ)) (y z : Pending) (b : State) (o0 o1 e0 e2 : ℕ) → y ≡ nothing_pending → counts ≡ z.counts → SearchedFronts later n files q fronts (state w0 y e0) b o0 o1 count
      → Reaches n q [] b (state w2 z e2) → (z.pages ≡ []) × (z.gathered ≡ [])
      → OfJournal seen (λ h es held. HasSearched h es held q (record { matched = counts.matched; expanded = counts.expanded; opened = count; segments = length fronts }) w0 w2 o0 o1 e0 e2)
  all_searched q counts count w0 w2 y z b o0 o1 e0 e2 none counted searched finished done =
      of_journal seen a n files fronts (λ m l _ all. Searched m q l all (state w0 y e0) b o0 o1 count × Reaches m q [] b (state w2 z e2))
      (λ h es held. HasSearched h es held q (record { matched = counts.matched; expanded = counts.expanded; opened = count; segments = length fronts }) w0 w2 o0 o1 e0 e2) types_law words_law heads_law same_files same_fronts opens known
      (λ l is. subst (λ s. OfSegments s n files l (λ _ all. Searched n q l all (state w0 y e0) b o0 o1 count × Reaches n q [] b (state w2 z e2))) same
      (of_all later n files l (λ _ all. Searched n q l all (state w0 y e0) b o0 o1 count) (λ _ all. Searched n q l all (state w0 y e0) b o0 o1 count × Reaches n q [] b (state w2 z e2)) (λ bytes all has. (has, finished)) (searched l is)))
      (λ bytes h es stood is has.
      let long : length is.ordered ≡ length fronts = sym (length-map is.ordered front_of_place) ∙ ap (λ (l : List SegmentFront). length l) (sym is.segments ∙ sym same_fronts) in
      subst (λ k. HasSearched h es stood.legal.held q (record { matched = counts.matched; expanded = counts.expanded; opened = count; segments = k }) w0 w2 o0 o1 e0 e2) long
      (has_searched bytes h es q n.kept is.ordered counts count w0 w2 y z b o0 o1 e0 e2 stood (record { are = is.are; sorted = is.sorted }) none counted has.0 has.1 done))
