-- What was done over the segments of an archive is said of the journal that the bytes stand for.
use Rattle.std.proofs.Common.{◌≡◌, refl, sym, ap, subst, ◌∙◌, ℕ, List, [], ◌++◌, Option, None, Some, length, arith}
use Rattle.std.proofs.lemmas.List.{append-nil}
use Rattle.record_format.specs.declared.header.Header.{Header}
use Rattle.archive_meaning.specs.declared.entry.JournalEntry.{JournalEntry}
use Rattle.archive_meaning.specs.Held.{content_of}
use Rattle.archive_meaning.specs.Stands.{StandsFor}
use Rattle.archive_open.specs.declared.segments.SegmentPlace.{SegmentPlace}
use Rattle.search_engine.specs.declared.counts.Counts.{Counts}
use Rattle.word_places.specs.Kept.{KeptTypes}
use Rattle.printed_lines.specs.Lines.{Placed, lines_of}
use Rattle.search_meaning.specs.Scan.{Asked, IsFound, IsTried, all_placed}
use Rattle.sink_pieces.specs.Output.{GrewByFront}
use Rattle.sink_pieces.proofs.OutputLemmas.{Grew-nothing}
use Rattle.search_engine.specs.Sofar.{Passes, Sofar, sofar}
use Rattle.search_engine.specs.Waiting.{Blames, Halts, Pending, Reaches, State, WaitFor, no_counts, nothing_pending, state}
use Rattle.archive_places.specs.declared.places.Places.{Places}
use Rattle.archive_places.specs.Opened.{OpensPlaces}
use Rattle.search_walk.specs.Held.{Named}
use Rattle.search_meaning.specs.Opened.{IsBarrenFor}
use Rattle.search_engine.specs.SegmentsDone.{Searched, Stopped}
use Rattle.search_meaning.specs.Journal.{AreSegmentsOf, OfJournal}
use Rattle.search_engine.specs.Searched.{HasSearched, HasStopped}
use Rattle.search_engine.specs.StepsSofar.{all_went}
use Rattle.search_walk.proofs.PickLemmas.{picks_once, picks_short}
use Rattle.search_engine.specs.StepsWaiting.{halts_behind, reaches_end, reaches_on}
use Rattle.search_walk.proofs.RowsHeld.{names_in}
use Rattle.search_walk.proofs.GroupLemmas.{content_small}

-- ---- what was done

pub has_searched : (bytes : List ℕ) (h : Header) (es : List JournalEntry) (q : Asked) (kept : KeptTypes) (ps : List SegmentPlace) (counts : Counts) (count : ℕ) (w0 w2 : Option (List ℕ)) (y z : Pending) (b : State) (o0 o1 e0 e2 : ℕ) (stood : StandsFor bytes h es)
    → AreSegmentsOf es ps → y ≡ nothing_pending → counts ≡ z.counts → Searched (names_in bytes h es stood.legal.held kept) q ps (all_placed (content_of stood.legal.held)) (state w0 y e0) b o0 o1 count → Reaches (names_in bytes h es stood.legal.held kept) q [] b (state w2 z e2)
    → (z.pages ≡ []) × (z.gathered ≡ [])
    → HasSearched h es stood.legal.held q (record { matched = counts.matched; expanded = counts.expanded; opened = count; segments = length ps }) w0 w2 o0 o1 e0 e2
has_searched bytes h es q kept ps counts count w0 w2 y z b o0 o1 e0 e2 stood are none counted started finished done =
    let searched = subst (λ (x : Pending). Searched (names_in bytes h es stood.legal.held kept) q ps (all_placed (content_of stood.legal.held)) (state w0 x e0) b o0 o1 count) none started in
    let all : List Placed = all_placed (content_of stood.legal.held) in
    let small = content_small bytes h es stood in
    let a : Sofar = sofar w0 [] no_counts e0 in
    let c : Sofar = sofar w2 z.gathered counts e2 in
    let whole : Reaches (names_in bytes h es stood.legal.held kept) q all (state w0 nothing_pending e0) (state w2 z e2) =
    subst (λ l. Reaches (names_in bytes h es stood.legal.held kept) q l (state w0 nothing_pending e0) (state w2 z e2)) (append-nil all)
    (reaches_on (names_in bytes h es stood.legal.held kept) q all [] (state w0 nothing_pending e0) b (state w2 z e2) searched.reaches finished) in
    let p : Passes h.version q all a c =
    subst (λ t. Passes h.version q all a (sofar w2 z.gathered t e2)) (sym counted)
    (reaches_end (names_in bytes h es stood.legal.held kept) q all (state w0 nothing_pending e0) (state w2 z e2) refl done.0 whole) in
    let found_short = picks_short (λ x. IsFound h.version q x.message) all p.found p.are_found in
    let tried_short = picks_short (λ x. IsTried h.version q x.message) all p.tried p.are_tried in
    let m : counts.matched ≡ length p.found = p.advances.matched (omega (arith, found_short, small)) ∙ omega arith in
    let e : counts.expanded ≡ length p.tried = p.advances.expanded (omega (arith, tried_short, small)) ∙ omega arith in
    record {
      found = p.found;
      tried = p.tried;
      all = ps;
      segments = searched.opened;
      are_all = are;
      are_found = p.are_found;
      are_tried = p.are_tried;
      are_opened = searched.are_opened;
      printed = all_went a c (lines_of p.found) p.advances.goes refl done.1;
      opens = searched.ticked;
      expands = p.advances.ticks;
      report = λ i. record { matched = m i; expanded = e i; opened = searched.counted i; segments = length ps };
    }

pub has_stopped : (bytes : List ℕ) (h : Header) (es : List JournalEntry) (q : Asked) (kept : KeptTypes) (ps : List SegmentPlace) (w0 w : Option (List ℕ)) (z : Pending) (o0 o1 e0 e1 : ℕ) (stood : StandsFor bytes h es) → AreSegmentsOf es ps → z ≡ nothing_pending
    → Stopped (names_in bytes h es stood.legal.held kept) q ps (all_placed (content_of stood.legal.held)) (state w0 z e0) w e1 o0 o1 → HasStopped h es stood.legal.held q w0 w o0 o1 e0 e1
has_stopped bytes h es q kept ps w0 w z o0 o1 e0 e1 stood are none stopped =
    let stops = stopped.halts [] (subst (λ p. WaitFor (names_in bytes h es stood.legal.held kept) p.pages []) (sym none) refl) in
    record {
      printed = λ found are_found. subst (λ p. GrewByFront w0 w (p.gathered ++ lines_of found)) none (stops.front found are_found);
      all = ps;
      are_all = are;
      opens = stopped.most;
      expands = stops.most;
    }

-- the last pages did not all go out
pub last_stopped : (n : Named) (q : Asked) (ps : List SegmentPlace) (all : List Placed) (a b : State) (w : Option (List ℕ)) (k o0 o1 count : ℕ) → Searched n q ps all a b o0 o1 count → Halts n q [] b w k
    → Stopped n q ps all a w k o0 o1
last_stopped n q ps all a b w k o0 o1 count searched halts = record {
  halts = subst (λ l. Halts n q l a w k) (append-nil all) (halts_behind n q all [] a b w k searched.reaches halts);
  most = λ opened are.
      let same = picks_once (λ x. ¬ IsBarrenFor n.types n.words q x) ps opened searched.opened are searched.are_opened in
      omega (arith, searched.ticked, ap (λ (l : List SegmentPlace). length l) same);
}

-- the last pages are no messages
pub waits_none : (n : Named) (z : Pending) → z ≡ nothing_pending → WaitFor n z.pages []
waits_none n z none = subst (λ (x : Pending). WaitFor n x.pages []) (sym none) refl

pub last_damaged : (n : Named) (q : Asked) (ps : List SegmentPlace) (all : List Placed) (a b : State) (o0 o1 count : ℕ) → a.pending ≡ nothing_pending → Searched n q ps all a b o0 o1 count → Blames n b.pending.pages ⊥ → ⊥
last_damaged n q ps all a b o0 o1 count none searched blames =
    let p = searched.reaches [] (waits_none n a.pending none) in
    blames p.later p.waits

pub stopped_nothing : (seen : Option (List ℕ)) (a : Places) (q : Asked) (old new : Option (List ℕ)) (o0 o1 e0 e1 : ℕ) → OpensPlaces seen a → new ≡ old → o1 ≡ o0 → e1 ≡ e0
    → OfJournal seen (λ h es held. HasStopped h es held q old new o0 o1 e0 e1)
stopped_nothing None a q old new o0 o1 e0 e1 opens same opened ticked = tt
stopped_nothing (Some bytes) a q old new o0 o1 e0 e1 opens same opened ticked = λ h es stood.
    let is = opens h es stood in
    record {
      printed = λ found are. ([], lines_of found, refl, same ∙ Grew-nothing old);
      all = is.ordered;
      are_all = record { are = is.are; sorted = is.sorted };
      opens = λ segments are. omega (arith, opened);
      expands = λ tried are. omega (arith, ticked);
    }
