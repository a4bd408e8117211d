-- Segments by their fronts, one and then all.
use Rattle.std.proofs.Common.{◌≡◌, inl, inr, ⊎_elim, ℕ, zero, suc, ◌+◌, ◌<◌, ◌≤◌, List, [], ◌∷◌, ◌++◌, length, map, get_or, Option, Some, None, refl, sym, ◌∙◌, ap, subst, arith}
use Rattle.std.specs.Prelude.{◌⊎◌}
use Rattle.std.proofs.lemmas.List.{get_or_default, length-map}
use Rattle.std.proofs.Math.ListN.{get_or-map}
use Rattle.std.proofs.lemmas.List.Elements.{All-cons, All-nil, Contains-push}
use Rattle.log_seams.specs.Disk.{DiskState, ReadsOnly, Rests}
use Rattle.log_seams.proofs.MomentLemmas.{rests_on}
use Rattle.segment_format.specs.Layout.{IsFixed, head_length}
use Rattle.query_plan.specs.Laws.{IsSearched, WideIsWider}
use Rattle.barren_segments.specs.Barren.{IsBounded, LeavesOut}
use Rattle.subquery_filter.specs.Laws.{BarrenHasNoMatch}
use Rattle.archive_open.specs.declared.files.FileEntry.{FileEntry}
use Rattle.archive_open.specs.declared.segments.SegmentPlace.{SegmentPlace}
use Rattle.archive_places.specs.declared.front.SegmentFront.{SegmentFront}
use Rattle.archive_places.specs.Fronts.{fixed_in, front_of_place}
use Rattle.archive_places.specs.Heads.{OfFront}
use Rattle.printed_lines.specs.Lines.{Placed}
use Rattle.search_meaning.specs.Scan.{Asked}
use Rattle.search_walk.specs.declared.loaded.LoadedSegment.{LoadedSegment}
use Rattle.search_walk.specs.Held.{Named, OfSegments}
use Rattle.search_walk.specs.Loaded.{IsLoaded, OfLoaded}
use Rattle.search_meaning.specs.Opened.{IsBarrenFor}
use Rattle.search_walk.specs.Opened.{IsRead, NoFronts, OfFronts, ReadsFronts, ReadsOpened, ReadsTold}
use Rattle.search_walk.specs.Walked.{SearchedFronts, StoppedFronts}
use Rattle.search_walk.specs.StepsPast.{SegmentsRun}
use Rattle.search_walk.proofs.PagesReadLemmas.{none_added, rests_same}
use Rattle.search_walk.proofs.SegmentLemmas.{nothing_read, single}
use Rattle.search_walk.proofs.SearchedLemmas.{Over, barren_searched}
use Rattle.search_walk.proofs.RunLemmas.{past_damaged, past_end, past_next, past_none, past_stops, reads_joined, reads_next}

-- ---- one segment

-- what holds of the segment that was loaded holds of each with this front
pub loaded_all : (seen : Option (List ℕ)) (n : Named) (files : List FileEntry) (q : Asked) (front : SegmentFront) (s : LoadedSegment) (X : List SegmentPlace → List ℕ → List Placed → Type 0) → OfFront seen front (IsLoaded q s)
    → OfLoaded q s (λ p. OfSegments seen n files (p ∷ []) (X (p ∷ []))) → (ps : List SegmentPlace) → map front_of_place ps ≡ front ∷ [] → OfSegments seen n files ps (X ps)
loaded_all None n files q front s X loaded has ps is = tt
loaded_all (Some bytes) n files q front s X loaded has [] is = absurd (cc (is))
loaded_all (Some bytes) n files q front s X loaded has (r ∷ t ∷ ps) is = absurd (cc (is))
loaded_all (Some bytes) n files q front s X loaded has (r ∷ []) is = λ all distinct have.
    let own : front_of_place r ≡ front = cc (is) in has r (loaded r own have.4.stands) all distinct have

-- no segment has this front
pub loaded_none : (seen : Option (List ℕ)) (n : Named) (files : List FileEntry) (front : SegmentFront) → OfFront seen front (λ _. ⊥) → NoFronts seen n files (front ∷ [])
loaded_none None n files front none ps is = tt
loaded_none (Some bytes) n files front none [] is = absurd (cc (is))
loaded_none (Some bytes) n files front none (r ∷ s ∷ ps) is = absurd (cc (is))
loaded_none (Some bytes) n files front none (r ∷ []) is = λ all distinct have.
    let own : front_of_place r ≡ front = cc (is) in none r own have.4.stands

-- the head was read
head_read : (n : Named) (q : Asked) (front : SegmentFront) (p : SegmentPlace) (old new : DiskState) → front_of_place p ≡ front → ReadsOnly front.payload (head_length (fixed_in front)) old new
    → ReadsOpened n q (p ∷ []) old.ranges new.ranges
head_read n q front p old new is (inl same) = record { more = []; added = same ∙ none_added old.ranges; each = All-nil (IsRead n q (p ∷ [])) }
head_read n q front p old new is (inr read) =
    let most : read.0 ≤ head_length (fixed_in (front_of_place p)) = subst (λ (f : SegmentFront). read.0 ≤ head_length (fixed_in f)) (sym is) read.1 in
    let at : p.payload ≡ front.payload = ap (λ (f : SegmentFront). f.payload) is in
    record {
      more = (front.payload, read.0) ∷ [];
      added = read.2;
      each = All-cons (IsRead n q (p ∷ [])) (front.payload, read.0) [] (inr (inl (record { p = p; is = Contains-push [] p; start = omega (arith, at); end = omega (arith, at, most) }))) (All-nil (IsRead n q (p ∷ [])));
    }

pub head_reads : (seen : Option (List ℕ)) (n : Named) (files : List FileEntry) (q : Asked) (front : SegmentFront) (old new : DiskState) → ReadsOnly front.payload (head_length (fixed_in front)) old new
    → OfFronts (front ∷ []) (λ ps. OfSegments seen n files ps (λ _ _. ReadsOpened n q ps old.ranges new.ranges))
head_reads None n files q front old new reads ps is = tt
head_reads (Some bytes) n files q front old new reads [] is = absurd (cc (is))
head_reads (Some bytes) n files q front old new reads (r ∷ s ∷ ps) is = absurd (cc (is))
head_reads (Some bytes) n files q front old new reads (r ∷ []) is = λ all distinct have.
    let own : front_of_place r ≡ front = cc (is) in head_read n q front r old new own reads

-- and then what the search of the segment reads
reads_loaded : (seen : Option (List ℕ)) (n : Named) (files : List FileEntry) (q : Asked) (front : SegmentFront) (s : LoadedSegment) (old mid new : DiskState) → OfFront seen front (IsLoaded q s)
    → ReadsOnly front.payload (head_length (fixed_in front)) old mid → OfLoaded q s (λ p. OfSegments seen n files (p ∷ []) (λ _ _. ReadsOpened n q (p ∷ []) mid.ranges new.ranges))
    → OfFronts (front ∷ []) (λ ps. OfSegments seen n files ps (λ _ _. ReadsOpened n q ps old.ranges new.ranges))
reads_loaded None n files q front s old mid new loaded head reads ps is = tt
reads_loaded (Some bytes) n files q front s old mid new loaded head reads [] is = absurd (cc (is))
reads_loaded (Some bytes) n files q front s old mid new loaded head reads (r ∷ t ∷ ps) is = absurd (cc (is))
reads_loaded (Some bytes) n files q front s old mid new loaded head reads (r ∷ []) is = λ all distinct have.
    let own : front_of_place r ≡ front = cc (is) in
    reads_joined n q (r ∷ []) old.ranges mid.ranges new.ranges (head_read n q front r old mid own head) (reads r (loaded r own have.4.stands) all distinct have)

pub segment_reads : (n : Named) (files : List FileEntry) (q : Asked) (front : SegmentFront) (s : LoadedSegment) (old mid new : DiskState) → mid.seen ≡ old.seen → OfFront old.seen front (IsLoaded q s)
    → ReadsOnly front.payload (head_length (fixed_in front)) old mid → OfLoaded q s (λ p. ReadsTold mid new n files q (p ∷ [])) → ReadsFronts old new n files q (front ∷ [])
segment_reads n files q front s old mid new same loaded head reads =
    reads_loaded old.seen n files q front s old mid new loaded head (λ p is. subst (λ x. OfSegments x n files (p ∷ []) (λ _ _. ReadsOpened n q (p ∷ []) mid.ranges new.ranges)) same (reads p is))

-- what holds of the segment that was loaded, said of the disk before
pub later_all : (seen later : Option (List ℕ)) (n : Named) (files : List FileEntry) (q : Asked) (front : SegmentFront) (s : LoadedSegment) (X : List SegmentPlace → List ℕ → List Placed → Type 0) → later ≡ seen → OfFront seen front (IsLoaded q s)
    → OfLoaded q s (λ p. OfSegments later n files (p ∷ []) (X (p ∷ []))) → OfFronts (front ∷ []) (λ ps. OfSegments seen n files ps (X ps))
later_all seen later n files q front s X same loaded has = loaded_all seen n files q front s X loaded (λ p is. subst (λ x. OfSegments x n files (p ∷ []) (X (p ∷ []))) same (has p is))

-- a segment whose front is out of the range
pub outside_done : (F : List Placed → Type 0) (seen : Option (List ℕ)) (n : Named) (files : List FileEntry) (q : Asked) (front : SegmentFront) (t : ℕ) → Over n q F → WideIsWider → BarrenHasNoMatch → IsSearched q.pattern
    → (IsFixed (fixed_in front) → (front.rows ≡ 0) ⊎ (IsBounded q.range × LeavesOut q.range front.stamped front.least front.greatest)) → SearchedFronts F seen n files q (front ∷ []) t t 0
outside_done F None n files q front t over wider law searched out ps is = tt
outside_done F (Some bytes) n files q front t over wider law searched out [] is = absurd (cc (is))
outside_done F (Some bytes) n files q front t over wider law searched out (r ∷ s ∷ ps) is = absurd (cc (is))
outside_done F (Some bytes) n files q front t over wider law searched out (r ∷ []) is = λ all distinct have.
    let own : front_of_place r ≡ front = cc (is) in
    let mine = subst (λ (f : SegmentFront). (f.rows ≡ 0) ⊎ (IsBounded q.range × LeavesOut q.range f.stamped f.least f.greatest)) (sym own)
    (out (subst (λ (f : SegmentFront). IsFixed (fixed_in f)) own have.4.stands.fits.fixed)) in
    let barren : IsBarrenFor n.types n.words q r = ⊎_elim (λ none. inl none) (λ far. inr (inl far)) mine in
    barren_searched F bytes n have.0 q r all t over wider law searched barren (single bytes n files have.0 r all have.3 have)

-- the search stopped before the segment
pub halted_stops : (H : List Placed → Type 0) (seen : Option (List ℕ)) (n : Named) (files : List FileEntry) (q : Asked) (fronts : List SegmentFront) (t u : ℕ) → ((all : List Placed) → H all) → u ≡ t → StoppedFronts H seen n files q fronts t u
halted_stops H None n files q fronts t u halts same ps is = tt
halted_stops H (Some bytes) n files q fronts t u halts same ps is = λ all distinct have. record { halts = halts all; most = λ opened are. omega (arith, same) }

-- ---- all segments

-- a segment of the list, by its front
record HasFront (ps : List SegmentPlace) (k : ℕ) (front : SegmentFront) : Type 0 where
  pub p : SegmentPlace
  pub within : k < length ps
  pub is : p ≡ get_or ps k p
  pub same : map front_of_place (p ∷ []) ≡ front ∷ []

element : (ps : List SegmentPlace) (k : ℕ) → k < length ps → (p : SegmentPlace) × (p ≡ get_or ps k p)
element [] k lt = absurd (omega (arith, lt))
element (p ∷ ps) zero lt = (p, refl)
element (p ∷ ps) (suc k) lt = element ps k (omega (arith, lt))

front_at : (ps : List SegmentPlace) (fronts : List SegmentFront) (k : ℕ) (front : SegmentFront) → map front_of_place ps ≡ fronts → k < length fronts → front ≡ get_or fronts k front → HasFront ps k front
front_at ps fronts k front is lt at =
    let long : length ps ≡ length fronts = sym (length-map ps front_of_place) ∙ ap (λ (l : List SegmentFront). length l) is in
    let within : k < length ps = omega (arith, lt, long) in
    let e = element ps k within in
    let own : front_of_place e.0 ≡ front =
    ap front_of_place e.1 ∙ sym (get_or-map front_of_place ps k e.0) ∙ ap (λ (l : List SegmentFront). get_or l k (front_of_place e.0)) is
    ∙ get_or_default fronts k (front_of_place e.0) front lt ∙ sym at in
    record { p = e.0; within = within; is = e.1; same = ap (λ (f : SegmentFront). f ∷ []) own }

pub run_first : (F : List Placed → Type 0) (d : DiskState) (n : Named) (files : List FileEntry) (q : Asked) (fronts : List SegmentFront) (t : ℕ) → F [] → SegmentsRun F d d n files q fronts 0 t t 0
run_first F d n files q fronts t none = record {
  rests = rests_same d;
  faults = refl;
  reads = λ ps is. nothing_read d.seen n files q ps d.ranges d.ranges refl;
  past = λ ps is. past_none F d.seen n files q ps t none;
  few = omega arith;
}

pub run_reads : (F : List Placed → Type 0) (old mid new : DiskState) (n : Named) (files : List FileEntry) (q : Asked) (fronts : List SegmentFront) (k : ℕ) (front : SegmentFront) (t u count : ℕ) → k < length fronts → front ≡ get_or fronts k front
    → SegmentsRun F old mid n files q fronts k t u count → ReadsFronts mid new n files q (front ∷ []) → ReadsFronts old new n files q fronts
run_reads F old mid new n files q fronts k front t u count lt at run one = λ ps is.
    let f = front_at ps fronts k front is lt at in
    reads_next F old.seen mid.seen n files q ps k f.p t u count old.ranges mid.ranges new.ranges run.rests.seen f.within f.is (run.past ps is) (run.reads ps is) (one (f.p ∷ []) f.same)

pub run_next : (F G H : List Placed → Type 0) (old mid new : DiskState) (n : Named) (files : List FileEntry) (q : Asked) (fronts : List SegmentFront) (k : ℕ) (front : SegmentFront) (t u v count more all : ℕ)
    → ((xs ys : List Placed) → F xs → G ys → H (xs ++ ys)) → k < length fronts → front ≡ get_or fronts k front → all ≡ count + more → more ≤ 1 → SegmentsRun F old mid n files q fronts k t u count → Rests mid new → new.faults ≡ mid.faults
    → ReadsFronts mid new n files q (front ∷ []) → SearchedFronts G mid.seen n files q (front ∷ []) u v more → SegmentsRun H old new n files q fronts (k + 1) t v all
run_next F G H old mid new n files q fronts k front t u v count more all on lt at total few run rests faults reads one = record {
  rests = rests_on old mid new run.rests rests;
  faults = faults ∙ run.faults;
  reads = run_reads F old mid new n files q fronts k front t u count lt at run reads;
  past = λ ps is.
      let f = front_at ps fronts k front is lt at in
      past_next F G H old.seen mid.seen n files q ps k f.p t u v count more all on run.rests.seen f.within f.is total (run.past ps is) (one (f.p ∷ []) f.same);
  few = omega (arith, run.few, total, few);
}

pub run_end : (F : List Placed → Type 0) (old mid : DiskState) (n : Named) (files : List FileEntry) (q : Asked) (fronts : List SegmentFront) (k t u count : ℕ) → length fronts ≤ k → SegmentsRun F old mid n files q fronts k t u count
    → SearchedFronts F old.seen n files q fronts t u count
run_end F old mid n files q fronts k t u count end run = λ ps is.
    let long : length ps ≡ length fronts = sym (length-map ps front_of_place) ∙ ap (λ (l : List SegmentFront). length l) is in
    past_end F old.seen n files q ps k t u count (omega (arith, end, long)) (run.past ps is)

pub run_stops : (F G H : List Placed → Type 0) (old mid : DiskState) (n : Named) (files : List FileEntry) (q : Asked) (fronts : List SegmentFront) (k : ℕ) (front : SegmentFront) (t u v count : ℕ)
    → ((xs ys : List Placed) → F xs → G ys → H (xs ++ ys)) → ((xs ys : List Placed) → G xs → G (xs ++ ys)) → k < length fronts → front ≡ get_or fronts k front → SegmentsRun F old mid n files q fronts k t u count
    → StoppedFronts G mid.seen n files q (front ∷ []) u v → StoppedFronts H old.seen n files q fronts t v
run_stops F G H old mid n files q fronts k front t u v count behind within lt at run one = λ ps is.
    let f = front_at ps fronts k front is lt at in
    past_stops F G H old.seen mid.seen n files q ps k f.p t u v count behind within run.rests.seen f.within f.is (run.past ps is) (one (f.p ∷ []) f.same)

pub run_damaged : (F : List Placed → Type 0) (Stands : Type 0) (old mid : DiskState) (n : Named) (files : List FileEntry) (q : Asked) (fronts : List SegmentFront) (k : ℕ) (front : SegmentFront) (t u count : ℕ) → ((xs : List Placed) → F xs → Stands)
    → k < length fronts → front ≡ get_or fronts k front → SegmentsRun F old mid n files q fronts k t u count → (Stands → NoFronts mid.seen n files (front ∷ [])) → NoFronts old.seen n files fronts
run_damaged F Stands old mid n files q fronts k front t u count on lt at run one = λ ps is.
    let f = front_at ps fronts k front is lt at in
    past_damaged F Stands old.seen mid.seen n files q ps k f.p t u count on run.rests.seen f.within f.is (run.past ps is) (λ there. one there (f.p ∷ []) f.same)
