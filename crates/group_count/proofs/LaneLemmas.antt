-- What lanes have counted, and what becomes of it.
use Rattle.std.specs.Prelude.{Err, IfOk, IsErrOf, Ok, Result, All}
use Rattle.std.proofs.Common.{◌≡◌, ℕ, zero, suc, ◌+◌, ◌-◌, ◌<◌, ◌≤◌, ◌^◌, List, [], ◌∷◌, ◌++◌, length, get_or, take, drop, Option, Some, None, refl, sym, ◌∙◌, ap, ap₂, subst, arith, take-append-drop, length-append, below_more, ⊎_elim}
use Rattle.std.specs.List.{Contains}
use Rattle.std.proofs.lemmas.List.{append-nil, append_assoc, get_or_default, length-map, map-append, take_all}
use Rattle.std.proofs.lemmas.List.Concat.{flat_map-append}
use Rattle.std.proofs.lemmas.List.Elements.{All-nil, All-pop, All-push, All-same}
use Rattle.std.proofs.Math.Seq.{drop-cons, take-add}
use Rattle.log_seams.specs.Disk.{DiskState, Rests}
use Rattle.log_seams.specs.Outside.{CountsOf, Rose}
use Rattle.log_seams.specs.Parts.{IsPart, no_ranges}
use Rattle.column_store.specs.declared.row.Row.{Row}
use Rattle.row_codec.specs.Means.{AreCanonical, IsCanonical}
use Rattle.archive_open.specs.declared.files.FileEntry.{FileEntry}
use Rattle.archive_open.specs.declared.segments.SegmentPlace.{SegmentPlace}
use Rattle.archive_places.specs.declared.front.SegmentFront.{SegmentFront}
use Rattle.archive_places.specs.Fronts.{front_of_place}
use Rattle.printed_lines.specs.Lines.{Placed}
use Rattle.printed_lines.proofs.LineLemmas.{picks_append}
use Rattle.search_meaning.specs.Scan.{Asked, IsFound}
use Rattle.search_meaning.specs.Grouped.{IsExpanded, messages_of}
use Rattle.search_meaning.specs.Opened.{IsBarrenFor}
use Rattle.search_walk.specs.declared.refusal.SearchRefusal.{SearchRefusal}
use Rattle.search_walk.specs.Held.{Named, OfSegments}
use Rattle.search_walk.specs.Opened.{NoFronts, OfFronts, ReadsFronts, ReadsOpened}
use Rattle.search_walk.specs.StepsScope.{Scope}
use Rattle.search_walk.specs.Walked.{Searched, SearchedFronts, StoppedFronts}
use Rattle.search_walk.proofs.PagesReadLemmas.{rests_same}
use Rattle.search_walk.proofs.PickLemmas.{picks_short}
use Rattle.search_walk.proofs.SegmentLemmas.{nothing_read}
use Rattle.group_count.specs.declared.counts.Counts.{Counts}
use Rattle.group_count.specs.declared.counts.LaneSums.{LaneSums}
use Rattle.group_count.specs.declared.counts.Told.{Told}
use Rattle.group_count.specs.StepsCounted.{IsLike, Passes, Sofar, Stops, sofar}
use Rattle.group_count.specs.StepsGoing.{passes_none, stops_same, zip_append}
use Rattle.group_count.specs.StepsLanes.{FaultsOf, IsCounted, IsLane, IsLaneCount, IsLaneRun, IsNewLane, IsWorked, Joins, LaneView, Went, WentOver, fronts_of, nothing_in, scope_of}
use Rattle.group_count.proofs.FrontsLemmas.{few_fit, fronts_all, fronts_join, fronts_none, none_part, reads_part}

-- ---- one lane more

module _ {T : Type 0} (counted : T → ℕ → List Row → Type 0) where
  -- the messages of a lane behind those that were counted before
  passes_join : (n : Named) (q : Asked) (xs ys : List Placed) (main a b : Counts T) (j k : LaneSums) (start : T) (told : Told T) (ticks more : ℕ) → length (xs ++ ys) < 2 ^ 64 → IsLike counted main.table start → Joins counted told a j b k
      → Passes counted n q xs (sofar main ticks) (sofar a (ticks + j.expanded)) → Passes counted n q ys (nothing_in start) (sofar told.counts more) → Passes counted n q (xs ++ ys) (sofar main ticks) (sofar b (ticks + k.expanded))
  passes_join n q xs ys main a b j k start told ticks more few like joins one two =
      let rows_long = length-append one.rows two.rows in
      let tried_long = length-append one.expansions two.expansions in
      let short = picks_short (λ p. IsExpanded n.version q p.message) xs one.expansions one.are_expanded in
      let shorter = picks_short (λ p. IsExpanded n.version q p.message) ys two.expansions two.are_expanded in
      let all_long = length-append xs ys in
      record {
        found = one.found ++ two.found;
        expansions = one.expansions ++ two.expansions;
        rows = one.rows ++ two.rows;
        are_found = picks_append (λ p. IsFound n.version q p.message) xs ys one.found two.found one.are_found two.are_found;
        are_expanded = picks_append (λ p. IsExpanded n.version q p.message) xs ys one.expansions two.expansions one.are_expanded two.are_expanded;
        are =
            subst (λ l. AreCanonical n.version (one.rows ++ two.rows) n.types n.words l) (sym (map-append (λ (p : Placed). p.message) one.found two.found))
            (zip_append (λ row message. IsCanonical n.version row n.types n.words message) one.rows two.rows (messages_of one.found) (messages_of two.found) one.are two.are);
        adds = record {
          table = λ known before has.
              subst (counted b.table known) (append_assoc before one.rows two.rows)
              (joins.table known (before ++ one.rows) two.rows (one.adds.table known before has) (two.adds.table known [] (like known before has)));
          matched = λ fits.
              let x = one.adds.matched (omega (arith, fits, rows_long)) in
              let y = two.adds.matched (omega (arith, fits, rows_long)) in
              let z = joins.matched (omega (arith, fits, rows_long, x, y)) in
              omega (arith, x, y, z, rows_long);
          expanded = λ fits.
              let x = one.adds.expanded (omega (arith, fits, tried_long)) in
              let y = two.adds.expanded (omega (arith, fits, tried_long)) in
              let z = joins.expanded (omega (arith, fits, tried_long, x, y)) in
              omega (arith, x, y, z, tried_long);
          ticks =
              let x = one.adds.ticks in
              let y = two.adds.expanded (omega (arith, shorter, all_long, few)) in
              let z = joins.more (omega (arith, x, y, short, shorter, all_long, few)) in
              omega (arith, x, y, z, tried_long);
        };
      }

  went_both : (s : Scope) (main a b : Counts T) (j k : LaneSums) (start : T) (told : Told T) (more later : ℕ) (ps qs : List SegmentPlace) (xs ys : List Placed) → IsLike counted main.table start → Joins counted told a j b k
      → Went counted s main a j ps xs → Searched (λ all. Passes counted s.names s.query all (nothing_in start) (sofar told.counts more)) s.names s.query qs ys 0 later told.opened → Went counted s main b k (ps ++ qs) (xs ++ ys)
  went_both s main a b j k start told more later ps qs xs ys like joins one two =
      let long = length-append one.opened two.opened in
      record {
        opened = one.opened ++ two.opened;
        are_opened = picks_append (λ p. ¬ IsBarrenFor s.names.types s.names.words s.query p) ps qs one.opened two.opened one.are_opened two.are_opened;
        many = λ fits.
            let x = one.many (omega (arith, fits, long)) in
            let y = two.counted in
            let z = joins.opened (omega (arith, fits, long, x, y)) in
            omega (arith, x, y, z, long);
        passes = λ few ticks.
            passes_join s.names s.query xs ys main a b j k start told ticks more few like joins (one.passes (omega (arith, few, length-append xs ys)) ticks) two.reaches;
      }

  pub went_first : (s : Scope) (a : Counts T) (sums : LaneSums) → sums.opened ≡ 0 → sums.expanded ≡ 0 → WentOver counted s a a sums []
  went_first s a sums opened expanded = fronts_none (Went counted s a a sums) s.names.told s.names s.files (record {
    opened = [];
    are_opened = refl;
    many = λ fits. omega (arith, opened);
    passes = λ few ticks.
        let same : ticks ≡ ticks + sums.expanded = omega (arith, expanded) in
        subst (λ (k : ℕ). Passes counted s.names s.query [] (sofar a ticks) (sofar a k)) same (passes_none counted s.names s.query (sofar a ticks));
  })

  pub went_next : (s : Scope) (main a b : Counts T) (j k : LaneSums) (x y : List SegmentFront) (like : T) (told : Told T) → IsLike counted main.table like → IsCounted counted s.names.told s y like told → Joins counted told a j b k
      → WentOver counted s main a j x → WentOver counted s main b k (x ++ y)
  went_next s main a b j k x y like told alike own joins went =
      fronts_join s.names s.files x y (Went counted s main a j) (λ ps all. Searched (λ l. Passes counted s.names s.query l (nothing_in own.start) (sofar told.counts own.ticks)) s.names s.query ps all 0 own.later told.opened) (Went counted s main b k) s.names.told
      (λ ps qs xs ys f g. went_both s main a b j k own.start told own.ticks own.later ps qs xs ys (λ known before has. own.is_like known [] (alike known before has)) joins f g) went own.searched

  -- what went over all segments is a count of these
  pub went_all : (s : Scope) (seen : Option (List ℕ)) (a b : Counts T) (sums : LaneSums) (fronts : List SegmentFront) (t u ticks later : ℕ) → seen ≡ s.names.told → length fronts ≤ 2 ^ 31 → u ≡ t + sums.expanded → later ≡ ticks + sums.opened
      → WentOver counted s a b sums fronts → SearchedFronts (λ all. Passes counted s.names s.query all (sofar a t) (sofar b u)) seen s.names s.files s.query fronts ticks later sums.opened
  went_all s seen a b sums fronts t u ticks later told few ticked opened went =
      subst (λ x. SearchedFronts (λ all. Passes counted s.names s.query all (sofar a t) (sofar b u)) x s.names s.files s.query fronts ticks later sums.opened) (sym told)
      (fronts_all s.names.told s.names s.files fronts (λ ps _ all. Went counted s a b sums ps all) (λ ps _ all. Searched (λ l. Passes counted s.names s.query l (sofar a t) (sofar b u)) s.names s.query ps all ticks later sums.opened)
      (λ ps bytes all is have w.
      let short = picks_short (λ p. ¬ IsBarrenFor s.names.types s.names.words s.query p) ps w.opened w.are_opened in
      let long : length ps ≡ length fronts = sym (length-map ps front_of_place) ∙ ap (λ (l : List SegmentFront). length l) is in
      let exact : sums.opened ≡ 0 + length w.opened = w.many (omega (arith, short, long, few)) in
      record {
        reaches = subst (λ (k : ℕ). Passes counted s.names s.query all (sofar a t) (sofar b k)) (sym ticked) (w.passes (few_fit s.names s.files fronts ps bytes all few is have) t);
        opened = w.opened;
        are_opened = w.are_opened;
        ticked = omega (arith, opened, exact);
        counted = omega (arith, exact);
      }) went)

-- nothing was ticked
pub unticked : (seen : Option (List ℕ)) (n : Named) (files : List FileEntry) (q : Asked) (fronts : List SegmentFront) (old new t u : ℕ) → new ≡ old → u ≡ t → StoppedFronts (λ all. Stops n.version q all old new) seen n files q fronts t u
unticked None n files q fronts old new t u same still ps is = tt
unticked (Some bytes) n files q fronts old new t u same still ps is = λ all distinct have. record { halts = stops_same n.version q all old new same; most = λ opened are. omega (arith, still) }

-- ---- lanes, one after the other

module _ {P T : Type 0} where
  drop_lane : (lanes : List (LaneView P T)) (k : ℕ) (l : LaneView P T) → k < length lanes → l ≡ get_or lanes k l → drop k lanes ≡ l ∷ drop (k + 1) lanes
  drop_lane lanes k l lt is =
      let next : suc k ≡ k + 1 = omega arith in
      drop-cons lanes k l lt ∙ ap₂ (λ (x : LaneView P T) (j : ℕ). x ∷ drop j lanes) (sym is) next

  take_lane : (lanes : List (LaneView P T)) (k : ℕ) (l : LaneView P T) → k < length lanes → l ≡ get_or lanes k l → take (k + 1) lanes ≡ take k lanes ++ l ∷ []
  take_lane lanes k l lt is = take-add k 1 lanes ∙ ap (λ (xs : List (LaneView P T)). take k lanes ++ take 1 xs) (drop_lane lanes k l lt is)

  pub fronts_push : (xs : List (LaneView P T)) (l : LaneView P T) → fronts_of (xs ++ l ∷ []) ≡ fronts_of xs ++ l.fronts
  fronts_push xs l = flat_map-append (λ x. x.fronts) xs (l ∷ []) ∙ ap (λ (y : List SegmentFront). fronts_of xs ++ y) (append-nil l.fronts)

  take_fronts : (lanes : List (LaneView P T)) (k : ℕ) (l : LaneView P T) → k < length lanes → l ≡ get_or lanes k l → fronts_of (take (k + 1) lanes) ≡ fronts_of (take k lanes) ++ l.fronts
  take_fronts lanes k l lt is = ap fronts_of (take_lane lanes k l lt is) ∙ fronts_push (take k lanes) l

  all_fronts : (lanes : List (LaneView P T)) (k : ℕ) (l : LaneView P T) → k < length lanes → l ≡ get_or lanes k l → fronts_of lanes ≡ fronts_of (take k lanes) ++ (l.fronts ++ fronts_of (drop (k + 1) lanes))
  all_fronts lanes k l lt is =
      ap fronts_of (sym (take-append-drop k lanes) ∙ ap (λ (xs : List (LaneView P T)). take k lanes ++ xs) (drop_lane lanes k l lt is))
      ∙ flat_map-append (λ x. x.fronts) (take k lanes) (l ∷ drop (k + 1) lanes)

  -- ---- what the lanes have counted is put together

  module _ (counted : T → ℕ → List Row → Type 0) (s : Scope) (main : Counts T) (lanes : List (LaneView P T)) (worked : All (IsWorked counted s main.table) lanes) where
    worked_at : (k : ℕ) (l : LaneView P T) → k < length lanes → l ≡ get_or lanes k l → IsWorked counted s main.table l
    worked_at k l lt is = subst (IsWorked counted s main.table) (sym is) (worked k l lt)

    pub joined_next : (k : ℕ) (l : LaneView P T) (a b : Counts T) (i j : LaneSums) (told : Told T) → k < length lanes → l ≡ get_or lanes k l → l.answer ≡ Ok told → Joins counted told a i b j
        → WentOver counted s main a i (fronts_of (take k lanes)) → WentOver counted s main b j (fronts_of (take (k + 1) lanes))
    joined_next k l a b i j told lt is answer joins went =
        let own = worked_at k l lt is in
        subst (λ f. WentOver counted s main b j f) (sym (take_fronts lanes k l lt is))
        (went_next counted s main a b i j (fronts_of (take k lanes)) l.fronts l.like told own.like (subst (λ (r : Result (Told T) SearchRefusal). IfOk r (IsCounted counted s.names.told s l.fronts l.like)) answer own.done) joins went)

    pub joined_end : (k : ℕ) (a : Counts T) (i : LaneSums) → length lanes ≤ k → WentOver counted s main a i (fronts_of (take k lanes)) → WentOver counted s main a i (fronts_of lanes)
    joined_end k a i end went = subst (λ f. WentOver counted s main a i f) (ap fronts_of (take_all k lanes end)) went

    pub joined_damaged : (k : ℕ) (l : LaneView P T) → k < length lanes → l ≡ get_or lanes k l → IsErrOf l.answer SearchRefusal.Damaged → NoFronts s.names.told s.names s.files (fronts_of lanes)
    joined_damaged k l lt is damaged =
        subst (λ f. NoFronts s.names.told s.names s.files f) (sym (all_fronts lanes k l lt is))
        (none_part s.names s.files (fronts_of (take k lanes)) l.fronts (fronts_of (drop (k + 1) lanes)) s.names.told ((worked_at k l lt is).damaged damaged))

  pub stood_next : (lanes : List (LaneView P T)) (k : ℕ) (l : LaneView P T) → k < length lanes → l ≡ get_or lanes k l → ((i : ℕ) → i < k → (d : LaneView P T) → ¬ IsErrOf (get_or lanes i d).answer SearchRefusal.DiskFault) → ¬ IsErrOf l.answer SearchRefusal.DiskFault
      → (i : ℕ) → i < k + 1 → (d : LaneView P T) → ¬ IsErrOf (get_or lanes i d).answer SearchRefusal.DiskFault
  stood_next lanes k l lt is before one =
      below_more (λ i. (d : LaneView P T) → ¬ IsErrOf (get_or lanes i d).answer SearchRefusal.DiskFault) k before
      (λ d. subst (λ (x : LaneView P T). ¬ IsErrOf x.answer SearchRefusal.DiskFault) (is ∙ get_or_default lanes k l d lt) one)

-- ---- lanes that ran

no_fault : {A : Type 0} (f : ℕ) (r : Result A SearchRefusal) → CountsOf SearchRefusal.DiskFault 0 f r → ¬ IsErrOf r SearchRefusal.DiskFault → f ≡ 0
no_fault f (Ok t) counts not = counts.steady
no_fault f (Err SearchRefusal.DiskFault) counts not = absurd (not refl)
no_fault f (Err SearchRefusal.SinkFault) counts not = counts.spared SearchRefusal.SinkFault refl (λ is. absurd (cc (is)))
no_fault f (Err SearchRefusal.Damaged) counts not = counts.spared SearchRefusal.Damaged refl (λ is. absurd (cc (is)))
no_fault f (Err SearchRefusal.OutOfMemory) counts not = counts.spared SearchRefusal.OutOfMemory refl (λ is. absurd (cc (is)))

some_fault : {A : Type 0} (f : ℕ) (r : Result A SearchRefusal) → CountsOf SearchRefusal.DiskFault 0 f r → IsErrOf r SearchRefusal.DiskFault → 0 < f
some_fault f r counts is = ⊎_elim (λ (lt : 0 < f). lt) (λ (top : 2 ^ 64 - 1 ≤ f). omega (arith, top)) (counts.failed is)

module _ {P T : Type 0} (state : P → DiskState) (counted : T → ℕ → List Row → Type 0) (disk : DiskState) (s : Scope) (table : T) where
  lane_worked : (old new : LaneView P T) → IsNewLane state counted disk s table old → IsLaneRun state counted old new → IsWorked counted s table new
  lane_worked old new was run =
      subst (IsWorked counted s table) (sym run.kept) (record {
        like = was.like;
        done = subst (λ (x : Scope). IfOk new.answer (IsCounted counted x.names.told x old.fronts old.like)) was.is run.ran.done;
        damaged = λ is. subst (λ (x : Scope). NoFronts x.names.told x.names x.files old.fronts) was.is (run.ran.damaged is);
      })

  lane_counts : (old new : LaneView P T) → IsNewLane state counted disk s table old → IsLaneRun state counted old new → CountsOf SearchRefusal.DiskFault 0 (state new.part).faults new.answer
  lane_counts old new was run = subst (λ (k : ℕ). CountsOf SearchRefusal.DiskFault k (state new.part).faults new.answer) was.part.faults run.ran.counts

  lane_reads : (old new : LaneView P T) (a b : List SegmentFront) → IsNewLane state counted disk s table old → IsLaneRun state counted old new → IsLane state disk s (a ++ (old.fronts ++ b)) new
  lane_reads old new a b was run =
      let own : ReadsFronts (state old.part) (state new.part) s.names s.files s.query old.fronts = subst (λ (x : Scope). ReadsFronts (state old.part) (state new.part) x.names x.files x.query old.fronts) was.is run.ran.reads in
      let here : OfFronts old.fronts (λ ps. OfSegments disk.seen s.names s.files ps (λ _ _. ReadsOpened s.names s.query ps (no_ranges disk.ranges) (state new.part).ranges)) =
      subst (λ x. OfFronts old.fronts (λ ps. OfSegments x s.names s.files ps (λ _ _. ReadsOpened s.names s.query ps (no_ranges disk.ranges) (state new.part).ranges))) was.part.seen
      (subst (λ r. OfFronts old.fronts (λ ps. OfSegments (state old.part).seen s.names s.files ps (λ _ _. ReadsOpened s.names s.query ps r (state new.part).ranges))) was.part.ranges own) in
      record { reads = reads_part s.names s.files s.query a old.fronts b disk.seen (no_ranges disk.ranges) (state new.part).ranges here }

  module _ (old new : List (LaneView P T)) (long : length new ≡ length old) (runs : (k : ℕ) (d : LaneView P T) → k < length old → IsLaneRun state counted (get_or old k d) (get_or new k d)) (were : All (IsNewLane state counted disk s table) old) where
    pub ran_fronts : fronts_of new ≡ fronts_of old
    ran_fronts = same_fronts new old long (λ k d lt. ap (λ (l : LaneView P T). l.fronts) (runs k d (omega (arith, lt, long))).kept)
      where
        same_fronts : (xs ys : List (LaneView P T)) → length xs ≡ length ys → ((k : ℕ) (d : LaneView P T) → k < length xs → (get_or xs k d).fronts ≡ (get_or ys k d).fronts) → fronts_of xs ≡ fronts_of ys
        same_fronts [] [] same each = refl
        same_fronts [] (y ∷ ys) same each = absurd (omega (arith, same))
        same_fronts (x ∷ xs) [] same each = absurd (omega (arith, same))
        same_fronts (x ∷ xs) (y ∷ ys) same each =
            ap₂ (λ (f g : List SegmentFront). f ++ g) (each 0 x (omega arith)) (same_fronts xs ys (omega (arith, same)) (λ k d lt. each (suc k) d (omega (arith, lt))))

    pub ran_worked : All (IsWorked counted s table) new
    ran_worked k d lt = lane_worked (get_or old k d) (get_or new k d) (were k d (omega (arith, lt, long))) (runs k d (omega (arith, lt, long)))

    pub ran_lanes : All (IsLane state disk s (fronts_of old)) new
    ran_lanes k d lt =
        let inside : k < length old = omega (arith, lt, long) in
        let m = get_or old k d in
        subst (λ f. IsLane state disk s f (get_or new k d)) (sym (all_fronts old k m inside (get_or_default old k d m inside)))
        (lane_reads m (get_or new k d) (fronts_of (take k old)) (fronts_of (drop (k + 1) old)) (were k d inside) (runs k d inside))

    at_counts : (k : ℕ) (d : LaneView P T) → k < length new → CountsOf SearchRefusal.DiskFault 0 (state (get_or new k d).part).faults (get_or new k d).answer
    at_counts k d lt = lane_counts (get_or old k d) (get_or new k d) (were k d (omega (arith, lt, long))) (runs k d (omega (arith, lt, long)))

    -- a lane fell, and a part has a fault
    pub ran_fell : {A : Type 0} (r : Result A SearchRefusal) (l : LaneView P T) → r ≡ Err SearchRefusal.DiskFault → Contains new l → IsErrOf l.answer SearchRefusal.DiskFault → FaultsOf state new r
    ran_fell {A = A} r l fell has is = subst (FaultsOf state new) (sym fell) (record {
      some = λ _.
          let counts = at_counts has.0 l has.1 in
          (l, has, some_fault (state l.part).faults l.answer (subst (λ (x : LaneView P T). CountsOf SearchRefusal.DiskFault 0 (state x.part).faults x.answer) has.2 counts) is);
      none = λ not. absurd (not refl);
    })

    -- none fell, and no part has one
    pub ran_stood : {A : Type 0} (r : Result A SearchRefusal) → ¬ IsErrOf r SearchRefusal.DiskFault → All (λ l. ¬ IsErrOf l.answer SearchRefusal.DiskFault) new → FaultsOf state new r
    ran_stood r not stood = record {
      some = λ is. absurd (not is);
      none = λ _ k d lt. no_fault (state (get_or new k d).part).faults (get_or new k d).answer (at_counts k d lt) (stood k d lt);
    }

-- ---- parts that came back

-- what was lent whole comes back whole
pub back_whole : {A : Type 0} (n : ℕ) (xs ys : List A) → n ≡ length ys → length xs ≡ length ys → take n (xs ++ drop (length xs) ys) ≡ xs
back_whole zero [] [] counted same = refl
back_whole zero [] (y ∷ ys) counted same = absurd (omega (arith, same))
back_whole zero (x ∷ xs) [] counted same = absurd (omega (arith, same))
back_whole zero (x ∷ xs) (y ∷ ys) counted same = absurd (omega (arith, counted))
back_whole (suc n) [] [] counted same = absurd (omega (arith, counted))
back_whole (suc n) [] (y ∷ ys) counted same = absurd (omega (arith, same))
back_whole (suc n) (x ∷ xs) [] counted same = absurd (omega (arith, same))
back_whole {A = A} (suc n) (x ∷ xs) (y ∷ ys) counted same = ap (λ (zs : List A). x ∷ zs) (back_whole n xs ys (omega (arith, counted)) (omega (arith, same)))

-- parts that came back told the disk's faults
pub counts_of : {P T A : Type 0} (state : P → DiskState) (lanes : List (LaneView P T)) (old new : ℕ) (r : Result A SearchRefusal) → FaultsOf state lanes r → old ≤ new → (All (λ l. (state l.part).faults ≡ 0) lanes → new ≡ old)
    → ((l : LaneView P T) → Contains lanes l → 0 < (state l.part).faults → Rose old new) → CountsOf SearchRefusal.DiskFault old new r
counts_of state lanes old new (Ok t) faults later steady rose = record {
  later = later;
  steady = steady (faults.none (λ is. absurd (cc (is))));
  failed = λ is. absurd (cc (is));
  spared = λ e is other. steady (faults.none (λ x. absurd (cc (x))));
}
counts_of state lanes old new (Err e) faults later steady rose = record {
  later = later;
  steady = tt;
  failed = λ is. let f = faults.some is in rose f.0 f.1 f.2;
  spared = λ x is other. steady (faults.none (λ fell. other (same_error x e is fell)));
}
  where
    same_error : {A : Type 0} (x y : SearchRefusal) → IsErrOf {T = A} (Err y) x → IsErrOf {T = A} (Err y) SearchRefusal.DiskFault → x ≡ SearchRefusal.DiskFault
    same_error x y one two = cc (one, two)

-- ---- segments are dealt

module _ {P T : Type 0} (state : P → DiskState) (counted : T → ℕ → List Row → Type 0) (disk : DiskState) (s : Scope) (table : T) where
  pub record Dealing (count : ℕ) (fronts : List SegmentFront) (lanes : List (LaneView P T)) (parts : List P) (rest : List SegmentFront) : Type 0 where
    pub parts_are : All (λ p. IsPart disk (state p)) parts
    pub lanes_are : All (IsNewLane state counted disk s table) lanes
    pub cut : fronts ≡ fronts_of lanes ++ rest
    pub last : 0 < length lanes → length parts ≡ 0 → rest ≡ []
    pub number : length lanes + length parts ≡ count

  pub dealing_first : (fronts : List SegmentFront) (lanes : List (LaneView P T)) (parts : List P) → lanes ≡ [] → All (λ p. IsPart disk (state p)) parts → Dealing (length parts) fronts lanes parts fronts
  dealing_first fronts lanes parts none are = record {
    parts_are = are;
    lanes_are = All-same (IsNewLane state counted disk s table) lanes [] none (All-nil (IsNewLane state counted disk s table));
    cut = ap (λ (l : List (LaneView P T)). fronts_of l ++ fronts) (sym none);
    last = λ some. let long : length lanes ≡ 0 = ap (λ (l : List (LaneView P T)). length l) none in absurd (omega (arith, some, long));
    number = let long : length lanes ≡ 0 = ap (λ (l : List (LaneView P T)). length l) none in omega (arith, long);
  }

  pub dealing_next : (count : ℕ) (fronts : List SegmentFront) (lanes more : List (LaneView P T)) (parts left : List P) (p : P) (rest mine later : List SegmentFront) (l : LaneView P T) → parts ≡ left ++ p ∷ [] → rest ≡ mine ++ later → (length left ≡ 0 → later ≡ [])
      → l.fronts ≡ mine → more ≡ lanes ++ l ∷ [] → IsNewLane state counted disk s table l → Dealing count fronts lanes parts rest → Dealing count fronts more left later
  dealing_next count fronts lanes more parts left p rest mine later l popped split ends own pushed new before =
      let was = All-pop (λ x. IsPart disk (state x)) parts left (Some p) popped before.parts_are in
      record {
        parts_are = was.0;
        lanes_are = All-same (IsNewLane state counted disk s table) more (lanes ++ l ∷ []) pushed (All-push (IsNewLane state counted disk s table) lanes l before.lanes_are new);
        cut =
            before.cut ∙ ap (λ (f : List SegmentFront). fronts_of lanes ++ f) split ∙ sym (append_assoc (fronts_of lanes) mine later)
            ∙ ap (λ (f : List SegmentFront). f ++ later)
            (ap (λ (f : List SegmentFront). fronts_of lanes ++ f) (sym own) ∙ sym (fronts_push lanes l) ∙ ap (λ (x : List (LaneView P T)). fronts_of x) (sym pushed));
        last = λ some none. ends none;
        number =
            let one : length parts ≡ length left + 1 = ap (λ (x : List P). length x) popped ∙ length-append left (p ∷ []) in
            let two : length more ≡ length lanes + 1 = ap (λ (x : List (LaneView P T)). length x) pushed ∙ length-append lanes (l ∷ []) in
            omega (arith, one, two, before.number);
      }

  -- a part of the disk that was had is one of the disk
  pub dealing_part : (count : ℕ) (fronts : List SegmentFront) (lanes : List (LaneView P T)) (parts left : List P) (p : P) (rest : List SegmentFront) → parts ≡ left ++ p ∷ [] → Dealing count fronts lanes parts rest → IsPart disk (state p)
  dealing_part count fronts lanes parts left p rest popped before = (All-pop (λ x. IsPart disk (state x)) parts left (Some p) popped before.parts_are).1

  pub dealing_end : (count : ℕ) (fronts : List SegmentFront) (lanes : List (LaneView P T)) (parts : List P) (rest : List SegmentFront) → parts ≡ [] → Dealing count fronts lanes parts rest → 0 < count → fronts_of lanes ≡ fronts
  dealing_end count fronts lanes parts rest none all some =
      let empty : length parts ≡ 0 = ap (λ (x : List P). length x) none in
      let end : rest ≡ [] = all.last (omega (arith, empty, all.number, some)) empty in
      sym (all.cut ∙ ap (λ (f : List SegmentFront). fronts_of lanes ++ f) end ∙ append-nil (fronts_of lanes))

-- a list is what lies before a place and behind it
pub split_both : (rest : List SegmentFront) (k : ℕ) (a b : List SegmentFront) → a ≡ take k rest → b ≡ drop k rest → rest ≡ a ++ b
split_both rest k a b one two = sym (take-append-drop k rest) ∙ ap₂ (λ (x y : List SegmentFront). x ++ y) (sym one) (sym two)

drop_whole : (xs : List SegmentFront) → drop (length xs) xs ≡ []
drop_whole [] = refl
drop_whole (x ∷ xs) = drop_whole xs

pub none_behind : (rest b : List SegmentFront) (k : ℕ) → b ≡ drop k rest → k ≡ length rest → b ≡ []
none_behind rest b k is end = is ∙ ap (λ (j : ℕ). drop j rest) end ∙ drop_whole rest

-- ---- the count of a lane, by its answer

module _ {T : Type 0} (counted : T → ℕ → List Row → Type 0) (old new : DiskState) (s : Scope) (fronts : List SegmentFront) (like : T) where
  pub lane_count_ok : (told : Told T) → Rests old new → ReadsFronts old new s.names s.files s.query fronts → IsCounted counted old.seen s fronts like told → new.faults ≡ old.faults → IsLaneCount counted old new s fronts like (Ok told)
  lane_count_ok told rests reads done steady = record {
    rests = rests;
    reads = reads;
    done = done;
    damaged = λ is. absurd (cc (is));
    counts = record { later = omega (arith, steady); steady = steady; failed = λ is. absurd (cc (is)); spared = λ e is other. absurd (cc (is)) };
    sink = λ is. absurd (cc (is));
  }

  -- its refusal is handed on
  pub lane_count_err : (e : SearchRefusal) (r : Result (Told T) SearchRefusal) → r ≡ Err e → Rests old new → ReadsFronts old new s.names s.files s.query fronts → (IsErrOf {T = ℕ} (Err e) SearchRefusal.Damaged → NoFronts old.seen s.names s.files fronts)
      → CountsOf {T = ℕ} SearchRefusal.DiskFault old.faults new.faults (Err e) → ¬ IsErrOf {T = ℕ} (Err e) SearchRefusal.SinkFault → IsLaneCount counted old new s fronts like r
  lane_count_err e r is_err rests reads damaged counts sink = subst (IsLaneCount counted old new s fronts like) (sym is_err)
      (record {
        rests = rests;
        reads = reads;
        done = tt;
        damaged = λ is. damaged (cc (is));
        counts = record { later = counts.later; steady = tt; failed = λ is. counts.failed (cc (is)); spared = λ x is other. counts.spared x (cc (is)) other };
        sink = λ is. sink (cc (is));
      })

-- without memory nothing was begun
pub lane_count_none : {T : Type 0} (counted : T → ℕ → List Row → Type 0) (disk : DiskState) (s : Scope) (fronts : List SegmentFront) (like : T) (r : Result (Told T) SearchRefusal) → r ≡ Err SearchRefusal.OutOfMemory → IsLaneCount counted disk disk s fronts like r
lane_count_none counted disk s fronts like r is_err = subst (IsLaneCount counted disk disk s fronts like) (sym is_err)
    (record {
      rests = rests_same disk;
      reads = λ ps is. nothing_read disk.seen s.names s.files s.query ps disk.ranges disk.ranges refl;
      done = tt;
      damaged = λ is. absurd (cc (is));
      counts = record { later = omega arith; steady = tt; failed = λ is. absurd (cc (is)); spared = λ x is other. refl };
      sink = λ is. absurd (cc (is));
    })

-- a lane ran
pub lane_run_is : {P T : Type 0} (state : P → DiskState) (counted : T → ℕ → List Row → Type 0) (x old : LaneView P T) (part : P) (answer : Result (Told T) SearchRefusal) → x ≡ old → IsLaneCount counted (state x.part) (state part) (scope_of state x) x.fronts x.like answer
    → IsLaneRun state counted old (record x { part = part; answer = answer })
lane_run_is state counted x old part answer same ran = subst (λ o. IsLaneRun state counted o (record x { part = part; answer = answer })) same (record { kept = refl; ran = ran })

-- what was counted from a table on in which there was nothing
nothing_counted : {T : Type 0} (a : Counts T) (k : ℕ) (start : T) → a.table ≡ start → a.matched ≡ 0 → a.expanded ≡ 0 → k ≡ 0 → sofar a k ≡ nothing_in start
nothing_counted {T = T} a k start table matched expanded ticks =
    ap (λ (x : T). record { table = x; matched = a.matched; expanded = a.expanded; ticks = k }) table
    ∙ ap (λ (x : ℕ). record { table = start; matched = x; expanded = a.expanded; ticks = k }) matched
    ∙ ap (λ (x : ℕ). record { table = start; matched = 0; expanded = x; ticks = k }) expanded
    ∙ ap (λ (x : ℕ). record { table = start; matched = 0; expanded = 0; ticks = x }) ticks

pub counted_from : {T : Type 0} (counted : T → ℕ → List Row → Type 0) (seen : Option (List ℕ)) (s is : Scope) (fronts : List SegmentFront) (a b k : Counts T) (e ticks t later count : ℕ) (start : T) → s ≡ is → a.table ≡ start → a.matched ≡ 0 → a.expanded ≡ 0 → e ≡ 0 → t ≡ 0 → k ≡ b
    → SearchedFronts (λ all. Passes counted s.names s.query all (sofar a e) (sofar b ticks)) seen s.names s.files s.query fronts t later count
    → SearchedFronts (λ all. Passes counted is.names is.query all (nothing_in start) (sofar k ticks)) seen is.names is.files is.query fronts 0 later count
counted_from {T = T} counted seen s is fronts a b k e ticks t later count start same table matched expanded none begun kept has =
    subst (λ (x : Scope). SearchedFronts (λ all. Passes counted x.names x.query all (nothing_in start) (sofar k ticks)) seen x.names x.files x.query fronts 0 later count) same
    (subst (λ (x : Counts T). SearchedFronts (λ all. Passes counted s.names s.query all (nothing_in start) (sofar x ticks)) seen s.names s.files s.query fronts 0 later count) (sym kept)
    (subst (λ (x : ℕ). SearchedFronts (λ all. Passes counted s.names s.query all (nothing_in start) (sofar b ticks)) seen s.names s.files s.query fronts x later count) begun
    (subst (λ (x : Sofar T). SearchedFronts (λ all. Passes counted s.names s.query all x (sofar b ticks)) seen s.names s.files s.query fronts t later count) (nothing_counted a e start table matched expanded none) has)))

-- counts of faults that are handed on
pub counts_err : {A B : Type 0} (fault : SearchRefusal) (old new : ℕ) (e : SearchRefusal) (r : Result B SearchRefusal) → r ≡ Err e → CountsOf {T = A} fault old new (Err e) → CountsOf fault old new r
counts_err {B = B} fault old new e r is_err counts = subst (λ (x : Result B SearchRefusal). CountsOf fault old new x) (sym is_err)
    (record { later = counts.later; steady = tt; failed = λ is. counts.failed (cc (is)); spared = λ x is other. counts.spared x (cc (is)) other })

pub counts_ok : {A B : Type 0} (fault : SearchRefusal) (old new : ℕ) (a : A) (b : B) → CountsOf {T = A} fault old new (Ok a) → CountsOf {T = B} fault old new (Ok b)
counts_ok fault old new a b counts = record { later = counts.later; steady = counts.steady; failed = λ is. absurd (cc (is)); spared = λ x is other. absurd (cc (is)) }
