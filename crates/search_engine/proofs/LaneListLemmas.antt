-- Lanes of a turn, one after the other.
use Rattle.std.specs.Prelude.{Err, IsErrOf, Ok, Result, All}
use Rattle.std.proofs.Common.{◌≡◌, ◌≢◌, ℕ, zero, suc, ◌+◌, ◌<◌, ◌≤◌, ◌^◌, List, [], ◌∷◌, ◌++◌, length, get_or, set, take, drop, Option, refl, sym, ◌∙◌, ap, ap₂, subst, arith, take-append-drop, below_more, length-set, length-append, get_or-set_same, get_or-set_other}
use mathlib.Core.Logic.{dite}
use native.Mathlib.Decide.{ℕ_discrete}
use Rattle.std.proofs.lemmas.List.{append-nil, append_assoc, get_or_default, take_all}
use Rattle.std.proofs.lemmas.List.Concat.{flat_map-append}
use Rattle.std.proofs.Math.Seq.{drop-cons, take-add}
use Rattle.log_seams.specs.Disk.{DiskState}
use Rattle.archive_places.specs.declared.front.SegmentFront.{SegmentFront}
use Rattle.word_places.specs.Held.{HeldNames}
use Rattle.search_walk.specs.Held.{Named}
use Rattle.search_walk.specs.Ready.{Serves}
use Rattle.search_walk.specs.declared.refusal.SearchRefusal.{SearchRefusal}
use Rattle.search_walk.specs.Opened.{NoFronts}
use Rattle.search_walk.specs.StepsScope.{Scope}
use Rattle.search_engine.specs.SegmentsDone.{SearchedFronts, StoppedFronts, WentOverFronts}
use Rattle.search_engine.specs.Lanes.{HaveNames, IsLaneWorked, IsWell, LaneView, ServesLanes, fronts_of, given, scope_of}
use Rattle.search_engine.specs.Waiting.{Halts, Reaches, State}
use Rattle.search_engine.specs.StepsWaiting.{halts_behind, halts_more, reaches_none, reaches_on}
use Rattle.search_engine.proofs.FrontsLemmas.{fronts_none, fronts_on, fronts_stop, fronts_stop_more, none_first, none_second}

-- the segments were searched up to a place, and then more of them
pub searched_on : (seen : Option (List ℕ)) (s : Scope) (x y : List SegmentFront) (a b c : State) (t u v count more : ℕ) → SearchedFronts seen s.names s.files s.query x a b t u count → SearchedFronts seen s.names s.files s.query y b c u v more
    → SearchedFronts seen s.names s.files s.query (x ++ y) a c t v (count + more)
searched_on seen s x y a b c t u v count more one two =
    fronts_on (λ l. Reaches s.names s.query l a b) (λ l. Reaches s.names s.query l b c) (λ l. Reaches s.names s.query l a c) s.names s.files s.query x y seen t u v count more (λ xs ys f r. reaches_on s.names s.query xs ys a b c f r) one two

pub stopped_on : (seen : Option (List ℕ)) (s : Scope) (x y : List SegmentFront) (a b : State) (w : Option (List ℕ)) (k t u v count : ℕ) → SearchedFronts seen s.names s.files s.query x a b t u count → StoppedFronts seen s.names s.files s.query y b w k u v
    → StoppedFronts seen s.names s.files s.query (x ++ y) a w k t v
stopped_on seen s x y a b w k t u v count one two =
    fronts_stop (λ l. Reaches s.names s.query l a b) (λ l. Halts s.names s.query l b w k) (λ l. Halts s.names s.query l a w k) s.names s.files s.query x y seen t u v count (λ xs ys f r. halts_behind s.names s.query xs ys a b w k f r) one two

pub stopped_more : (seen : Option (List ℕ)) (s : Scope) (x y : List SegmentFront) (a : State) (w : Option (List ℕ)) (k t u : ℕ) → StoppedFronts seen s.names s.files s.query x a w k t u → StoppedFronts seen s.names s.files s.query (x ++ y) a w k t u
stopped_more seen s x y a w k t u one = fronts_stop_more s.names s.files s.query x y (λ l. Halts s.names s.query l a w k) seen t u (λ xs ys f. halts_more s.names s.query xs ys a w k f) one

-- ---- what came of a search, by its answer

pub went_done : (seen : Option (List ℕ)) (s : Scope) (fronts : List SegmentFront) (a b : State) (t u count : ℕ) → SearchedFronts seen s.names s.files s.query fronts a b t u count → WentOverFronts seen s fronts a b t u (Ok count)
went_done seen s fronts a b t u count done = record { done = done; stopped = tt; damaged = λ is. absurd (cc (is)) }

-- a refusal that is handed on
pub went_stopped : {A : Type 0} (seen : Option (List ℕ)) (s : Scope) (fronts : List SegmentFront) (a b : State) (t u : ℕ) (e : SearchRefusal) (r : Result ℕ SearchRefusal) → r ≡ Err e → StoppedFronts seen s.names s.files s.query fronts a b.written b.ticks t u
    → (IsErrOf {T = A} (Err e) SearchRefusal.Damaged → NoFronts seen s.names s.files fronts) → WentOverFronts seen s fronts a b t u r
went_stopped seen s fronts a b t u e r is_err stopped damaged = subst (λ x. WentOverFronts seen s fronts a b t u x) (sym is_err) (record { done = tt; stopped = stopped; damaged = λ is. damaged (cc (is)) })

-- ---- the lanes of a list

module _ {P : Type 0} where
  drop_lane : (lanes : List (LaneView P)) (k : ℕ) (l : LaneView P) → k < length lanes → l ≡ get_or lanes k l → drop k lanes ≡ l ∷ drop (k + 1) lanes
  drop_lane lanes k l lt is =
      let next : suc k ≡ k + 1 = omega arith in
      drop-cons lanes k l lt ∙ ap₂ (λ (x : LaneView P) (j : ℕ). x ∷ drop j lanes) (sym is) next

  take_lane : (lanes : List (LaneView P)) (k : ℕ) (l : LaneView P) → k < length lanes → l ≡ get_or lanes k l → take (k + 1) lanes ≡ take k lanes ++ l ∷ []
  take_lane lanes k l lt is = take-add k 1 lanes ∙ ap (λ (xs : List (LaneView P)). take k lanes ++ take 1 xs) (drop_lane lanes k l lt is)

  fronts_push : (xs : List (LaneView P)) (l : LaneView P) → fronts_of (xs ++ l ∷ []) ≡ fronts_of xs ++ l.fronts
  fronts_push xs l = flat_map-append (λ x. x.fronts) xs (l ∷ []) ∙ ap (λ (y : List SegmentFront). fronts_of xs ++ y) (append-nil l.fronts)

  pub take_fronts : (lanes : List (LaneView P)) (k : ℕ) (l : LaneView P) → k < length lanes → l ≡ get_or lanes k l → fronts_of (take (k + 1) lanes) ≡ fronts_of (take k lanes) ++ l.fronts
  take_fronts lanes k l lt is = ap fronts_of (take_lane lanes k l lt is) ∙ fronts_push (take k lanes) l

  pub all_fronts : (lanes : List (LaneView P)) (k : ℕ) (l : LaneView P) → k < length lanes → l ≡ get_or lanes k l → fronts_of lanes ≡ fronts_of (take k lanes) ++ (l.fronts ++ fronts_of (drop (k + 1) lanes))
  all_fronts lanes k l lt is =
      ap fronts_of (sym (take-append-drop k lanes) ∙ ap (λ (xs : List (LaneView P)). take k lanes ++ xs) (drop_lane lanes k l lt is))
      ∙ flat_map-append (λ x. x.fronts) (take k lanes) (l ∷ drop (k + 1) lanes)

  worked_at : (seen : Option (List ℕ)) (s : Scope) (lanes : List (LaneView P)) (k : ℕ) (l : LaneView P) → k < length lanes → l ≡ get_or lanes k l → All (IsLaneWorked seen s) lanes → IsLaneWorked seen s l
  worked_at seen s lanes k l lt is worked = subst (IsLaneWorked seen s) (sym is) (worked k l lt)

  -- past the first lanes
  abbrev pub Past : List (LaneView P) → ℕ → State → State → ℕ → ℕ → ℕ → Type 0
  Past lanes k a b t u count = (seen : Option (List ℕ)) (s : Scope) → All (IsLaneWorked seen s) lanes → SearchedFronts seen s.names s.files s.query (fronts_of (take k lanes)) a b t u count

  pub past_next : (lanes : List (LaneView P)) (k : ℕ) (l : LaneView P) (a b c : State) (t u v count more : ℕ) → k < length lanes → l ≡ get_or lanes k l → Past lanes k a b t u count
      → ((seen : Option (List ℕ)) (s : Scope) → IsLaneWorked seen s l → SearchedFronts seen s.names s.files s.query l.fronts b c u v more) → Past lanes (k + 1) a c t v (count + more)
  past_next lanes k l a b c t u v count more lt is past one = λ seen s worked.
      subst (λ f. SearchedFronts seen s.names s.files s.query f a c t v (count + more)) (sym (take_fronts lanes k l lt is))
      (searched_on seen s (fronts_of (take k lanes)) l.fronts a b c t u v count more (past seen s worked) (one seen s (worked_at seen s lanes k l lt is worked)))

  pub past_end : (lanes : List (LaneView P)) (k : ℕ) (a b : State) (t u count : ℕ) → length lanes ≤ k → Past lanes k a b t u count → (seen : Option (List ℕ)) (s : Scope) → All (IsLaneWorked seen s) lanes
      → SearchedFronts seen s.names s.files s.query (fronts_of lanes) a b t u count
  past_end lanes k a b t u count end past = λ seen s worked. subst (λ f. SearchedFronts seen s.names s.files s.query f a b t u count) (ap fronts_of (take_all k lanes end)) (past seen s worked)

  pub past_stops : (lanes : List (LaneView P)) (k : ℕ) (l : LaneView P) (a b : State) (w : Option (List ℕ)) (e t u v count : ℕ) → k < length lanes → l ≡ get_or lanes k l → Past lanes k a b t u count
      → ((seen : Option (List ℕ)) (s : Scope) → IsLaneWorked seen s l → StoppedFronts seen s.names s.files s.query l.fronts b w e u v) → (seen : Option (List ℕ)) (s : Scope) → All (IsLaneWorked seen s) lanes
      → StoppedFronts seen s.names s.files s.query (fronts_of lanes) a w e t v
  past_stops lanes k l a b w e t u v count lt is past one = λ seen s worked.
      let rest = fronts_of (drop (k + 1) lanes) in
      subst (λ f. StoppedFronts seen s.names s.files s.query f a w e t v) (sym (all_fronts lanes k l lt is))
      (stopped_on seen s (fronts_of (take k lanes)) (l.fronts ++ rest) a b w e t u v count (past seen s worked) (stopped_more seen s l.fronts rest b w e u v (one seen s (worked_at seen s lanes k l lt is worked))))

  pub past_damaged : (lanes : List (LaneView P)) (k : ℕ) (l : LaneView P) → k < length lanes → l ≡ get_or lanes k l → ((seen : Option (List ℕ)) (s : Scope) → IsLaneWorked seen s l → NoFronts seen s.names s.files l.fronts)
      → (seen : Option (List ℕ)) (s : Scope) → All (IsLaneWorked seen s) lanes → NoFronts seen s.names s.files (fronts_of lanes)
  past_damaged lanes k l lt is one = λ seen s worked.
      let rest = fronts_of (drop (k + 1) lanes) in
      subst (λ f. NoFronts seen s.names s.files f) (sym (all_fronts lanes k l lt is))
      (none_second s.names s.files s.query (fronts_of (take k lanes)) (l.fronts ++ rest) seen (none_first s.names s.files s.query l.fronts rest seen (one seen s (worked_at seen s lanes k l lt is worked))))

  pub lanes_first : (lanes : List (LaneView P)) (a : State) (t : ℕ) → Past lanes 0 a a t t 0
  lanes_first lanes a t = λ seen s worked. fronts_none (λ l. Reaches s.names s.query l a a) seen s.names s.files s.query t (reaches_none s.names s.query a)

  pub well_next : (lanes : List (LaneView P)) (k : ℕ) (l : LaneView P) → k < length lanes → l ≡ get_or lanes k l → ((i : ℕ) → i < k → (d : LaneView P) → IsWell (get_or lanes i d)) → IsWell l
      → (i : ℕ) → i < k + 1 → (d : LaneView P) → IsWell (get_or lanes i d)
  well_next lanes k l lt is before one =
      below_more (λ i. (d : LaneView P) → IsWell (get_or lanes i d)) k before (λ d. subst IsWell (is ∙ get_or_default lanes k l d lt) one)

  pub lanes_more : (lanes : List (LaneView P)) (k : ℕ) (l : LaneView P) (count more : ℕ) → k < length lanes → l ≡ get_or lanes k l → count ≤ length (fronts_of (take k lanes)) → more ≤ length l.fronts
      → count + more ≤ length (fronts_of (take (k + 1) lanes))
  lanes_more lanes k l count more lt is most own =
      let whole : length (fronts_of (take (k + 1) lanes)) ≡ length (fronts_of (take k lanes)) + length l.fronts =
      ap (λ (f : List SegmentFront). length f) (take_fronts lanes k l lt is) ∙ length-append (fronts_of (take k lanes)) l.fronts in
      omega (arith, whole, most, own)

  pub lanes_within : (lanes : List (LaneView P)) (k : ℕ) (l : LaneView P) (count more : ℕ) → k < length lanes → l ≡ get_or lanes k l → count ≤ length (fronts_of (take k lanes)) → more ≤ length l.fronts → length (fronts_of lanes) < 2 ^ 64
      → count + more < 2 ^ 64
  lanes_within lanes k l count more lt is most own few =
      let front = fronts_of (take k lanes) in
      let rest = fronts_of (drop (k + 1) lanes) in
      let whole : length (fronts_of lanes) ≡ length front + length (l.fronts ++ rest) =
      ap (λ (f : List SegmentFront). length f) (all_fronts lanes k l lt is) ∙ length-append front (l.fronts ++ rest) in
      omega (arith, whole, length-append l.fronts rest, most, own, few)

  pub stood_next : (lanes : List (LaneView P)) (k : ℕ) (l : LaneView P) → k < length lanes → l ≡ get_or lanes k l → ((i : ℕ) → i < k → (d : LaneView P) → ¬ IsErrOf (get_or lanes i d).left.answer SearchRefusal.DiskFault)
      → ¬ IsErrOf l.left.answer SearchRefusal.DiskFault → (i : ℕ) → i < k + 1 → (d : LaneView P) → ¬ IsErrOf (get_or lanes i d).left.answer SearchRefusal.DiskFault
  stood_next lanes k l lt is before one =
      below_more (λ i. (d : LaneView P) → ¬ IsErrOf (get_or lanes i d).left.answer SearchRefusal.DiskFault) k before
      (λ d. subst (λ (x : LaneView P). ¬ IsErrOf x.left.answer SearchRefusal.DiskFault) (is ∙ get_or_default lanes k l d lt) one)

  pub lanes_most : (lanes : List (LaneView P)) (k count : ℕ) → length lanes ≤ k → count ≤ length (fronts_of (take k lanes)) → count ≤ length (fronts_of lanes)
  lanes_most lanes k count end most = subst (λ (xs : List (LaneView P)). count ≤ length (fronts_of xs)) (take_all k lanes end) most

  -- ---- segments are dealt

  pub record DealtTo (old now : List (LaneView P)) (k : ℕ) (fronts rest : List SegmentFront) : Type 0 where
    pub parts : fronts ≡ fronts_of (take k now) ++ rest
    pub less : 0 < k → 0 < length fronts → length rest < length fronts
    pub len : length now ≡ length old
    pub done : (i : ℕ) (d : LaneView P) → i < k → i < length old → get_or now i d ≡ given (get_or old i d) (get_or now i d).fronts
    pub later : (i : ℕ) (d : LaneView P) → k ≤ i → get_or now i d ≡ get_or old i d

  pub dealt_first : (lanes : List (LaneView P)) (fronts : List SegmentFront) → DealtTo lanes lanes 0 fronts fronts
  dealt_first lanes fronts = record { parts = refl; less = λ lt. absurd (omega (arith, lt)); len = refl; done = λ i d lt. absurd (omega (arith, lt)); later = λ i d le. refl }

  take_set : (lanes : List (LaneView P)) (k : ℕ) (y : LaneView P) → k < length lanes → take (k + 1) (set lanes k y) ≡ take k lanes ++ y ∷ []
  take_set lanes k y lt =
      let inside : k < length (set lanes k y) = omega (arith, lt, length-set lanes k y) in
      let own : y ≡ get_or (set lanes k y) k y = sym (get_or-set_same lanes k y y lt) in
      take_lane (set lanes k y) k y inside own ∙ ap (λ (xs : List (LaneView P)). xs ++ y ∷ []) (same_front lanes k lt)
    where
      same_front : (xs : List (LaneView P)) (j : ℕ) → j < length xs → take j (set xs j y) ≡ take j xs
      same_front [] j lt = absurd (omega (arith, lt))
      same_front (x ∷ xs) zero lt = refl
      same_front (x ∷ xs) (suc j) lt = ap (λ (l : List (LaneView P)). x ∷ l) (same_front xs j (omega (arith, lt)))

  pub dealt_next : (old now : List (LaneView P)) (k : ℕ) (fronts rest mine left : List SegmentFront) (y e : LaneView P) → k < length now → y ≡ given (get_or now k e) mine → rest ≡ mine ++ left → (0 < length rest → 0 < length mine)
      → DealtTo old now k fronts rest → DealtTo old (set now k y) (k + 1) fronts left
  dealt_next old now k fronts rest mine left y e lt is cut some before = record {
    parts =
        before.parts ∙ ap (λ (l : List SegmentFront). fronts_of (take k now) ++ l) cut ∙ sym (append_assoc (fronts_of (take k now)) mine left)
        ∙ ap (λ (l : List SegmentFront). l ++ left) (ap (λ (l : List SegmentFront). fronts_of (take k now) ++ l) own ∙ sym (fronts_push (take k now) y) ∙ sym (ap fronts_of (take_set now k y lt)));
    less = shorter;
    len = length-set now k y ∙ before.len;
    done = each;
    later = λ i d le. get_or-set_other now k i y d (omega (arith, le)) ∙ before.later i d (omega (arith, le));
  }
    where
      own : mine ≡ y.fronts
      own = sym (ap (λ (l : LaneView P). l.fronts) is)

      shorter : 0 < k + 1 → 0 < length fronts → length left < length fronts
      shorter any filled =
          let whole : length fronts ≡ length (fronts_of (take k now)) + length rest = ap (λ (l : List SegmentFront). length l) before.parts ∙ length-append (fronts_of (take k now)) rest in
          let both : length rest ≡ length mine + length left = ap (λ (l : List SegmentFront). length l) cut ∙ length-append mine left in
          dite (ℕ_discrete (length rest) 0)
          (λ (none : length rest ≡ 0). omega (arith, whole, both, none, filled))
          (λ (not : length rest ≢ 0). let more : 0 < length rest = omega (arith, not) in omega (arith, whole, both, some more))

      each : (i : ℕ) (d : LaneView P) → i < k + 1 → i < length old → get_or (set now k y) i d ≡ given (get_or old i d) (get_or (set now k y) i d).fronts
      each i d below inside = dite (ℕ_discrete i k)
          (λ (at : i ≡ k).
          let here : get_or (set now k y) i d ≡ y = ap (λ (j : ℕ). get_or (set now k y) j d) at ∙ get_or-set_same now k y d lt in
          let was : get_or now k e ≡ get_or old i d = get_or_default now k e d lt ∙ ap (λ (j : ℕ). get_or now j d) (sym at) ∙ before.later i d (omega (arith, at)) in
          here ∙ is ∙ ap₂ (λ (l : LaneView P) (f : List SegmentFront). given l f) was (own ∙ sym (ap (λ (l : LaneView P). l.fronts) here)))
          (λ (not : i ≢ k).
          let here : get_or (set now k y) i d ≡ get_or now i d = get_or-set_other now k i y d not in
          here ∙ before.done i d (omega (arith, below, not)) inside ∙ ap (λ (l : LaneView P). given (get_or old i d) l.fronts) (sym here))

  -- all lanes have theirs
  pub record Dealt (old now : List (LaneView P)) (fronts rest : List SegmentFront) : Type 0 where
    pub parts : fronts ≡ fronts_of now ++ rest
    pub less : 0 < length old → 0 < length fronts → length rest < length fronts
    pub kept : (k : ℕ) (d : LaneView P) → k < length old → get_or now k d ≡ given (get_or old k d) (get_or now k d).fronts

  pub dealt_end : (old now : List (LaneView P)) (k : ℕ) (fronts rest : List SegmentFront) → length now ≤ k → DealtTo old now k fronts rest → Dealt old now fronts rest
  dealt_end old now k fronts rest end all = record {
    parts = all.parts ∙ ap (λ (xs : List (LaneView P)). fronts_of xs ++ rest) (take_all k now end);
    less = λ some filled. all.less (omega (arith, some, end, all.len)) filled;
    kept = λ i d lt. all.done i d (omega (arith, lt, end, all.len)) lt;
  }

-- ---- words are shared

set_back : {A : Type 0} (xs : List A) (k : ℕ) (y e : A) → k < length xs → y ≡ get_or xs k e → set xs k y ≡ xs
set_back [] k y e lt is = absurd (omega (arith, lt))
set_back (x ∷ xs) zero y e lt is = ap (λ z. z ∷ xs) is
set_back {A = A} (x ∷ xs) (suc k) y e lt is = ap (λ (l : List A). x ∷ l) (set_back xs k y e (omega (arith, lt)) is)

module _ {P : Type 0} (state : P → DiskState) where
  -- the first lanes have passed their words on
  pub record HavePassed (old now : List (LaneView P)) (all held : HeldNames) : Type 0 where
    pub lanes : now ≡ old
    pub serves : (n : Named) → HaveNames state n old → Serves n all → Serves n held

  pub passed_first : (lanes : List (LaneView P)) (all : HeldNames) → HavePassed lanes lanes all all
  passed_first lanes all = record { lanes = refl; serves = λ n have serves. serves }

  pub passed_well : (old now : List (LaneView P)) (all held : HeldNames) (k : ℕ) (e : LaneView P) → k < length now → All IsWell old → HavePassed old now all held → IsWell (get_or now k e)
  passed_well old now all held k e lt well passed = subst (λ (l : List (LaneView P)). All IsWell l) (sym passed.lanes) well k e lt

  names_at : (old now : List (LaneView P)) (n : Named) (k : ℕ) (e : LaneView P) → k < length now → now ≡ old → HaveNames state n old → (scope_of state (get_or now k e)).names ≡ n
  names_at old now n k e lt same have = subst (λ (l : List (LaneView P)). HaveNames state n l) (sym same) have k e lt

  pub passed_names : (old now : List (LaneView P)) (all held : HeldNames) (k : ℕ) (e : LaneView P) → k < length now → ServesLanes state all old → HavePassed old now all held → Serves (scope_of state (get_or now k e)).names held
  passed_names old now all held k e lt has passed =
      subst (λ (n : Named). Serves n held) (sym (names_at old now has.names k e lt passed.lanes has.have)) (passed.serves has.names has.have has.serves)

  pub passed_next : (old now : List (LaneView P)) (all held later : HeldNames) (k : ℕ) (y e : LaneView P) → k < length now → y ≡ get_or now k e → Serves (scope_of state (get_or now k e)).names later → HavePassed old now all held
      → HavePassed old (set now k y) all later
  passed_next old now all held later k y e lt is served passed = record {
    lanes = set_back now k y e lt is ∙ passed.lanes;
    serves = λ n have serves. subst (λ (m : Named). Serves m later) (names_at old now n k e lt passed.lanes have) served;
  }

  pub serves_on : (old now : List (LaneView P)) (all held : HeldNames) → now ≡ old → ServesLanes state all old → ((n : Named) → HaveNames state n old → Serves n all → Serves n held) → ServesLanes state held now
  serves_on old now all held same has on = record {
    names = has.names;
    serves = on has.names has.have has.serves;
    have = subst (λ (l : List (LaneView P)). HaveNames state has.names l) (sym same) has.have;
  }

pub split_both : (rest : List SegmentFront) (k : ℕ) (a b : List SegmentFront) → a ≡ take k rest → b ≡ drop k rest → rest ≡ a ++ b
split_both rest k a b one two = sym (take-append-drop k rest) ∙ ap₂ (λ (x y : List SegmentFront). x ++ y) (sym one) (sym two)
