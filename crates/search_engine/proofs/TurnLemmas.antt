-- A turn of lanes.
use Rattle.std.specs.Prelude.{Err, IsErr, IsErrOf, Ok, OnErr, OnOk, Result, All, ◌⊎◌, ◌==◌, true}
use Rattle.std.proofs.Common.{◌≡◌, ℕ, zero, suc, ◌+◌, ◌-◌, ◌<◌, ◌≤◌, ◌^◌, List, [], ◌∷◌, ◌++◌, length, get_or, take, drop, Option, Some, None, refl, sym, ◌∙◌, ap, ap₂, subst, arith, ⊎_elim, inl, inr}
use Rattle.std.specs.List.{Contains}
use Rattle.std.proofs.lemmas.Bool.Decides.{nat_tests}
use Rattle.std.proofs.lemmas.List.{append-nil, append_assoc, get_or_default}
use Rattle.std.proofs.lemmas.List.Elements.{All-weaker, Contains-append_left, Contains-append_right}
use Rattle.log_seams.specs.Disk.{DiskState, Rests}
use Rattle.log_seams.specs.Outside.{CountsOf, Rose}
use Rattle.archive_open.specs.declared.files.FileEntry.{FileEntry}
use Rattle.archive_open.specs.declared.segments.SegmentPlace.{SegmentPlace}
use Rattle.archive_places.specs.declared.front.SegmentFront.{SegmentFront}
use Rattle.search_walk.specs.declared.refusal.SearchRefusal.{SearchRefusal}
use Rattle.search_meaning.specs.Scan.{Asked}
use Rattle.search_walk.specs.Held.{HaveMessages, Named, OfSegments, named}
use Rattle.search_walk.specs.Opened.{IsRead, NoFronts, OfFronts, ReadsFronts, ReadsOpened}
use Rattle.search_walk.specs.StepsScope.{Scope, scope}
use Rattle.search_walk.proofs.RunLemmas.{reads_joined}
use Rattle.search_engine.specs.declared.counts.LaneCounts.{LaneCounts}
use Rattle.search_engine.specs.Refused.{from_text}
use Rattle.search_engine.specs.Lanes.{FaultsOf, IsFresh, IsLane, IsLaneRun, IsLaneSearch, IsLaneWorked, IsWell, LaneLeft, LaneView, PartReads, SearchedInto, StoppedInto, fronts_of, given, left_of, scope_of}
use Rattle.log_seams.specs.Parts.{no_ranges}
use Rattle.search_engine.proofs.FrontsLemmas.{have_both, parted}
use Rattle.search_engine.proofs.LaneListLemmas.{all_fronts}

-- ---- what is read

-- what is read of some of the segments is read of all
reads_part : (n : Named) (q : Asked) (front mine back : List SegmentPlace) (old new : Option (List (ℕ × ℕ))) → ReadsOpened n q mine old new → ReadsOpened n q (front ++ (mine ++ back)) old new
reads_part n q front mine back old new reads = record {
  more = reads.more;
  added = reads.added;
  each = All-weaker (IsRead n q mine) (IsRead n q (front ++ (mine ++ back)))
      (λ r is. ⊎_elim (λ c. inl (record { p = c.p; is = inside c.p c.is; opened = c.opened; start = c.start; end = c.end }))
      (λ other. inr (⊎_elim (λ h. inl (record { p = h.p; is = inside h.p h.is; start = h.start; end = h.end })) (λ words. inr words) other)) is) reads.more reads.each;
}
  where
    inside : (p : SegmentPlace) → Contains mine p → Contains (front ++ (mine ++ back)) p
    inside p is = Contains-append_right front (mine ++ back) p (Contains-append_left mine back p is)

pub reads_in : (seen later : Option (List ℕ)) (n : Named) (files : List FileEntry) (q : Asked) (a c b : List SegmentFront) (old mid new : Option (List (ℕ × ℕ))) → later ≡ seen
    → OfFronts (a ++ (c ++ b)) (λ ps. OfSegments seen n files ps (λ _ _. ReadsOpened n q ps old mid)) → OfFronts c (λ ps. OfSegments later n files ps (λ _ _. ReadsOpened n q ps mid new))
    → OfFronts (a ++ (c ++ b)) (λ ps. OfSegments seen n files ps (λ _ _. ReadsOpened n q ps old new))
reads_in None later n files q a c b old mid new same one two ps is = tt
reads_in (Some bytes) later n files q a c b old mid new same one two ps is = λ all distinct have.
    let x = parted ps a (c ++ b) is in
    let y = parted x.back c b x.second in
    let h = have_both bytes n files x.front x.back all (subst (λ l. HaveMessages bytes n files l all) x.both have) in
    let i = have_both bytes n files y.front y.back h.rest (subst (λ l. HaveMessages bytes n files l h.rest) y.both h.two) in
    let cut : ps ≡ x.front ++ (y.front ++ y.back) = x.both ∙ ap (λ (l : List SegmentPlace). x.front ++ l) y.both in
    let step : ReadsOpened n q y.front mid new = subst (λ s. OfSegments s n files y.front (λ _ _. ReadsOpened n q y.front mid new)) same (two y.front y.first) i.own distinct i.one in
    reads_joined n q ps old mid new (one ps is all distinct have) (subst (λ l. ReadsOpened n q l mid new) (sym cut) (reads_part n q x.front y.front y.back mid new step))

-- ---- one lane

no_fault : (f : ℕ) (r : Result (Unit {0}) SearchRefusal) → CountsOf SearchRefusal.DiskFault 0 f r → ¬ IsErrOf r SearchRefusal.DiskFault → f ≡ 0
no_fault f (Ok t) counts not = counts.steady
no_fault f (Err SearchRefusal.DiskFault) counts not = absurd (not refl)
no_fault f (Err SearchRefusal.SinkFault) counts not = counts.spared SearchRefusal.SinkFault refl (λ is. absurd (cc (is)))
no_fault f (Err SearchRefusal.Damaged) counts not = counts.spared SearchRefusal.Damaged refl (λ is. absurd (cc (is)))
no_fault f (Err SearchRefusal.OutOfMemory) counts not = counts.spared SearchRefusal.OutOfMemory refl (λ is. absurd (cc (is)))

pub some_fault : (f : ℕ) (r : Result (Unit {0}) SearchRefusal) → CountsOf SearchRefusal.DiskFault 0 f r → IsErrOf r SearchRefusal.DiskFault → 0 < f
some_fault f r counts is = ⊎_elim (λ (lt : 0 < f). lt) (λ (top : 2 ^ 64 - 1 ≤ f). omega (arith, top)) (counts.failed is)

module _ {P : Type 0} (state : P → DiskState) where
  -- a lane that was given segments and ran
  pub lane_counts : (old mid new : LaneView P) → IsFresh state old → mid ≡ given old mid.fronts → (IsWell mid → IsLaneRun state mid new)
      → CountsOf SearchRefusal.DiskFault 0 (state new.part).faults new.left.answer × (new.fronts ≡ mid.fronts)
  lane_counts old mid new fresh is runs =
      let run = runs (subst IsWell (sym is) fresh.well) in
      let none : (state mid.part).faults ≡ 0 = ap (λ (l : LaneView P). (state l.part).faults) is ∙ fresh.faults in
      (subst (λ (k : ℕ). CountsOf SearchRefusal.DiskFault k (state new.part).faults new.left.answer) none run.counts, ap (λ (l : LaneView P). l.fronts) run.kept)

  pub lane_ran : (disk : DiskState) (s : Scope) (all a b : List SegmentFront) (old mid new : LaneView P) → IsFresh state old → IsLane state disk s all old → mid ≡ given old mid.fronts → (IsWell mid → IsLaneRun state mid new)
      → all ≡ a ++ (mid.fronts ++ b) → IsLane state disk s all new × IsLaneWorked disk.seen s new
  lane_ran disk s all a b old mid new fresh lane is runs cut =
      let run = runs (subst IsWell (sym is) fresh.well) in
      let here : scope_of state mid ≡ s = ap (scope_of state) is ∙ lane.is in
      let seen : (state mid.part).seen ≡ disk.seen = ap (λ (l : LaneView P). (state l.part).seen) is ∙ lane.seen in
      let later : (state new.part).seen ≡ disk.seen = run.rests.seen ∙ seen in
      let was : PartReads disk s all (state mid.part) = subst (λ (l : LaneView P). PartReads disk s all (state l.part)) (sym is) lane.reads in
      let own : ReadsFronts (state mid.part) (state new.part) s.names s.files s.query mid.fronts =
      subst (λ (x : Scope). ReadsFronts (state mid.part) (state new.part) x.names x.files x.query mid.fronts) here run.reads in
      let reads : PartReads disk s (a ++ (mid.fronts ++ b)) (state new.part) =
      reads_in disk.seen (state mid.part).seen s.names s.files s.query a mid.fronts b (no_ranges disk.ranges) (state mid.part).ranges (state new.part).ranges seen (subst (λ (f : List SegmentFront). PartReads disk s f (state mid.part)) cut was) own in (
        record {
          is = ap (scope_of state) run.kept ∙ ap (λ x. scope (named x mid.first) mid.query mid.files) run.rests.seen ∙ here;
          seen = later;
          reads = subst (λ (f : List SegmentFront). PartReads disk s f (state new.part)) (sym cut) reads;
        },
        subst (λ (x : Scope). IsLaneWorked disk.seen x new) here (subst (λ x. IsLaneWorked x (scope_of state mid) new) seen run.worked),
      )

  -- all lanes of a turn: before, with their segments, and behind it
  module _ (old mid new : List (LaneView P)) (len : length mid ≡ length old) (kept : (k : ℕ) (d : LaneView P) → k < length old → get_or mid k d ≡ given (get_or old k d) (get_or mid k d).fronts) (long : length new ≡ length mid)
      (runs : (k : ℕ) (d : LaneView P) → k < length mid → IsWell (get_or mid k d) → IsLaneRun state (get_or mid k d) (get_or new k d)) (fresh : All (IsFresh state) old) where
    at_counts : (k : ℕ) (d : LaneView P) → k < length new
        → CountsOf SearchRefusal.DiskFault 0 (state (get_or new k d).part).faults (get_or new k d).left.answer × ((get_or new k d).fronts ≡ (get_or mid k d).fronts)
    at_counts k d lt = lane_counts (get_or old k d) (get_or mid k d) (get_or new k d) (fresh k d (omega (arith, lt, long, len))) (kept k d (omega (arith, lt, long, len))) (runs k d (omega (arith, lt, long)))

    pub turn_fronts : fronts_of new ≡ fronts_of mid
    turn_fronts = same_fronts new mid long (λ k d lt. (at_counts k d lt).1)
      where
        same_fronts : (xs ys : List (LaneView P)) → length xs ≡ length ys → ((k : ℕ) (d : LaneView P) → k < length xs → (get_or xs k d).fronts ≡ (get_or ys k d).fronts) → fronts_of xs ≡ fronts_of ys
        same_fronts [] [] same each = refl
        same_fronts [] (y ∷ ys) same each = absurd (omega (arith, same))
        same_fronts (x ∷ xs) [] same each = absurd (omega (arith, same))
        same_fronts (x ∷ xs) (y ∷ ys) same each =
            ap₂ (λ (f g : List SegmentFront). f ++ g) (each 0 x (omega arith)) (same_fronts xs ys (omega (arith, same)) (λ k d lt. each (suc k) d (omega (arith, lt))))

    -- a lane fell, and a part has a fault
    pub turn_fell : (l : LaneView P) → Contains new l → IsErrOf l.left.answer SearchRefusal.DiskFault → (x : LaneView P) × Contains new x × (0 < (state x.part).faults)
    turn_fell l has is =
        let counts = (at_counts has.0 l has.1).0 in
        (l, has, some_fault (state l.part).faults l.left.answer (subst (λ (x : LaneView P). CountsOf SearchRefusal.DiskFault 0 (state x.part).faults x.left.answer) has.2 counts) is)

    -- none fell, and no part has one
    pub turn_stood : All (λ l. ¬ IsErrOf l.left.answer SearchRefusal.DiskFault) new → All (λ l. (state l.part).faults ≡ 0) new
    turn_stood stood k d lt = no_fault (state (get_or new k d).part).faults (get_or new k d).left.answer (at_counts k d lt).0 (stood k d lt)

    pub turn_lanes : (disk : DiskState) (s : Scope) (gone fronts left : List SegmentFront) → fronts ≡ fronts_of mid ++ left → All (IsLane state disk s (gone ++ fronts)) old
        → All (IsLane state disk s (gone ++ fronts)) new × All (IsLaneWorked disk.seen s) new
    turn_lanes disk s gone fronts left parts lanes = (λ k d lt. (one k d lt).0, λ k d lt. (one k d lt).1)
      where
        one : (k : ℕ) (d : LaneView P) → k < length new → IsLane state disk s (gone ++ fronts) (get_or new k d) × IsLaneWorked disk.seen s (get_or new k d)
        one k d lt =
            let m = get_or mid k d in
            let inside : k < length mid = omega (arith, lt, long) in
            let front = fronts_of (take k mid) in
            let rest = fronts_of (drop (k + 1) mid) in
            let cut : gone ++ fronts ≡ (gone ++ front) ++ (m.fronts ++ (rest ++ left)) =
            ap (λ (f : List SegmentFront). gone ++ f) (parts ∙ ap (λ (f : List SegmentFront). f ++ left) (all_fronts mid k m inside (get_or_default mid k d m inside)) ∙ append_assoc front (m.fronts ++ rest) left ∙ ap (λ (f : List SegmentFront). front ++ f) (append_assoc m.fronts rest left))
            ∙ sym (append_assoc gone front (m.fronts ++ (rest ++ left))) in
            lane_ran disk s (gone ++ fronts) (gone ++ front) (rest ++ left) (get_or old k d) m (get_or new k d) (fresh k d (omega (arith, lt, long, len))) (lanes k d (omega (arith, lt, long, len))) (kept k d (omega (arith, lt, long, len)))
            (runs k d inside) cut

-- lanes that did not change, of segments by their parts
pub lanes_here : {P : Type 0} (state : P → DiskState) (disk : DiskState) (s : Scope) (fronts parts : List SegmentFront) (was lanes : List (LaneView P)) → fronts ≡ parts → lanes ≡ was → All (IsLane state disk s fronts) was
    → All (IsLane state disk s parts) lanes
lanes_here {P = P} state disk s fronts parts was lanes cut kept all =
    subst (λ (l : List (LaneView P)). All (IsLane state disk s parts) l) (sym kept) (subst (λ (f : List SegmentFront). All (IsLane state disk s f) was) cut all)

pub fresh_behind : {P : Type 0} (state : P → DiskState) (lanes : List (LaneView P)) → All IsWell lanes → All (λ l. (state l.part).faults ≡ 0) lanes → All (IsFresh state) lanes
fresh_behind state lanes well none k d lt = record { well = well k d lt; faults = none k d lt }

pub fresh_faults : {P : Type 0} (state : P → DiskState) (lanes : List (LaneView P)) → All (IsFresh state) lanes → All (λ l. (state l.part).faults ≡ 0) lanes
fresh_faults state lanes fresh k d lt = (fresh k d lt).faults

pub none_left : (xs : List SegmentFront) → (length xs == 0) ≡ true → xs ≡ []
none_left [] is = refl
none_left (x ∷ xs) is = absurd (grind (arith, nat_tests))

-- what was lent whole comes back whole
pub back_whole : {A : Type 0} (n : ℕ) (xs ys : List A) → n ≡ length ys → length xs ≡ length ys → take n (xs ++ drop (length xs) ys) ≡ xs
back_whole zero [] [] counted same = refl
back_whole zero [] (y ∷ ys) counted same = absurd (omega (arith, same))
back_whole zero (x ∷ xs) [] counted same = absurd (omega (arith, same))
back_whole zero (x ∷ xs) (y ∷ ys) counted same = absurd (omega (arith, counted))
back_whole (suc n) [] [] counted same = absurd (omega (arith, counted))
back_whole (suc n) [] (y ∷ ys) counted same = absurd (omega (arith, same))
back_whole (suc n) (x ∷ xs) [] counted same = absurd (omega (arith, same))
back_whole {A = A} (suc n) (x ∷ xs) (y ∷ ys) counted same = ap (λ (zs : List A). x ∷ zs) (back_whole n xs ys (omega (arith, counted)) (omega (arith, same)))

pub no_fronts_left : (all gone left : List SegmentFront) → left ≡ [] → all ≡ gone ++ left → all ≡ gone
no_fronts_left all gone left none parts = parts ∙ ap (λ (f : List SegmentFront). gone ++ f) none ∙ append-nil gone

-- parts that came back told the disk's faults
pub counts_of : {P T : Type 0} (state : P → DiskState) (lanes : List (LaneView P)) (old new : ℕ) (r : Result T SearchRefusal) → FaultsOf state lanes r → old ≤ new → (All (λ l. (state l.part).faults ≡ 0) lanes → new ≡ old)
    → ((l : LaneView P) → Contains lanes l → 0 < (state l.part).faults → Rose old new) → CountsOf SearchRefusal.DiskFault old new r
counts_of state lanes old new (Ok t) faults later steady rose = record {
  later = later;
  steady = steady (faults.none (λ is. absurd (cc (is))));
  failed = λ is. absurd (cc (is));
  spared = λ e is other. steady (faults.none (λ x. absurd (cc (x))));
}
counts_of state lanes old new (Err e) faults later steady rose = record {
  later = later;
  steady = tt;
  failed = λ is. let f = faults.some is in rose f.0 f.1 f.2;
  spared = λ x is other. steady (faults.none (λ fell. other (same_error x e is fell)));
}
  where
    same_error : {A : Type 0} (x y : SearchRefusal) → IsErrOf {T = A} (Err y) x → IsErrOf {T = A} (Err y) SearchRefusal.DiskFault → x ≡ SearchRefusal.DiskFault
    same_error x y one two = cc (one, two)

-- ---- the run of a lane

lane_run_is : {P : Type 0} (state : P → DiskState) (x old : LaneView P) (part : P) (left : LaneLeft) → x ≡ old → length x.fronts ≤ 65536 → Rests (state x.part) (state part)
    → ReadsFronts (state x.part) (state part) (scope_of state x).names x.files x.query x.fronts → CountsOf SearchRefusal.DiskFault (state x.part).faults (state part).faults left.answer → ¬ IsErrOf left.answer SearchRefusal.SinkFault
    → OnOk left.answer (SearchedInto (state x.part).seen (scope_of state x) x.fronts left) → OnErr left.answer (StoppedInto (state x.part).seen (scope_of state x) x.fronts left.text)
    → (IsErrOf left.answer SearchRefusal.Damaged → NoFronts (state x.part).seen (scope_of state x).names x.files x.fronts) → IsLaneRun state old (record x { part = part; left = left })
lane_run_is state x old part left same few rests reads counts sink done stopped damaged =
    subst (λ o. IsLaneRun state o (record x { part = part; left = left })) same
    (record { kept = refl; rests = rests; reads = reads; counts = counts; sink = sink; worked = record { few = few; done = done; stopped = stopped; damaged = damaged } })

well_is : (r : Result (Unit {0}) SearchRefusal) → OnErr r ⊥ → r ≡ Ok tt
well_is (Ok tt) well = refl
well_is (Err e) well = absurd well

-- what holds if a lane is well
pub of_well : (r : Result (Unit {0}) SearchRefusal) (S : Type 0) → OnErr r ⊥ → OnOk r S → S
of_well (Ok t) S well has = has
of_well (Err e) S well has = absurd well

pub ok_of : (r : Result (Unit {0}) SearchRefusal) (S : Type 0) → S → OnOk r S
ok_of (Ok t) S has = has
ok_of (Err e) S has = tt

-- a lane that is well did not answer a refusal
pub well_not : (r : Result (Unit {0}) SearchRefusal) → IsErr r → OnErr r ⊥ → ⊥
well_not (Ok t) is well = absurd (cc (is))
well_not (Err e) is well = well

pub lane_run_ok : {P : Type 0} (state : P → DiskState) (x old : LaneView P) (part : P) (text : List ℕ) (told : LaneCounts) → x ≡ old → length x.fronts ≤ 65536
    → IsLaneSearch (state x.part) (state part) (scope_of state x) x.fronts text (Ok told) → IsWell old → IsLaneRun state old (record x { part = part; left = left_of text told.counts told.opened x.left.answer })
lane_run_ok state x old part text told same few ran well =
    let is : x.left.answer ≡ Ok tt = well_is x.left.answer (subst IsWell (sym same) well) in
    subst (λ (r : Result (Unit {0}) SearchRefusal). IsLaneRun state old (record x { part = part; left = left_of text told.counts told.opened r })) (sym is)
    (lane_run_is state x old part (left_of text told.counts told.opened (Ok tt)) same few ran.rests ran.reads
    (record { later = ran.counts.later; steady = ran.counts.steady; failed = λ no. absurd (cc (no)); spared = λ e no other. absurd (cc (no)) }) (λ no. absurd (cc (no))) ran.done tt (λ no. absurd (cc (no))))

-- a refusal of a search into a text
text_counts : {A B : Type 0} (old new : ℕ) (e : SearchRefusal) → CountsOf {T = A} SearchRefusal.DiskFault old new (Err e) → CountsOf {T = B} SearchRefusal.DiskFault old new (Err (from_text e))
text_counts old new SearchRefusal.DiskFault counts = record { later = counts.later; steady = tt; failed = λ is. counts.failed refl; spared = λ x is other. counts.spared x (cc (is)) other }
text_counts old new SearchRefusal.SinkFault counts = record { later = counts.later; steady = tt; failed = λ is. absurd (cc (is)); spared = λ x is other. counts.spared SearchRefusal.SinkFault refl (λ no. absurd (cc (no))) }
text_counts old new SearchRefusal.Damaged counts = record { later = counts.later; steady = tt; failed = λ is. absurd (cc (is)); spared = λ x is other. counts.spared x (cc (is)) other }
text_counts old new SearchRefusal.OutOfMemory counts = record { later = counts.later; steady = tt; failed = λ is. absurd (cc (is)); spared = λ x is other. counts.spared x (cc (is)) other }

text_damaged : {A B : Type 0} (e : SearchRefusal) → IsErrOf {T = A} (Err (from_text e)) SearchRefusal.Damaged → IsErrOf {T = B} (Err e) SearchRefusal.Damaged
text_damaged SearchRefusal.DiskFault is = absurd (cc (is))
text_damaged SearchRefusal.SinkFault is = absurd (cc (is))
text_damaged SearchRefusal.Damaged is = refl
text_damaged SearchRefusal.OutOfMemory is = absurd (cc (is))

text_sink : {A : Type 0} (e : SearchRefusal) → ¬ IsErrOf {T = A} (Err (from_text e)) SearchRefusal.SinkFault
text_sink SearchRefusal.DiskFault = λ is. absurd (cc (is))
text_sink SearchRefusal.SinkFault = λ is. absurd (cc (is))
text_sink SearchRefusal.Damaged = λ is. absurd (cc (is))
text_sink SearchRefusal.OutOfMemory = λ is. absurd (cc (is))

pub lane_run_err : {P : Type 0} (state : P → DiskState) (x old : LaneView P) (part : P) (text : List ℕ) (e r : SearchRefusal) → r ≡ from_text e → x ≡ old → length x.fronts ≤ 65536
    → IsLaneSearch (state x.part) (state part) (scope_of state x) x.fronts text (Err e) → IsLaneRun state old (record x { part = part; left = left_of text x.left.counts x.left.opened (Err r) })
lane_run_err state x old part text e r is same few ran =
    subst (λ (y : SearchRefusal). IsLaneRun state old (record x { part = part; left = left_of text x.left.counts x.left.opened (Err y) })) (sym is)
    (lane_run_is state x old part (left_of text x.left.counts x.left.opened (Err (from_text e))) same few ran.rests ran.reads
    (text_counts (state x.part).faults (state part).faults e ran.counts) (text_sink e) tt ran.stopped (λ no. ran.damaged (text_damaged e no)))

other_error : {A B : Type 0} (e x : SearchRefusal) → IsErrOf {T = A} (Err e) x → IsErrOf {T = B} (Err e) x
other_error e x is = cc (is)

-- a refusal that is handed on
pub faults_on : {P A B : Type 0} (state : P → DiskState) (lanes : List (LaneView P)) (r : Result A SearchRefusal) (x : Result B SearchRefusal) (e : SearchRefusal) → r ≡ Err e → x ≡ Err e → FaultsOf state lanes r → FaultsOf state lanes x
faults_on {P} {A} {B} state lanes r x e was answer faults = record {
  some = λ is. faults.some (subst (λ (y : Result A SearchRefusal). IsErrOf y SearchRefusal.DiskFault) (sym was) (other_error {A = B} {B = A} e SearchRefusal.DiskFault (subst (λ (y : Result B SearchRefusal). IsErrOf y SearchRefusal.DiskFault) answer is)));
  none = λ not. faults.none (λ is. not (subst (λ (y : Result B SearchRefusal). IsErrOf y SearchRefusal.DiskFault) (sym answer) (other_error {A = A} {B = B} e SearchRefusal.DiskFault (subst (λ (y : Result A SearchRefusal). IsErrOf y SearchRefusal.DiskFault) was is))));
}

pub counts_on : {A B : Type 0} (fault : SearchRefusal) (old mid new : ℕ) (r : Result A SearchRefusal) (x : Result B SearchRefusal) (e : SearchRefusal) → r ≡ Err e → x ≡ Err e → mid ≡ old → CountsOf fault mid new r → CountsOf fault old new x
counts_on {A} {B} fault old mid new r x e was answer same counts =
    let own : CountsOf {T = A} fault mid new (Err e) = subst (λ (y : Result A SearchRefusal). CountsOf fault mid new y) was counts in
    let here : CountsOf {T = B} fault mid new (Err e) =
    record { later = own.later; steady = tt; failed = λ is. own.failed (other_error {A = B} {B = A} e fault is); spared = λ y is o. own.spared y (other_error {A = B} {B = A} e y is) o } in
    subst (λ (y : Result B SearchRefusal). CountsOf fault old new y) (sym answer) (subst (λ (m : ℕ). CountsOf {T = B} fault m new (Err e)) same here)
