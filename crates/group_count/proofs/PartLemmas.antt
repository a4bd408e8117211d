-- Parts of a disk that are lent and come back.
use Rattle.std.specs.Prelude.{All, ◌⊎◌}
use Rattle.std.proofs.Common.{◌≡◌, ℕ, ◌-◌, ◌<◌, ◌≤◌, ◌^◌, List, [], ◌∷◌, ◌++◌, get_or, Option, Some, None, option_map, refl, sym, ◌∙◌, ap, subst, arith, ⊎_elim, inl, inr}
use Rattle.std.specs.List.{Contains}
use Rattle.std.proofs.lemmas.List.Elements.{All-nil, All-pop, All-push, All-same, Contains-append_cases}
use Rattle.log_seams.specs.Disk.{Rests}
use Rattle.log_seams.proofs.MomentLemmas.{rests_on}
use Rattle.search_walk.proofs.PagesReadLemmas.{rests_same}
use Rattle.log_seams.specs.Disk.{DiskState}
use Rattle.log_seams.specs.Outside.{Rose}
use Rattle.archive_open.specs.declared.files.FileEntry.{FileEntry}
use Rattle.archive_open.specs.declared.segments.SegmentPlace.{SegmentPlace}
use Rattle.archive_places.specs.declared.front.SegmentFront.{SegmentFront}
use Rattle.search_meaning.specs.Scan.{Asked}
use Rattle.search_walk.specs.Held.{Named, OfSegments}
use Rattle.search_walk.specs.Opened.{OfFronts, ReadsFronts, ReadsOpened}
use Rattle.search_walk.specs.StepsScope.{Scope}
use Rattle.search_walk.proofs.RunLemmas.{reads_joined}
use Rattle.search_walk.proofs.SegmentLemmas.{nothing_read}
use Rattle.group_count.specs.StepsLanes.{IsLane, LaneView}
use Rattle.log_seams.specs.Parts.{IsPart, Lends, TakesBack, no_ranges, with_ranges}

-- ranges that were read change nothing in whether they are told
none_same : (old now : Option (List (ℕ × ℕ))) (more : List (ℕ × ℕ)) → now ≡ option_map (λ r. r ++ more) old → no_ranges old ≡ no_ranges now
none_same None now more is = ap no_ranges (sym is)
none_same (Some ranges) now more is = ap no_ranges (sym is)

back_one : (n : Named) (q : Asked) (ps : List SegmentPlace) (first old new part : Option (List (ℕ × ℕ))) → ((more : List (ℕ × ℕ)) → part ≡ with_ranges more (no_ranges old) → new ≡ with_ranges more old)
    → ReadsOpened n q ps first old → ReadsOpened n q ps (no_ranges first) part → ReadsOpened n q ps first new
back_one n q ps first old new part added so own =
    reads_joined n q ps first old new so (record {
      more = own.more;
      added = added own.more (own.added ∙ ap (with_ranges own.more) (none_same first old so.more so.added));
      each = own.each;
    })

back_told : (seen : Option (List ℕ)) (n : Named) (files : List FileEntry) (q : Asked) (fronts : List SegmentFront) (first old new part : Option (List (ℕ × ℕ))) → ((more : List (ℕ × ℕ)) → part ≡ with_ranges more (no_ranges old) → new ≡ with_ranges more old)
    → OfFronts fronts (λ ps. OfSegments seen n files ps (λ _ _. ReadsOpened n q ps first old)) → OfFronts fronts (λ ps. OfSegments seen n files ps (λ _ _. ReadsOpened n q ps (no_ranges first) part))
    → OfFronts fronts (λ ps. OfSegments seen n files ps (λ _ _. ReadsOpened n q ps first new))
back_told None n files q fronts first old new part added so own ps is = tt
back_told (Some bytes) n files q fronts first old new part added so own ps is = λ all distinct have. back_one n q ps first old new part added (so ps is all distinct have) (own ps is all distinct have)

-- a part more came back
pub back_next : (first old new part : DiskState) (s : Scope) (fronts : List SegmentFront) → TakesBack part old new → ReadsFronts first old s.names s.files s.query fronts → OfFronts fronts (λ ps. OfSegments first.seen s.names s.files ps (λ _ _. ReadsOpened s.names s.query ps (no_ranges first.ranges) part.ranges))
    → ReadsFronts first new s.names s.files s.query fronts
back_next first old new part s fronts back so own = back_told first.seen s.names s.files s.query fronts first.ranges old.ranges new.ranges part.ranges back.added so own

pub back_first : (d : DiskState) (s : Scope) (fronts : List SegmentFront) → ReadsFronts d d s.names s.files s.query fronts
back_first d s fronts ps is = nothing_read d.seen s.names s.files s.query ps d.ranges d.ranges refl

-- ---- parts come back one after the other

rose_on : (a b c : ℕ) → Rose a b → b ≤ c → Rose a c
rose_on a b c rose le = ⊎_elim (λ (lt : a < b). inl (omega (arith, lt, le))) (λ (top : 2 ^ 64 - 1 ≤ b). inr (omega (arith, top, le))) rose

rose_behind : (a b c : ℕ) → a ≤ b → Rose b c → Rose a c
rose_behind a b c le rose = ⊎_elim (λ (lt : b < c). inl (omega (arith, lt, le))) (λ (top : 2 ^ 64 - 1 ≤ c). inr top) rose

module _ {P T : Type 0} (state : P → DiskState) where
  pub record Back (first now : DiskState) (all left : List (LaneView P T)) : Type 0 where
    pub rests : Rests first now
    pub reads : (s : Scope) (fronts : List SegmentFront) → All (IsLane state first s fronts) all → ReadsFronts first now s.names s.files s.query fronts × All (IsLane state first s fronts) left
    pub later : first.faults ≤ now.faults
    pub steady : All (λ l. (state l.part).faults ≡ 0) all → (now.faults ≡ first.faults) × All (λ l. (state l.part).faults ≡ 0) left
    pub rose : (l : LaneView P T) → Contains all l → 0 < (state l.part).faults → Contains left l ⊎ Rose first.faults now.faults

  pub back_none : (d : DiskState) (lanes : List (LaneView P T)) → Back d d lanes lanes
  back_none d lanes = record {
    rests = rests_same d;
    reads = λ s fronts are. (back_first d s fronts, are);
    later = omega arith;
    steady = λ none. (refl, none);
    rose = λ l has more. inl has;
  }

  pub back_on : (first now later : DiskState) (all left rest : List (LaneView P T)) (l : LaneView P T) → left ≡ rest ++ l ∷ [] → TakesBack (state l.part) now later → Back first now all left → Back first later all rest
  back_on first now later all left rest l is back before = record {
    rests = rests_on first now later before.rests back.rests;
    reads = λ s fronts are.
        let was = before.reads s fronts are in
        let parts = All-pop (IsLane state first s fronts) left rest (Some l) is was.1 in
        (back_next first now later (state l.part) s fronts back was.0 parts.1.reads, parts.0);
    later = omega (arith, before.later, back.later);
    steady = λ none.
        let was = before.steady none in
        let parts = All-pop (λ x. (state x.part).faults ≡ 0) left rest (Some l) is was.1 in
        (back.steady parts.1 ∙ was.0, parts.0);
    rose = λ x has more.
        ⊎_elim (λ (still : Contains left x).
        ⊎_elim (λ (other : Contains rest x). inl other)
        (λ (same : Contains (l ∷ []) x).
        let own : l ≡ x = Contains-only l x same in
        inr (rose_behind first.faults now.faults later.faults before.later (back.rose (subst (λ (y : LaneView P T). 0 < (state y.part).faults) (sym own) more))))
        (Contains-append_cases rest (l ∷ []) x (subst (λ (ls : List (LaneView P T)). Contains ls x) is still)))
        (λ (gone : Rose first.faults now.faults). inr (rose_on first.faults now.faults later.faults gone back.later)) (before.rose x has more);
  }
    where
      Contains-only : (a x : LaneView P T) → Contains (a ∷ []) x → a ≡ x
      Contains-only a x is =
          let zero : is.0 ≡ 0 = omega (arith, is.1) in
          subst (λ (j : ℕ). get_or (a ∷ []) j x ≡ x) zero is.2

  pub back_end : (first now : DiskState) (all left : List (LaneView P T)) → left ≡ [] → Back first now all left → (l : LaneView P T) → Contains all l → 0 < (state l.part).faults → Rose first.faults now.faults
  back_end first now all left none back = λ l has more.
      ⊎_elim (λ (still : Contains left l). let none_there : Contains [] l = subst (λ (ls : List (LaneView P T)). Contains ls l) none still in absurd (omega (arith, none_there.1)))
      (λ (gone : Rose first.faults now.faults). gone) (back.rose l has more)

-- ---- parts are lent

pub lends_none : (d : DiskState) → Lends d d
lends_none d = record { rests = rests_same d; ranges = refl; faults = refl }

pub lends_on : (a b c : DiskState) → Lends a b → Lends b c → Lends a c
lends_on a b c one two = record { rests = rests_on a b c one.rests two.rests; ranges = two.ranges ∙ one.ranges; faults = two.faults ∙ one.faults }

-- a part that was lent later is one of the disk as it was before
pub part_before : (first now part : DiskState) → Lends first now → IsPart now part → IsPart first part
part_before first now part lends is = record { seen = is.seen ∙ lends.rests.seen; ranges = is.ranges ∙ ap no_ranges lends.ranges; faults = is.faults }

module _ {P : Type 0} (state : P → DiskState) where
  -- so many parts
  pub record Lent (first now : DiskState) (parts : List P) : Type 0 where
    pub lends : Lends first now
    pub are : All (λ p. IsPart first (state p)) parts

  pub lent_none : (d : DiskState) (parts : List P) → parts ≡ [] → Lent d d parts
  lent_none d parts none = record { lends = lends_none d; are = All-same (λ p. IsPart d (state p)) parts [] none (All-nil (λ p. IsPart d (state p))) }

  pub lent_push : (first now later : DiskState) (parts more : List P) (p : P) → Lends now later → IsPart now (state p) → more ≡ parts ++ p ∷ [] → Lent first now parts → Lent first later more
  lent_push first now later parts more p lends part added before = record {
    lends = lends_on first now later before.lends lends;
    are = All-same (λ x. IsPart first (state x)) more (parts ++ p ∷ []) added (All-push (λ x. IsPart first (state x)) parts p before.are (part_before first now (state p) before.lends part));
  }

-- a part of the disk as it was is one of the disk that only lent parts
pub part_later : (first now part : DiskState) → Lends first now → IsPart first part → IsPart now part
part_later first now part lends is = record { seen = is.seen ∙ sym lends.rests.seen; ranges = is.ranges ∙ ap no_ranges (sym lends.ranges); faults = is.faults }

pub parts_later : {P : Type 0} (state : P → DiskState) (first now : DiskState) (parts : List P) → Lends first now → All (λ p. IsPart first (state p)) parts → All (λ p. IsPart now (state p)) parts
parts_later state first now parts lends are k d lt = part_later first now (state (get_or parts k d)) lends (are k d lt)

-- what was done with the disk as it was when it had lent parts
pub lent_reads : (old mid new : DiskState) (s : Scope) (fronts : List SegmentFront) → Lends old mid → ReadsFronts mid new s.names s.files s.query fronts → ReadsFronts old new s.names s.files s.query fronts
lent_reads old mid new s fronts lends reads ps is =
    subst (λ x. OfSegments x s.names s.files ps (λ _ _. ReadsOpened s.names s.query ps old.ranges new.ranges)) lends.rests.seen
    (subst (λ r. OfSegments mid.seen s.names s.files ps (λ _ _. ReadsOpened s.names s.query ps r new.ranges)) lends.ranges (reads ps is))

-- a disk that only lent parts has read nothing
pub lanes_unread : (old new : DiskState) (s : Scope) (fronts : List SegmentFront) → Lends old new → ReadsFronts old new s.names s.files s.query fronts
lanes_unread old new s fronts lends ps is = nothing_read old.seen s.names s.files s.query ps old.ranges new.ranges lends.ranges
