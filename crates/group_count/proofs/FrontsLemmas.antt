-- Segments that are gone over piece by piece: what was done with each is said of all.
use Rattle.std.proofs.Common.{◌≡◌, ℕ, suc, ◌+◌, ◌*◌, ◌≤◌, ◌<◌, ◌^◌, List, [], ◌∷◌, ◌++◌, length, map, Option, Some, None, refl, sym, ◌∙◌, ap, ap₂, subst, arith, length-append, ⊎_elim, inl, inr}
use Rattle.std.specs.List.{Contains}
use Rattle.std.proofs.lemmas.List.{append_assoc, length-map}
use Rattle.std.proofs.lemmas.List.Elements.{All-weaker, Contains-append_left, Contains-append_right}
use Rattle.archive_meaning.specs.declared.TheConstants.{MAX_MESSAGES}
use Rattle.archive_open.specs.declared.files.FileEntry.{FileEntry}
use Rattle.archive_open.specs.declared.segments.SegmentPlace.{SegmentPlace}
use Rattle.archive_places.specs.declared.front.SegmentFront.{SegmentFront}
use Rattle.archive_places.specs.Fronts.{front_of_place}
use Rattle.column_store.specs.declared.row.Row.{Row}
use Rattle.printed_lines.specs.Lines.{Placed, numbered}
use Rattle.search_meaning.specs.Scan.{Asked}
use Rattle.search_walk.specs.Held.{AreRowsOf, HaveMessages, Named, OfSegments}
use Rattle.search_walk.specs.Opened.{IsRead, NoFronts, OfFronts, ReadsOpened}

-- ---- a list of segments in two parts

record Parted (ps : List SegmentPlace) (a b : List SegmentFront) : Type 0 where
  front : List SegmentPlace
  back : List SegmentPlace
  both : ps ≡ front ++ back
  first : map front_of_place front ≡ a
  second : map front_of_place back ≡ b

parted : (ps : List SegmentPlace) (a b : List SegmentFront) → map front_of_place ps ≡ a ++ b → Parted ps a b
parted ps [] b is = record { front = []; back = ps; both = refl; first = refl; second = is }
parted [] (x ∷ a) b is = absurd (cc (is))
parted (p ∷ ps) (x ∷ a) b is =
    let one : front_of_place p ≡ x = cc (is) in
    let rest : map front_of_place ps ≡ a ++ b = cc (is) in
    let r = parted ps a b rest in
    record {
      front = p ∷ r.front;
      back = r.back;
      both = ap (λ (l : List SegmentPlace). p ∷ l) r.both;
      first = ap₂ (λ (f : SegmentFront) (l : List SegmentFront). f ∷ l) one r.first;
      second = r.second;
    }

record HaveBoth (bytes : List ℕ) (n : Named) (files : List FileEntry) (ps qs : List SegmentPlace) (all : List Placed) : Type 0 where
  own : List Placed
  rest : List Placed
  parts : all ≡ own ++ rest
  one : HaveMessages bytes n files ps own
  two : HaveMessages bytes n files qs rest

have_both : (bytes : List ℕ) (n : Named) (files : List FileEntry) (ps qs : List SegmentPlace) (all : List Placed) → HaveMessages bytes n files (ps ++ qs) all → HaveBoth bytes n files ps qs all
have_both bytes n files [] qs all have = record { own = []; rest = all; parts = refl; one = refl; two = have }
have_both bytes n files (p ∷ ps) qs all have =
    let r = have_both bytes n files ps qs have.2 have.5 in
    let mine = numbered have.0.name (p.head.first + 1) have.1 in
    record {
      own = mine ++ r.own;
      rest = r.rest;
      parts = have.6 ∙ ap (λ (l : List Placed). mine ++ l) r.parts ∙ sym (append_assoc mine r.own r.rest);
      one = (have.0, have.1, r.own, have.3, have.4, r.one, refl);
      two = r.two;
    }

length_numbered : (name : List ℕ) (k : ℕ) (messages : List (List ℕ)) → length (numbered name k messages) ≡ length messages
length_numbered name k [] = refl
length_numbered name k (m ∷ messages) = ap suc (length_numbered name (k + 1) messages)

as_many : (n : Named) (rows : List Row) (messages : List (List ℕ)) → AreRowsOf n rows messages → length messages ≡ length rows
as_many n [] [] are = refl
as_many n [] (m ∷ messages) are = absurd are.are
as_many n (r ∷ rows) [] are = absurd are.are
as_many n (r ∷ rows) (m ∷ messages) are = ap suc (as_many n rows messages (record { told = are.told; are = are.are.1 }))

-- segments have few messages
have_few : (bytes : List ℕ) (n : Named) (files : List FileEntry) (ps : List SegmentPlace) (all : List Placed) → HaveMessages bytes n files ps all → length all ≤ 4294967296 * length ps
have_few bytes n files [] all have = let none : length all ≡ 0 = ap (λ (l : List Placed). length l) have in omega (arith, none)
have_few bytes n files (p ∷ ps) all have =
    let rest = have_few bytes n files ps have.2 have.5 in
    let most : MAX_MESSAGES ≡ 4294967294 = refl in
    omega (
      arith,
      rest,
      most,
      have.4.most,
      ap (λ (l : List Placed). length l) have.6,
      length-append (numbered have.0.name (p.head.first + 1) have.1) have.2,
      length_numbered have.0.name (p.head.first + 1) have.1,
      as_many n have.4.rows have.1 have.4.are,
    )

-- segments of which there are not too many have messages that can be counted
pub few_fit : (n : Named) (files : List FileEntry) (fronts : List SegmentFront) (ps : List SegmentPlace) (bytes : List ℕ) (all : List Placed) → length fronts ≤ 2 ^ 31 → map front_of_place ps ≡ fronts → HaveMessages bytes n files ps all
    → length all < 2 ^ 64
few_fit n files fronts ps bytes all few is have =
    let long : length ps ≡ length fronts = sym (length-map ps front_of_place) ∙ ap (λ (l : List SegmentFront). length l) is in
    omega (arith, have_few bytes n files ps all have, long, few)

-- ---- what was said of segments

pub fronts_all : (seen : Option (List ℕ)) (n : Named) (files : List FileEntry) (fronts : List SegmentFront) (P Q : List SegmentPlace → List ℕ → List Placed → Type 0)
    → ((ps : List SegmentPlace) (bytes : List ℕ) (all : List Placed) → map front_of_place ps ≡ fronts → HaveMessages bytes n files ps all → P ps bytes all → Q ps bytes all)
    → OfFronts fronts (λ ps. OfSegments seen n files ps (P ps)) → OfFronts fronts (λ ps. OfSegments seen n files ps (Q ps))
fronts_all None n files fronts P Q step has ps is = tt
fronts_all (Some bytes) n files fronts P Q step has ps is = λ all distinct have. step ps bytes all is have (has ps is all distinct have)

module _ (n : Named) (files : List FileEntry) (a b : List SegmentFront) where
  -- one piece and then another
  pub fronts_join : (F G H : List SegmentPlace → List Placed → Type 0) (seen : Option (List ℕ)) → ((ps qs : List SegmentPlace) (xs ys : List Placed) → F ps xs → G qs ys → H (ps ++ qs) (xs ++ ys))
      → OfFronts a (λ ps. OfSegments seen n files ps (λ _ all. F ps all)) → OfFronts b (λ ps. OfSegments seen n files ps (λ _ all. G ps all)) → OfFronts (a ++ b) (λ ps. OfSegments seen n files ps (λ _ all. H ps all))
  fronts_join F G H None on one two ps is = tt
  fronts_join F G H (Some bytes) on one two ps is = λ all distinct have.
      let c = parted ps a b is in
      let h = have_both bytes n files c.front c.back all (subst (λ l. HaveMessages bytes n files l all) c.both have) in
      subst (λ (l : List SegmentPlace). H l all) (sym c.both)
      (subst (λ (l : List Placed). H (c.front ++ c.back) l) (sym h.parts) (on c.front c.back h.own h.rest (one c.front c.first h.own distinct h.one) (two c.back c.second h.rest distinct h.two)))

  none_first : (seen : Option (List ℕ)) → NoFronts seen n files a → NoFronts seen n files (a ++ b)
  none_first None none ps is = tt
  none_first (Some bytes) none ps is = λ all distinct have.
      let c = parted ps a b is in
      let h = have_both bytes n files c.front c.back all (subst (λ l. HaveMessages bytes n files l all) c.both have) in
      none c.front c.first h.own distinct h.one

  none_second : (seen : Option (List ℕ)) → NoFronts seen n files b → NoFronts seen n files (a ++ b)
  none_second None none ps is = tt
  none_second (Some bytes) none ps is = λ all distinct have.
      let c = parted ps a b is in
      let h = have_both bytes n files c.front c.back all (subst (λ l. HaveMessages bytes n files l all) c.both have) in
      none c.back c.second h.rest distinct h.two

-- a piece that the bytes do not hold is none of the whole
pub none_part : (n : Named) (files : List FileEntry) (a c b : List SegmentFront) (seen : Option (List ℕ)) → NoFronts seen n files c → NoFronts seen n files (a ++ (c ++ b))
none_part n files a c b seen none = none_second n files a (c ++ b) seen (none_first n files c b seen none)

-- no segment
pub fronts_none : (F : List SegmentPlace → List Placed → Type 0) (seen : Option (List ℕ)) (n : Named) (files : List FileEntry) → F [] [] → OfFronts [] (λ ps. OfSegments seen n files ps (λ _ all. F ps all))
fronts_none F None n files none ps is = tt
fronts_none F (Some bytes) n files none [] is = λ all distinct have. subst (F []) (sym have) none
fronts_none F (Some bytes) n files none (p ∷ ps) is = absurd (cc (is))

-- ---- what is read

reads_more : (n : Named) (q : Asked) (front mine back : List SegmentPlace) (old new : Option (List (ℕ × ℕ))) → ReadsOpened n q mine old new → ReadsOpened n q (front ++ (mine ++ back)) old new
reads_more n q front mine back old new reads = record {
  more = reads.more;
  added = reads.added;
  each = All-weaker (IsRead n q mine) (IsRead n q (front ++ (mine ++ back)))
      (λ r is. ⊎_elim (λ c. inl (record { p = c.p; is = inside c.p c.is; opened = c.opened; start = c.start; end = c.end }))
      (λ other. inr (⊎_elim (λ h. inl (record { p = h.p; is = inside h.p h.is; start = h.start; end = h.end })) (λ words. inr words) other)) is) reads.more reads.each;
}
  where
    inside : (p : SegmentPlace) → Contains mine p → Contains (front ++ (mine ++ back)) p
    inside p is = Contains-append_right front (mine ++ back) p (Contains-append_left mine back p is)

-- what is read of a piece is read of the whole
pub reads_part : (n : Named) (files : List FileEntry) (q : Asked) (a c b : List SegmentFront) (seen : Option (List ℕ)) (old new : Option (List (ℕ × ℕ))) → OfFronts c (λ ps. OfSegments seen n files ps (λ _ _. ReadsOpened n q ps old new))
    → OfFronts (a ++ (c ++ b)) (λ ps. OfSegments seen n files ps (λ _ _. ReadsOpened n q ps old new))
reads_part n files q a c b None old new one ps is = tt
reads_part n files q a c b (Some bytes) old new one ps is = λ all distinct have.
    let x = parted ps a (c ++ b) is in
    let y = parted x.back c b x.second in
    let h = have_both bytes n files x.front x.back all (subst (λ l. HaveMessages bytes n files l all) x.both have) in
    let i = have_both bytes n files y.front y.back h.rest (subst (λ l. HaveMessages bytes n files l h.rest) y.both h.two) in
    let cut : ps ≡ x.front ++ (y.front ++ y.back) = x.both ∙ ap (λ (l : List SegmentPlace). x.front ++ l) y.both in
    subst (λ l. ReadsOpened n q l old new) (sym cut) (reads_more n q x.front y.front y.back old new (one y.front y.first i.own distinct i.one))
