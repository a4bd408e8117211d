-- Segments that are searched piece by piece: what was done with each is said of all.
use Rattle.std.proofs.Common.{◌≡◌, ℕ, ◌+◌, ◌*◌, ◌≤◌, List, [], ◌∷◌, ◌++◌, length, map, Option, Some, None, refl, sym, ◌∙◌, ap, ap₂, subst, arith, length-append}
use Rattle.std.proofs.lemmas.List.{append_assoc}
use Rattle.archive_meaning.specs.declared.TheConstants.{MAX_MESSAGES}
use Rattle.archive_open.specs.declared.files.FileEntry.{FileEntry}
use Rattle.archive_open.specs.declared.segments.SegmentPlace.{SegmentPlace}
use Rattle.archive_places.specs.declared.front.SegmentFront.{SegmentFront}
use Rattle.archive_places.specs.Fronts.{front_of_place}
use Rattle.printed_lines.specs.Lines.{Placed, numbered}
use Rattle.printed_lines.proofs.LineLemmas.{picks_append}
use Rattle.search_meaning.specs.Scan.{Asked}
use Rattle.search_walk.specs.Held.{HaveMessages, Named, OfSegments}
use Rattle.search_meaning.specs.Opened.{AreOpened, IsBarrenFor}
use Rattle.search_walk.specs.Opened.{NoFronts, OfFronts}
use Rattle.search_walk.specs.Walked.{SearchedFronts, StoppedFronts}
use Rattle.search_walk.proofs.PickLemmas.{picks_once, picks_split}
use Rattle.search_engine.proofs.SlotLemmas.{as_many, length_numbered}

-- ---- a list of segments in two parts

pub record Parted (ps : List SegmentPlace) (a b : List SegmentFront) : Type 0 where
  pub front : List SegmentPlace
  pub back : List SegmentPlace
  pub both : ps ≡ front ++ back
  pub first : map front_of_place front ≡ a
  pub second : map front_of_place back ≡ b

pub parted : (ps : List SegmentPlace) (a b : List SegmentFront) → map front_of_place ps ≡ a ++ b → Parted ps a b
parted ps [] b is = record { front = []; back = ps; both = refl; first = refl; second = is }
parted [] (x ∷ a) b is = absurd (cc (is))
parted (p ∷ ps) (x ∷ a) b is =
    let one : front_of_place p ≡ x = cc (is) in
    let rest : map front_of_place ps ≡ a ++ b = cc (is) in
    let r = parted ps a b rest in
    record {
      front = p ∷ r.front;
      back = r.back;
      both = ap (λ (l : List SegmentPlace). p ∷ l) r.both;
      first = ap₂ (λ (f : SegmentFront) (l : List SegmentFront). f ∷ l) one r.first;
      second = r.second;
    }

pub record HaveBoth (bytes : List ℕ) (n : Named) (files : List FileEntry) (ps qs : List SegmentPlace) (all : List Placed) : Type 0 where
  pub own : List Placed
  pub rest : List Placed
  pub parts : all ≡ own ++ rest
  pub one : HaveMessages bytes n files ps own
  pub two : HaveMessages bytes n files qs rest

pub have_both : (bytes : List ℕ) (n : Named) (files : List FileEntry) (ps qs : List SegmentPlace) (all : List Placed) → HaveMessages bytes n files (ps ++ qs) all → HaveBoth bytes n files ps qs all
have_both bytes n files [] qs all have = record { own = []; rest = all; parts = refl; one = refl; two = have }
have_both bytes n files (p ∷ ps) qs all have =
    let r = have_both bytes n files ps qs have.2 have.5 in
    let mine = numbered have.0.name (p.head.first + 1) have.1 in
    record {
      own = mine ++ r.own;
      rest = r.rest;
      parts = have.6 ∙ ap (λ (l : List Placed). mine ++ l) r.parts ∙ sym (append_assoc mine r.own r.rest);
      one = (have.0, have.1, r.own, have.3, have.4, r.one, refl);
      two = r.two;
    }

-- segments have few messages
pub have_few : (bytes : List ℕ) (n : Named) (files : List FileEntry) (ps : List SegmentPlace) (all : List Placed) → HaveMessages bytes n files ps all → length all ≤ 4294967296 * length ps
have_few bytes n files [] all have = let none : length all ≡ 0 = ap (λ (l : List Placed). length l) have in omega (arith, none)
have_few bytes n files (p ∷ ps) all have =
    let rest = have_few bytes n files ps have.2 have.5 in
    let most : MAX_MESSAGES ≡ 4294967294 = refl in
    omega (
      arith,
      rest,
      most,
      have.4.most,
      ap (λ (l : List Placed). length l) have.6,
      length-append (numbered have.0.name (p.head.first + 1) have.1) have.2,
      length_numbered have.0.name (p.head.first + 1) have.1,
      as_many n have.4.rows have.1 have.4.are,
    )

-- ---- what was said of segments

pub fronts_all : (seen : Option (List ℕ)) (n : Named) (files : List FileEntry) (fronts : List SegmentFront) (P Q : List SegmentPlace → List ℕ → List Placed → Type 0)
    → ((ps : List SegmentPlace) (bytes : List ℕ) (all : List Placed) → map front_of_place ps ≡ fronts → HaveMessages bytes n files ps all → P ps bytes all → Q ps bytes all)
    → OfFronts fronts (λ ps. OfSegments seen n files ps (P ps)) → OfFronts fronts (λ ps. OfSegments seen n files ps (Q ps))
fronts_all None n files fronts P Q step has ps is = tt
fronts_all (Some bytes) n files fronts P Q step has ps is = λ all distinct have. step ps bytes all is have (has ps is all distinct have)

module _ (F G H : List Placed → Type 0) (n : Named) (files : List FileEntry) (q : Asked) (a b : List SegmentFront) where
  -- one piece and then another
  pub fronts_on : (seen : Option (List ℕ)) (t u v count more : ℕ) → ((xs ys : List Placed) → F xs → G ys → H (xs ++ ys)) → SearchedFronts F seen n files q a t u count → SearchedFronts G seen n files q b u v more
      → SearchedFronts H seen n files q (a ++ b) t v (count + more)
  fronts_on None t u v count more on one two ps is = tt
  fronts_on (Some bytes) t u v count more on one two ps is = λ all distinct have.
      let c = parted ps a b is in
      let h = have_both bytes n files c.front c.back all (subst (λ l. HaveMessages bytes n files l all) c.both have) in
      let x = one c.front c.first h.own distinct h.one in
      let y = two c.back c.second h.rest distinct h.two in
      record {
        reaches = subst H (sym h.parts) (on h.own h.rest x.reaches y.reaches);
        opened = x.opened ++ y.opened;
        are_opened = subst (λ l. AreOpened n.types n.words q l (x.opened ++ y.opened)) (sym c.both)
            (picks_append (λ p. ¬ IsBarrenFor n.types n.words q p) c.front c.back x.opened y.opened x.are_opened y.are_opened);
        ticked = omega (arith, x.ticked, y.ticked, length-append x.opened y.opened);
        counted = omega (arith, x.counted, y.counted, length-append x.opened y.opened);
      }

  -- the search stopped behind a piece
  pub fronts_stop : (seen : Option (List ℕ)) (t u v count : ℕ) → ((xs ys : List Placed) → F xs → G ys → H (xs ++ ys)) → SearchedFronts F seen n files q a t u count → StoppedFronts G seen n files q b u v
      → StoppedFronts H seen n files q (a ++ b) t v
  fronts_stop None t u v count on one two ps is = tt
  fronts_stop (Some bytes) t u v count on one two ps is = λ all distinct have.
      let c = parted ps a b is in
      let h = have_both bytes n files c.front c.back all (subst (λ l. HaveMessages bytes n files l all) c.both have) in
      let x = one c.front c.first h.own distinct h.one in
      let y = two c.back c.second h.rest distinct h.two in
      record {
        halts = subst H (sym h.parts) (on h.own h.rest x.reaches y.halts);
        most = λ opened are.
            let s = picks_split (λ p. ¬ IsBarrenFor n.types n.words q p) c.front c.back opened (subst (λ l. AreOpened n.types n.words q l opened) c.both are) in
            let same : s.a ≡ x.opened = picks_once (λ p. ¬ IsBarrenFor n.types n.words q p) c.front s.a x.opened s.first x.are_opened in
            omega (
              arith,
              y.most s.b s.second,
              x.ticked,
              ap (λ (l : List SegmentPlace). length l) same,
              ap (λ (l : List SegmentPlace). length l) s.both,
              length-append s.a s.b,
            );
      }

module _ (n : Named) (files : List FileEntry) (q : Asked) (a b : List SegmentFront) where
  -- who stopped among the first segments stopped among all
  pub fronts_stop_more : (F : List Placed → Type 0) (seen : Option (List ℕ)) (t u : ℕ) → ((xs ys : List Placed) → F xs → F (xs ++ ys)) → StoppedFronts F seen n files q a t u → StoppedFronts F seen n files q (a ++ b) t u
  fronts_stop_more F None t u within one ps is = tt
  fronts_stop_more F (Some bytes) t u within one ps is = λ all distinct have.
      let c = parted ps a b is in
      let h = have_both bytes n files c.front c.back all (subst (λ l. HaveMessages bytes n files l all) c.both have) in
      let x = one c.front c.first h.own distinct h.one in
      record {
        halts = subst F (sym h.parts) (within h.own h.rest x.halts);
        most = λ opened are.
            let s = picks_split (λ p. ¬ IsBarrenFor n.types n.words q p) c.front c.back opened (subst (λ l. AreOpened n.types n.words q l opened) c.both are) in
            omega (arith, x.most s.a s.first, ap (λ (l : List SegmentPlace). length l) s.both, length-append s.a s.b);
      }

  pub none_first : (seen : Option (List ℕ)) → NoFronts seen n files a → NoFronts seen n files (a ++ b)
  none_first None none ps is = tt
  none_first (Some bytes) none ps is = λ all distinct have.
      let c = parted ps a b is in
      let h = have_both bytes n files c.front c.back all (subst (λ l. HaveMessages bytes n files l all) c.both have) in
      none c.front c.first h.own distinct h.one

  pub none_second : (seen : Option (List ℕ)) → NoFronts seen n files b → NoFronts seen n files (a ++ b)
  none_second None none ps is = tt
  none_second (Some bytes) none ps is = λ all distinct have.
      let c = parted ps a b is in
      let h = have_both bytes n files c.front c.back all (subst (λ l. HaveMessages bytes n files l all) c.both have) in
      none c.back c.second h.rest distinct h.two

-- no segment
pub fronts_none : (F : List Placed → Type 0) (seen : Option (List ℕ)) (n : Named) (files : List FileEntry) (q : Asked) (t : ℕ) → F [] → SearchedFronts F seen n files q [] t t 0
fronts_none F None n files q t none ps is = tt
fronts_none F (Some bytes) n files q t none [] is = λ all distinct have.
    record { reaches = subst F (sym have) none; opened = []; are_opened = refl; ticked = omega arith; counted = refl }
fronts_none F (Some bytes) n files q t none (p ∷ ps) is = absurd (cc (is))
