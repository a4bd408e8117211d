-- The loop over segments.
use Rattle.std.proofs.Common.{◌≡◌, inl, inr, ⊎_elim, ℕ, suc, ◌+◌, ◌<◌, ◌≤◌, List, [], ◌∷◌, ◌++◌, length, take, drop, get_or, Option, Some, None, refl, sym, ◌∙◌, ap, ap₂, subst, arith, length-append, take-append-drop}
use Rattle.std.specs.List.{Contains}
use Rattle.std.proofs.lemmas.List.{append-nil, append_assoc, take_all}
use Rattle.std.proofs.lemmas.List.Elements.{All-append, All-weaker, Contains-get_or}
use Rattle.std.proofs.Math.Seq.{drop-cons, take-add}
use Rattle.std.proofs.Math.ListN.{drop_of_length-le}
use Rattle.archive_open.specs.declared.files.FileEntry.{FileEntry}
use Rattle.archive_open.specs.declared.segments.SegmentPlace.{SegmentPlace}
use Rattle.printed_lines.specs.Lines.{Placed, numbered}
use Rattle.search_meaning.specs.Scan.{Asked}
use Rattle.search_walk.specs.Held.{HaveMessages, Named, OfSegments}
use Rattle.search_meaning.specs.Opened.{AreOpened, IsBarrenFor}
use Rattle.search_walk.specs.Opened.{IsRead, ReadsOpened}
use Rattle.search_walk.specs.Walked.{Searched, Stopped}
use Rattle.search_walk.specs.StepsPast.{SegmentsPastTold}
use Rattle.printed_lines.proofs.LineLemmas.{picks_append}
use Rattle.search_walk.proofs.PickLemmas.{picks_once, picks_split}
use Rattle.search_walk.proofs.PagesReadLemmas.{two_added}

-- ---- the next segment

pub drop_one : (ps : List SegmentPlace) (k : ℕ) (p : SegmentPlace) → k < length ps → p ≡ get_or ps k p → drop k ps ≡ p ∷ drop (k + 1) ps
drop_one ps k p lt is =
    let next : suc k ≡ k + 1 = omega arith in
    drop-cons ps k p lt ∙ ap₂ (λ (x : SegmentPlace) (j : ℕ). x ∷ drop j ps) (sym is) next

take_one : (ps : List SegmentPlace) (k : ℕ) (p : SegmentPlace) → k < length ps → p ≡ get_or ps k p → take (k + 1) ps ≡ take k ps ++ p ∷ []
take_one ps k p lt is = take-add k 1 ps ∙ ap (λ (l : List SegmentPlace). take k ps ++ take 1 l) (drop_one ps k p lt is)

contained : (ps : List SegmentPlace) (k : ℕ) (p : SegmentPlace) → k < length ps → p ≡ get_or ps k p → Contains ps p
contained ps k p lt is = subst (Contains ps) (sym is) (Contains-get_or ps k p lt)

-- what the next segment has, and what the others have
pub record HasNextOne (bytes : List ℕ) (n : Named) (files : List FileEntry) (p : SegmentPlace) (others : List SegmentPlace) (left : List Placed) : Type 0 where
  pub own : List Placed
  pub rest : List Placed
  pub parts : left ≡ own ++ rest
  pub one : HaveMessages bytes n files (p ∷ []) own
  pub have : HaveMessages bytes n files others rest

next_one : (bytes : List ℕ) (n : Named) (files : List FileEntry) (ps : List SegmentPlace) (k : ℕ) (p : SegmentPlace) (left : List Placed) → k < length ps → p ≡ get_or ps k p → HaveMessages bytes n files (drop k ps) left
    → HasNextOne bytes n files p (drop (k + 1) ps) left
next_one bytes n files ps k p left lt is have =
    let h : HaveMessages bytes n files (p ∷ drop (k + 1) ps) left = subst (λ l. HaveMessages bytes n files l left) (drop_one ps k p lt is) have in
    record {
      own = numbered h.0.name (p.head.first + 1) h.1;
      rest = h.2;
      parts = h.6;
      one = (h.0, h.1, [], h.3, h.4, refl, sym (append-nil (numbered h.0.name (p.head.first + 1) h.1)));
      have = h.5;
    }

-- ---- what is read

only : (p x : SegmentPlace) (ps : List SegmentPlace) → Contains ps p → Contains (p ∷ []) x → Contains ps x
only p x ps here is =
    let zero : is.0 ≡ 0 = omega (arith, is.1) in
    let same : p ≡ x = subst (λ j. get_or (p ∷ []) j x ≡ x) zero is.2 in
    subst (Contains ps) same here

reads_one : (n : Named) (q : Asked) (ps : List SegmentPlace) (p : SegmentPlace) (old new : Option (List (ℕ × ℕ))) → Contains ps p → ReadsOpened n q (p ∷ []) old new → ReadsOpened n q ps old new
reads_one n q ps p old new here reads = record {
  more = reads.more;
  added = reads.added;
  each = All-weaker (IsRead n q (p ∷ [])) (IsRead n q ps)
      (λ r is. ⊎_elim (λ c. inl (record { p = c.p; is = only p c.p ps here c.is; opened = c.opened; start = c.start; end = c.end }))
      (λ other. inr (⊎_elim (λ h. inl (record { p = h.p; is = only p h.p ps here h.is; start = h.start; end = h.end })) (λ words. inr words) other)) is) reads.more reads.each;
}

pub reads_joined : (n : Named) (q : Asked) (ps : List SegmentPlace) (old mid new : Option (List (ℕ × ℕ))) → ReadsOpened n q ps old mid → ReadsOpened n q ps mid new → ReadsOpened n q ps old new
reads_joined n q ps old mid new one two = record {
  more = one.more ++ two.more;
  added = two_added old mid new one.more two.more one.added two.added;
  each = All-append (IsRead n q ps) one.more two.more one.each two.each;
}

-- ---- the loop

pub past_none : (F : List Placed → Type 0) (seen : Option (List ℕ)) (n : Named) (files : List FileEntry) (q : Asked) (ps : List SegmentPlace) (t : ℕ) → F [] → SegmentsPastTold F seen n files q ps 0 t t 0
past_none F None n files q ps t none = tt
past_none F (Some bytes) n files q ps t none = λ all distinct have. record {
  gone = [];
  left = all;
  parts = refl;
  have = have;
  searched = record { reaches = none; opened = []; are_opened = refl; ticked = omega arith; counted = refl };
}

pub past_next : (F G H : List Placed → Type 0) (seen later : Option (List ℕ)) (n : Named) (files : List FileEntry) (q : Asked) (ps : List SegmentPlace) (k : ℕ) (p : SegmentPlace) (t u v count more all : ℕ)
    → ((xs ys : List Placed) → F xs → G ys → H (xs ++ ys)) → later ≡ seen → k < length ps → p ≡ get_or ps k p → all ≡ count + more → SegmentsPastTold F seen n files q ps k t u count
    → OfSegments later n files (p ∷ []) (λ _ own. Searched G n q (p ∷ []) own u v more) → SegmentsPastTold H seen n files q ps (k + 1) t v all
past_next F G H None later n files q ps k p t u v count more all on same lt is total past one = tt
past_next F G H (Some bytes) later n files q ps k p t u v count more all on same lt is total past one = λ every distinct have.
    let before = past every distinct have in
    let next = next_one bytes n files ps k p before.left lt is before.have in
    let step = subst (λ s. OfSegments s n files (p ∷ []) (λ _ own. Searched G n q (p ∷ []) own u v more)) same one next.own distinct next.one in
    record {
      gone = before.gone ++ next.own;
      left = next.rest;
      parts = before.parts ∙ ap (λ (l : List Placed). before.gone ++ l) next.parts ∙ sym (append_assoc before.gone next.own next.rest);
      have = next.have;
      searched = record {
        reaches = on before.gone next.own before.searched.reaches step.reaches;
        opened = before.searched.opened ++ step.opened;
        are_opened = subst (λ l. AreOpened n.types n.words q l (before.searched.opened ++ step.opened)) (sym (take_one ps k p lt is))
            (picks_append (λ x. ¬ IsBarrenFor n.types n.words q x) (take k ps) (p ∷ []) before.searched.opened step.opened before.searched.are_opened step.are_opened);
        ticked = omega (arith, before.searched.ticked, step.ticked, length-append before.searched.opened step.opened);
        counted = omega (arith, total, before.searched.counted, step.counted, length-append before.searched.opened step.opened);
      };
    }

pub reads_next : (F : List Placed → Type 0) (seen later : Option (List ℕ)) (n : Named) (files : List FileEntry) (q : Asked) (ps : List SegmentPlace) (k : ℕ) (p : SegmentPlace) (t u count : ℕ) (old mid new : Option (List (ℕ × ℕ))) → later ≡ seen
    → k < length ps → p ≡ get_or ps k p → SegmentsPastTold F seen n files q ps k t u count → OfSegments seen n files ps (λ _ _. ReadsOpened n q ps old mid) → OfSegments later n files (p ∷ []) (λ _ _. ReadsOpened n q (p ∷ []) mid new)
    → OfSegments seen n files ps (λ _ _. ReadsOpened n q ps old new)
reads_next F None later n files q ps k p t u count old mid new same lt is past reads one = tt
reads_next F (Some bytes) later n files q ps k p t u count old mid new same lt is past reads one = λ every distinct have.
    let before = past every distinct have in
    let next = next_one bytes n files ps k p before.left lt is before.have in
    let step = subst (λ s. OfSegments s n files (p ∷ []) (λ _ _. ReadsOpened n q (p ∷ []) mid new)) same one next.own distinct next.one in
    reads_joined n q ps old mid new (reads every distinct have) (reads_one n q ps p mid new (contained ps k p lt is) step)

pub past_end : (F : List Placed → Type 0) (seen : Option (List ℕ)) (n : Named) (files : List FileEntry) (q : Asked) (ps : List SegmentPlace) (k t u count : ℕ) → length ps ≤ k → SegmentsPastTold F seen n files q ps k t u count
    → OfSegments seen n files ps (λ _ all. Searched F n q ps all t u count)
past_end F None n files q ps k t u count end past = tt
past_end F (Some bytes) n files q ps k t u count end past = λ every distinct have.
    let before = past every distinct have in
    let none : before.left ≡ [] = subst (λ l. HaveMessages bytes n files l before.left) (drop_of_length-le ps end) before.have in
    let all : every ≡ before.gone = before.parts ∙ ap (λ (l : List Placed). before.gone ++ l) none ∙ append-nil before.gone in
    subst (λ l. Searched F n q ps l t u count) (sym all) (subst (λ l. Searched F n q l before.gone t u count) (take_all k ps end) before.searched)

pub past_stops : (F G H : List Placed → Type 0) (seen later : Option (List ℕ)) (n : Named) (files : List FileEntry) (q : Asked) (ps : List SegmentPlace) (k : ℕ) (p : SegmentPlace) (t u v count : ℕ)
    → ((xs ys : List Placed) → F xs → G ys → H (xs ++ ys)) → ((xs ys : List Placed) → G xs → G (xs ++ ys)) → later ≡ seen → k < length ps → p ≡ get_or ps k p → SegmentsPastTold F seen n files q ps k t u count
    → OfSegments later n files (p ∷ []) (λ _ own. Stopped G n q (p ∷ []) own u v) → OfSegments seen n files ps (λ _ all. Stopped H n q ps all t v)
past_stops F G H None later n files q ps k p t u v count behind within same lt is past one = tt
past_stops F G H (Some bytes) later n files q ps k p t u v count behind within same lt is past one = λ every distinct have.
    let before = past every distinct have in
    let next = next_one bytes n files ps k p before.left lt is before.have in
    let step = subst (λ s. OfSegments s n files (p ∷ []) (λ _ own. Stopped G n q (p ∷ []) own u v)) same one next.own distinct next.one in
    let cut : ps ≡ take k ps ++ (p ∷ drop (k + 1) ps) = sym (take-append-drop k ps) ∙ ap (λ (l : List SegmentPlace). take k ps ++ l) (drop_one ps k p lt is) in
    let all : every ≡ before.gone ++ (next.own ++ next.rest) = before.parts ∙ ap (λ (l : List Placed). before.gone ++ l) next.parts in
    record {
      halts = subst H (sym all) (behind before.gone (next.own ++ next.rest) before.searched.reaches (within next.own next.rest step.halts));
      most = λ opened are.
          let s = picks_split (λ x. ¬ IsBarrenFor n.types n.words q x) (take k ps) (p ∷ drop (k + 1) ps) opened (subst (λ l. AreOpened n.types n.words q l opened) cut are) in
          let r = picks_split (λ x. ¬ IsBarrenFor n.types n.words q x) (p ∷ []) (drop (k + 1) ps) s.b s.second in
          let one : s.a ≡ before.searched.opened = picks_once (λ x. ¬ IsBarrenFor n.types n.words q x) (take k ps) s.a before.searched.opened s.first before.searched.are_opened in
          omega (
            arith,
            step.most r.a r.first,
            before.searched.ticked,
            ap (λ (l : List SegmentPlace). length l) one,
            ap (λ (l : List SegmentPlace). length l) s.both,
            ap (λ (l : List SegmentPlace). length l) r.both,
            length-append s.a s.b,
            length-append r.a r.b,
          );
    }

pub past_damaged : (F : List Placed → Type 0) (Stands : Type 0) (seen later : Option (List ℕ)) (n : Named) (files : List FileEntry) (q : Asked) (ps : List SegmentPlace) (k : ℕ) (p : SegmentPlace) (t u count : ℕ)
    → ((xs : List Placed) → F xs → Stands) → later ≡ seen → k < length ps → p ≡ get_or ps k p → SegmentsPastTold F seen n files q ps k t u count → (Stands → OfSegments later n files (p ∷ []) (λ _ _. ⊥))
    → OfSegments seen n files ps (λ _ _. ⊥)
past_damaged F Stands None later n files q ps k p t u count on same lt is past one = tt
past_damaged F Stands (Some bytes) later n files q ps k p t u count on same lt is past one = λ every distinct have.
    let before = past every distinct have in
    let next = next_one bytes n files ps k p before.left lt is before.have in
    subst (λ s. OfSegments s n files (p ∷ []) (λ _ _. ⊥)) same (one (on before.gone before.searched.reaches)) next.own distinct next.one
