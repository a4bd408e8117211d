-- Several appends, one after the other.
use Rattle.std.proofs.Common.{◌≡◌, inl, inr, ⊎_elim, ℕ, zero, suc, ◌+◌, ◌<◌, ◌≤◌, List, [], ◌∷◌, ◌++◌, length, take, drop, get_or, Option, Some, None, refl, sym, ◌∙◌, ap, subst, arith, length-append, length-take}
use Rattle.std.specs.Prelude.{option_map, is_some}
use Rattle.std.proofs.lemmas.List.{append_assoc, append-nil, take_all, take_more, drop_more}
use Rattle.log_seams.specs.Disk.{IsLawful}
use Rattle.log_seams.proofs.MomentLemmas.{started, joined}
use Rattle.record_format.specs.Header.{header_bytes}
use Rattle.record_format.specs.declared.header.Header.{Header}
use Rattle.disk_journal.specs.Record.{Saved, Stands, saved_of, records}
use Rattle.disk_journal.specs.Place.{AtEnd, BeforeOrAfter, Added, WithFirstTold, UnderWay}
use Rattle.disk_journal.specs.Series.{saved_all, size_all}
use Rattle.disk_journal.specs.State.{JournalState, IsAtEnd}
use Rattle.disk_journal.specs.Calls.{GoesOn, StaysAt, HasAdded, HasStopped, LeavesBeforeOrAfter, LeavesFirst}
use Rattle.disk_journal.proofs.AppendLemmas.{same_behind}

-- the texts up to one, and that one
pub size_split : (texts : List (List ℕ)) (i : ℕ) → size_all texts ≡ size_all (take i texts) + size_all (drop i texts)
size_split texts zero = omega arith
size_split [] (suc i) = refl
size_split (text ∷ texts) (suc i) = omega (arith, size_split texts i)

pub size_push : (texts : List (List ℕ)) (text : List ℕ) → size_all (texts ++ text ∷ []) ≡ size_all texts + length text
size_push [] text = omega arith
size_push (t ∷ texts) text = omega (arith, size_push texts text)

pub size_more : (texts : List (List ℕ)) (i : ℕ) (d : List ℕ) → i < length texts → size_all (take (i + 1) texts) ≡ size_all (take i texts) + length (get_or texts i d)
size_more texts i d below = ap size_all (take_more texts i d below) ∙ size_push (take i texts) (get_or texts i d)

pub size_within : (texts : List (List ℕ)) (i : ℕ) (d : List ℕ) → i < length texts → size_all (take i texts) + length (get_or texts i d) ≤ size_all texts
size_within texts i d below = omega (arith, size_split texts i, ap size_all (drop_more texts i d below))

pub saved_more : (texts : List (List ℕ)) (i : ℕ) (d : List ℕ) → i < length texts → take (i + 1) (saved_all texts) ≡ take i (saved_all texts) ++ saved_of (get_or texts i d) ∷ []
saved_more (text ∷ texts) zero d below = refl
saved_more (text ∷ texts) (suc i) d below =
    let step : suc i + 1 ≡ suc (i + 1) = omega arith in
    ap (λ (k : ℕ). take k (saved_all (text ∷ texts))) step ∙ ap (λ (l : List Saved). saved_of text ∷ l) (saved_more texts i d (omega arith))
saved_more [] i d below = absurd (omega arith)

pub length-saved : (texts : List (List ℕ)) → length (saved_all texts) ≡ length texts
length-saved [] = refl
length-saved (text ∷ texts) = omega (arith, length-saved texts)

-- records that were added, and more behind them
more_records : (told mid last : Option (List ℕ)) (count more most : ℕ) (rs ss : List Saved) → is_some mid ≡ is_some told → Added told count rs mid more → Added mid more ss last most → Added told count (rs ++ ss) last most
more_records None mid last count more most rs ss tells first second = tt
more_records (Some bytes) None last count more most rs ss tells first second = absurd cc
more_records (Some bytes) (Some now) last count more most rs ss tells first second =
    second ∙ ap (λ (l : List Saved). l ++ ss) first ∙ append_assoc (records count (drop 32 bytes)) rs ss

pub added_twice : (rs ss : List Saved) (m n : ℕ) (old mid new : JournalState) → is_some mid.disk.seen ≡ is_some old.disk.seen → HasAdded rs m old mid → HasAdded ss n mid new → HasAdded (rs ++ ss) (m + n) old new
added_twice rs ss m n old mid new tells first second =
    let is : old.place + 1 + (m + n) ≡ mid.place + 1 + n = omega (arith, first.place) in
    record {
      ends = second.ends;
      added = more_records old.disk.seen mid.disk.seen new.disk.seen old.count mid.count new.count rs ss tells first.added second.added;
      count = omega (arith, first.count, second.count, length-append rs ss);
      place = omega (arith, first.place, second.place);
      behind =
          ap (λ (i : ℕ). option_map (drop i) new.disk.seen) is
          ∙ second.behind
          ∙ ap (λ (i : ℕ). option_map (drop i) mid.disk.seen) (sym is)
          ∙ same_behind (old.place + 1 + m) (old.place + 1 + (m + n)) mid.disk.seen old.disk.seen (omega arith) first.behind;
    }

-- before the first there are none
none_added : (told : Option (List ℕ)) (count : ℕ) → Added told count [] told count
none_added None count = tt
none_added (Some bytes) count = sym (append-nil (records count (drop 32 bytes)))

pub added_none : (j : JournalState) → IsAtEnd j → HasAdded [] 0 j j
added_none j end = record {
  ends = end;
  added = none_added j.disk.seen j.count;
  count = omega arith;
  place = omega arith;
  behind = refl;
}

image_none : (head : List ℕ) (place count : ℕ) (told : Option (List ℕ)) (images : List ℕ → Type 0) (new : List Saved) (c : List ℕ) → AtEnd head place count told images → images c → WithFirstTold head told count new c
image_none head place count None images new c end left = tt
image_none head place count (Some bytes) images new c end left =
    let rs = records count (drop 32 bytes) in
    (0, omega arith, subst (λ (l : List Saved). Stands head l c) (sym (append-nil rs)) (subst (λ (l : List ℕ). Stands head rs l) (sym (end.only c left)) end.stands))

pub leaves_none : (rs : List Saved) (j : JournalState) → IsLawful j.disk → IsAtEnd j → LeavesFirst rs j j
leaves_none rs j law end =
    started j.disk (WithFirstTold (header_bytes j.header) j.disk.seen j.count rs) law
    (λ c left. image_none (header_bytes j.header) j.place j.count j.disk.seen j.disk.images rs c end.ends left)

-- after the last there are all
pub added_all : (texts : List (List ℕ)) (k : ℕ) (old new : JournalState) → length texts ≤ k → HasAdded (take k (saved_all texts)) (size_all (take k texts)) old new → HasAdded (saved_all texts) (size_all texts) old new
added_all texts k old new past added =
    let all = take_all k (saved_all texts) (omega (arith, length-saved texts)) in
    subst (λ (rs : List Saved). HasAdded rs (size_all texts) old new) all
    (subst (λ (l : List (List ℕ)). HasAdded (take k (saved_all texts)) (size_all l) old new) (take_all k texts past) added)

-- a crash during the append of the next record leaves those that are there, or these and it
way_on : (head : List ℕ) (told mid : Option (List ℕ)) (count more k : ℕ) (new : List Saved) (r : Saved) (c : List ℕ) → is_some mid ≡ is_some told → Added told count (take k new) mid more → take (k + 1) new ≡ take k new ++ r ∷ []
    → BeforeOrAfter head mid more r c → UnderWay head told count new k c
way_on head None mid count more k new r c tells added next left = tt
way_on head (Some bytes) None count more k new r c tells added next left = absurd cc
way_on head (Some bytes) (Some now) count more k new r c tells added next left =
    let rs = records count (drop 32 bytes) in
    let both : records more (drop 32 now) ++ r ∷ [] ≡ rs ++ take (k + 1) new =
    ap (λ (l : List Saved). l ++ r ∷ []) added ∙ append_assoc rs (take k new) (r ∷ []) ∙ ap (λ (l : List Saved). rs ++ l) (sym next) in
    ⊎_elim (λ stands. inl (subst (λ (l : List Saved). Stands head l c) added stands)) (λ stands. inr (subst (λ (l : List Saved). Stands head l c) both stands)) left

way_first : (head : List ℕ) (told : Option (List ℕ)) (count k : ℕ) (new : List Saved) (c : List ℕ) → k < length new → UnderWay head told count new k c → WithFirstTold head told count new c
way_first head None count k new c below way = tt
way_first head (Some bytes) count k new c below (inl stands) = (k, omega arith, stands)
way_first head (Some bytes) count k new c below (inr stands) = (k + 1, omega arith, stands)

-- where the first k texts were appended, and one more was begun
module _ (texts : List (List ℕ)) (k : ℕ) (d text : List ℕ) (below : k < length texts) (is : text ≡ get_or texts k d) (old mid : JournalState) (goes_on : GoesOn old mid) (added : HasAdded (take k (saved_all texts)) (size_all (take k texts)) old mid) where
  next : take (k + 1) (saved_all texts) ≡ take k (saved_all texts) ++ saved_of text ∷ []
  next = saved_more texts k d below ∙ ap (λ (t : List ℕ). take k (saved_all texts) ++ saved_of t ∷ []) (sym is)

  size : size_all (take (k + 1) texts) ≡ size_all (take k texts) + length text
  size = size_more texts k d below ∙ ap (λ (t : List ℕ). size_all (take k texts) + length t) (sym is)

  way : (c : List ℕ) → BeforeOrAfter (header_bytes mid.header) mid.disk.seen mid.count (saved_of text) c → UnderWay (header_bytes old.header) old.disk.seen old.count (saved_all texts) k c
  way c left =
      way_on (header_bytes old.header) old.disk.seen mid.disk.seen old.count mid.count k (saved_all texts) (saved_of text) c goes_on.tells added.added next
      (subst (λ (h : Header). BeforeOrAfter (header_bytes h) mid.disk.seen mid.count (saved_of text) c) goes_on.header left)

  pub one_more : (new : JournalState) → HasAdded (saved_of text ∷ []) (length text) mid new → HasAdded (take (k + 1) (saved_all texts)) (size_all (take (k + 1) texts)) old new
  one_more new one =
      let both = added_twice (take k (saved_all texts)) (saved_of text ∷ []) (size_all (take k texts)) (length text) old mid new goes_on.tells added one in
      subst (λ (rs : List Saved). HasAdded rs (size_all (take (k + 1) texts)) old new) (sym next)
      (subst (λ (n : ℕ). HasAdded (take k (saved_all texts) ++ saved_of text ∷ []) n old new) (sym size) both)

  pub one_leaves : (new : JournalState) → IsLawful new.disk → LeavesFirst (saved_all texts) old mid → LeavesBeforeOrAfter (saved_of text) mid new → LeavesFirst (saved_all texts) old new
  one_leaves new law first second =
      let all = WithFirstTold (header_bytes old.header) old.disk.seen old.count (saved_all texts) in
      joined old.disk mid.disk new.disk all (BeforeOrAfter (header_bytes mid.header) mid.disk.seen mid.count (saved_of text)) all law first second
      (λ c left. left)
      (λ c left. way_first (header_bytes old.header) old.disk.seen old.count k (saved_all texts) c (omega (arith, length-saved texts)) (way c left))

  pub one_stopped : (new : JournalState) → IsLawful new.disk → StaysAt mid new → LeavesBeforeOrAfter (saved_of text) mid new → HasStopped texts old new
  one_stopped new law stays leaves = record {
    k = k;
    below = below;
    count = omega (arith, stays.count, added.count, length-take k (saved_all texts), length-saved texts);
    place = omega (arith, stays.place, added.place);
    leaves = λ c left. way c (leaves.each c (law.counts_now mid.disk.clock c leaves.later left));
  }
