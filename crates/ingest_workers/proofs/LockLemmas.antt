-- What holds of the store once all jobs were done and its lock was closed.
use Rattle.std.proofs.Common.{◌≡◌, ◌≢◌, inl, inr, ⊎_elim, ℕ, ◌+◌, ◌==◌, Bool, true, false, if◌then◌else◌, List, ◌++◌, length, drop, sym, refl, ap, ◌∙◌, subst, arith, Option, None, Some, slice_get, Result, Ok, Err, IfOk, IfErr, All}
use Rattle.std.proofs.lemmas.Bool.Decides.{nat_tests}
use Rattle.std.specs.List.{filter_map}
use Rattle.std.proofs.lemmas.Option.{slice_get_within, get_or_from_slice_get}
use mathlib.Core.List.{IsPrefix}
use Rattle.log_seams.specs.Disk.{DiskState}
use Rattle.turn_lock.specs.declared.board.About.{About}
use Rattle.turn_lock.specs.declared.grows.Grows.{Ghosts}
use Rattle.turn_lock.specs.History.{StandsIn}
use Rattle.turn_lock.specs.Words.{made_by, seen_by, own_by, about_by, seen, own_list, number_of, IsStill, HasFixed, IsOpening}
use Rattle.ingest_fork.specs.Passes.{Fresh, AreJoinable, AreStill, IsOneOf}
use Rattle.ingest_fork.specs.Picked.{entries_in, AddedByOne, AddsAlone, IsPast}
use Rattle.ingest_fork.specs.Works.{AllDone}
use Rattle.ingest_fork.proofs.PickLemmas.{picked_own}
use Rattle.ingest_fork.proofs.PlaceLemmas.{there_is}
use Rattle.archive_meaning.specs.declared.entry.JournalEntry.TheVariants.{Files, Types, Words, Segment}
use Rattle.disk_seal.specs.declared.entry.StoreEntry.{StoreEntry}
use Rattle.disk_seal.specs.declared.entry.StoreEntry.TheVariants.{Entry, Blank, Stopped}
use Rattle.disk_seal.specs.declared.fixed.StoreFixed.{StoreFixed}
use Rattle.disk_seal.specs.View.{StoreView, state_by, store_entries}
use Rattle.disk_seal.specs.Fixed.{fixed_of, KeeperPass}
use Rattle.disk_seal.specs.May.{MayAdd}
use Rattle.disk_seal.specs.Told.{IsMark}
use Rattle.ingest_workers.specs.declared.job.Job.{Job}
use Rattle.ingest_workers.specs.declared.worker.Worker.{Worker}
use Rattle.ingest_workers.specs.Journal.{HasAdded}
use Rattle.ingest_workers.specs.Worker.{DidJob, DidOnly}
use Rattle.ingest_workers.specs.Locked.{KeeperMaker, file_segment, MayDoAll, MayDoAt, HasClosed, HasKept, list_of, IsStillStore, HasWorked}

module _ {X Y : Type 0} {P Q : X → Type 0} where
  pub ok_then : (r : Result X Y) → ((x : X) → P x → Q x) → IfOk r P → IfOk r Q
  ok_then (Ok x) f p = f x p
  ok_then (Err y) f p = tt

module _ {X Y : Type 0} {P Q : Y → Type 0} where
  pub err_then : (r : Result X Y) → ((y : Y) → P y → Q y) → IfErr r P → IfErr r Q
  err_then (Ok x) f p = tt
  err_then (Err y) f p = f y p

same_number : (a b : ℕ) → (a == b) ≡ true → a ≡ b
same_number a b is = grind (arith, nat_tests)

-- a segment of a file is added by the file's number alone
pub adds_alone : (n : ℕ) → AddsAlone (file_segment n) MayAdd n
adds_alone n k (Entry (Files names)) may some = absurd (some refl)
adds_alone n k (Entry (Types first texts)) may some = absurd (some refl)
adds_alone n k (Entry (Words first texts)) may some = absurd (some refl)
adds_alone n k (Entry (Segment s)) may some = by_file (s.file == n) refl some
  where
    by_file : (b : Bool) → (s.file == n) ≡ b → (if b then Some s else None) ≢ None → k ≡ n
    by_file true is some = sym may ∙ same_number s.file n is
    by_file false is some = absurd (some refl)
adds_alone n k Blank may some = absurd (some refl)
adds_alone n k (Stopped now) may some = absurd (some refl)

-- what a pass added while its job was done
pub record Did {D : Type 0} (p q : KeeperPass D) : Type 0 where
  pub more : List (ℕ × StoreEntry)
  pub added : HasAdded p q more

-- an entry in an own list of marks is a mark
a_mark : (list : List (ℕ × StoreEntry)) (j : ℕ) (e : StoreEntry) → All (λ (x : ℕ × StoreEntry). IsMark x.1) list → StandsIn list j e → IsMark e
a_mark list j e marks s = let at = get_or_from_slice_get list s.0 (j, e) (j, e) s.1 in let is = marks s.0 (j, e) (slice_get_within list s.0 (j, e) s.1) in
    subst (λ (x : ℕ × StoreEntry). IsMark x.1) at is

module _ {S D : Type 0} (state : D → DiskState) (left name : S → Option (List ℕ)) (faults : S → ℕ) (ws ws' : List Worker) (js js' : List (Job S)) (ks qs : List (KeeperPass D)) (even : length ks ≡ length js)
    (all : AllDone (DidOnly left) (DidJob state left name faults) ws ws' js js' ks qs) where
  -- the pass at a place after the jobs were done is the pass of before, which added some entries
  pub did_at : (i : ℕ) (q : KeeperPass D) → slice_get qs i ≡ Some q → (p : KeeperPass D) × (slice_get ks i ≡ Some p) × Did p q
  did_at i q at = let keepers = all.keepers in let lt = slice_get_within qs i q at in let k = there_is ks i (omega (arith, keepers, lt)) in let j = there_is js i (omega (arith, keepers, lt, even)) in
      let d = all.each i j.0 k.0 j.1 k.1 in let same : d.keeper ≡ q = cc (d.keeper_is, at) in
      (k.0, k.1, subst (λ (x : KeeperPass D). Did k.0 x) same (record { more = d.did_it.done.came.done.more; added = d.did_it.done.came.done.added }))

  pub are_still : AreStill ks qs
  are_still = record {
    counted = all.keepers;
    each = λ i p q one two. let r = did_at i q two in let same : r.0 ≡ p = cc (one, r.1) in subst (λ (x : KeeperPass D). IsStill x q) same r.2.added.still;
  }

module _ {S D : Type 0} {G : Ghosts (StoreView D) StoreEntry (StoreFixed D)} (state : D → DiskState) (left name : S → Option (List ℕ)) (faults : S → ℕ) where
  pub joinable : (m m' : KeeperMaker D G) (ws ws' : List Worker) (js js' : List (Job S)) (ks qs : List (KeeperPass D)) → Fresh m m' ks (length js) → AllDone (DidOnly left) (DidJob state left name faults) ws ws' js js' ks qs → AreJoinable m' qs
  joinable m m' ws ws' js js' ks qs fresh all i q at = let r = did_at state left name faults ws ws' js js' ks qs fresh.counted all i q at in let was = fresh.each i r.0 r.1 in
      (r.2.added.still.lock ∙ (was.lock ∙ sym fresh.still.lock), r.2.added.ready)

  pub has_worked : (m : KeeperMaker D G) (first : ℕ) (ws ws' : List Worker) (js js' : List (Job S)) (before after : StoreView D) → IsOpening m first (list_of state before) (fixed_of before)
      → HasClosed state left name faults m ws ws' js js' after → HasWorked state left name faults first ws ws' js js' before after
  has_worked m first ws ws' js js' before after o h = record {
    fixed = h.fixed opening about_end;
    front = subst (λ l. IsPrefix l (list_of state after)) o.seen_is (subst (λ l. IsPrefix (seen_by m) l) (sym h.entries) h.done.ended.seen_on);
    passes = h.done.passes;
    passes' = h.done.passes';
    counted = h.done.fresh.counted;
    opened = λ i p at. let f = h.done.fresh.each i p at in let made = o.made in record {
      number = f.number opening o.about_is ∙ (let e : first + (made_by m + i) ≡ first + i = omega arith in e);
      about_is = f.about_is ∙ o.about_is;
      seen_is = f.seen_is ∙ o.seen_is;
      own_is = f.own_is;
    };
    went = h.done.went;
    done = h.done.done;
    files = λ i q at. let mine = h.done.ended.each i q at in
        subst (λ l. filter_map (file_segment (number_of q)) (drop (length (list_of state before)) l) ≡ filter_map (file_segment (number_of q)) (entries_in (own_list q))) (sym h.entries)
        (subst (λ l. filter_map (file_segment (number_of q)) (drop (length (list_of state before)) (seen_by h.end)) ≡ filter_map (file_segment (number_of q)) (entries_in l)) mine.own_is
        (picked_own MayAdd h.end (file_segment (number_of q)) (number_of q) opening h.owned about_end (adds_alone (number_of q))
        (subst (λ l. IsPast (length (list_of state before)) l) (sym mine.own_is) (past i q at))));
    seen_on = λ i q at. subst (λ l. IsPrefix (seen q) l) (sym h.entries) (h.done.ended.each i q at).seen_on;
    added = λ j e le at. let one = h.owned opening j e about_end le (subst (λ l. slice_get l j ≡ Some e) h.entries at) in ⊎_elim
        (λ (of : IsOneOf h.done.passes' 0 one.0). inr (by_job j e one.0 of one.2 one.3))
        (λ (marks : All (λ (x : ℕ × StoreEntry). IsMark x.1) (own_by h.end one.0)). inl (a_mark (own_by h.end one.0) j e marks one.3)) (h.done.ended.only one.0 one.1);
  }
    where
      opening : About (StoreFixed D)
      opening = record { first = first; start = length (list_of state before); fixed = fixed_of before }

      about_end : about_by h.end ≡ Some opening
      about_end = h.done.ended.about_is ∙ o.about_is

      by_job : (j : ℕ) (e : StoreEntry) (n : ℕ) → IsOneOf h.done.passes' 0 n → MayAdd n e → StandsIn (own_by h.end n) j e → AddedByOne MayAdd h.done.passes' j e
      by_job j e n of may stands = record {
        place = of.0;
        pass = of.1;
        is = of.3;
        allowed = subst (λ (k : ℕ). MayAdd k e) (sym of.4) may;
        own = subst (λ (l : List (ℕ × StoreEntry)). StandsIn l j e) (ap (own_by h.end) (sym of.4) ∙ (h.done.ended.each of.0 of.1 of.3).own_is) stands;
      }

      past : (i : ℕ) (q : KeeperPass D) → slice_get h.done.passes' i ≡ Some q → IsPast (length (list_of state before)) (own_list q)
      past i q at = let r = did_at state left name faults ws ws' js js' h.done.passes h.done.passes' h.done.fresh.counted h.done.done i q at in let f = h.done.fresh.each i r.0 r.1 in
          let own : own_list q ≡ r.2.more = r.2.added.own ∙ ap (λ l. l ++ r.2.more) f.own_is in
          let seen_is : seen r.0 ≡ list_of state before = f.seen_is ∙ o.seen_is in
          subst (λ l. IsPast (length (list_of state before)) l) (sym own) (subst (λ l. IsPast (length l) r.2.more) seen_is r.2.added.behind)

  pub may_do_all : (m : KeeperMaker D G) (first : ℕ) (store : StoreView D) (ws : List Worker) (js : List (Job S)) → IsOpening m first (list_of state store) (fixed_of store)
      → MayDoAt state first store ws js → MayDoAll state m ws js
  may_do_all m first store ws js o may m' ks fresh = may ks fresh.counted (λ i p at. let f = fresh.each i p at in let made = o.made in (
    record {
      number = f.number _ o.about_is ∙ (let e : first + (made_by m + i) ≡ first + i = omega arith in e);
      about_is = f.about_is ∙ o.about_is;
      seen_is = f.seen_is ∙ o.seen_is;
      own_is = f.own_is;
    },
    f.ready,
  ))

module _ {D : Type 0} {G : Ghosts (StoreView D) StoreEntry (StoreFixed D)} (state : D → DiskState) where
  pub is_still : (m : KeeperMaker D G) (first : ℕ) (before after : StoreView D) → IsOpening m first (list_of state before) (fixed_of before) → HasKept state m after → IsStillStore state before after
  is_still m first before after o h = record { fixed = h.fixed _ o.about_is; entries = h.entries ∙ o.seen_is }

  pub has_kept : (m n : KeeperMaker D G) (after : StoreView D) → n ≡ m → store_entries (state_by state after) ≡ seen_by n → HasFixed fixed_of (about_by n) after → HasKept state m after
  has_kept m n after same entries fixed = record {
    entries = entries ∙ ap (λ (x : KeeperMaker D G). seen_by x) same;
    fixed = subst (λ (x : KeeperMaker D G). HasFixed fixed_of (about_by x) after) same fixed;
  }
