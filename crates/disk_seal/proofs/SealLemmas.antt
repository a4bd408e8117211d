-- What is put back after records were added, and what the pass then has.
use Rattle.std.proofs.Common.{◌≡◌, ◌≢◌, ⊎_elim, inl, inr, ℕ, zero, suc, ◌+◌, List, [], ◌∷◌, ◌++◌, map, take, sym, ap, ◌∙◌, subst, Some, None, arith, append-nil, All}
use Rattle.std.specs.Prelude.{Result, Ok, Err, OnOk, OnErr, IfOk, IfErr}
use Rattle.std.specs.List.{take-map}
use Rattle.std.proofs.lemmas.List.Elements.{All-append, All-take, All-nil}
use Rattle.log_seams.specs.Disk.{DiskState}
use Rattle.log_seams.specs.Outside.{Rose}
use Rattle.turn_lock.specs.Words.{seen, number_of, about, lock_of, IsReady, IsStill, HasFixed, Adds, OwnsMore}
use Rattle.archive_meaning.specs.declared.entry.JournalEntry.{JournalEntry}
use Rattle.disk_seal.specs.declared.entry.StoreEntry.{StoreEntry}
use Rattle.disk_seal.specs.declared.entry.StoreEntry.TheVariants.{Stopped}
use Rattle.disk_seal.specs.declared.faults.DiskFault.{DiskFault}
use Rattle.disk_seal.specs.declared.pieces.Piece.{Piece}
use Rattle.disk_seal.specs.Told.{entry_for}
use Rattle.disk_seal.specs.View.{StoreView, StoreState, state_by, tells, store_entries, Kept}
use Rattle.disk_seal.specs.Fixed.{fixed_of, KeeperPass}
use Rattle.disk_seal.specs.May.{MayAdd}
use Rattle.disk_seal.specs.Adding.{Stays, LeavesFirst}
use Rattle.disk_seal.specs.declared.fixed.StoreFixed.{StoreFixed}
use Rattle.disk_seal.specs.Prepare.{IsFaultOf}
use Rattle.disk_seal.specs.Pieces.{added_by, AddsAll, AddsSome}
use Rattle.disk_seal.specs.Sealing.{told_as, IsHalted, HasFault, InHand, HasGrown, HasGrownSome, HasPutBack, MayPut}

-- ---- a fault

pub has_fault : (s : StoreState) (f : DiskFault) → Kept s → f.opened ≡ s.faults → s.stopped ≡ Some f.now → HasFault f s
has_fault s f k opened now = record {
  opened = opened ∙ k.at_opening;
  now = now;
  rose = subst (λ n. Rose n f.now) (sym (opened ∙ k.at_opening)) (k.fault f.now now).0;
}

pub fault_of : {D : Type 0} (state : D → DiskState) (v w : StoreView D) (p : KeeperPass D) → InHand state v p → Stays v w → (f : DiskFault) → HasFault f (state_by state w) → IsFaultOf state f p
fault_of state v w p hand st f has = record {
  opened = λ a is. has.opened ∙ ap (λ d. (state d).faults) (st.opened ∙ ap (λ (x : StoreFixed _). x.opened) (hand.fixed a is));
  rose = has.rose;
}

-- ---- putting back

-- what was added behind what the pass had seen
rest_of : (es : List JournalEntry) (s t : StoreState) (n : ℕ) → All (MayAdd n) (told_as s es) → (r : Result ℕ DiskFault) (size : ℕ) → OnOk r (AddsAll size es s t) → OnErr r (IsHalted es s t)
    → (rest : List StoreEntry) × (store_entries t ≡ store_entries s ++ rest) × All (MayAdd n) rest
rest_of es s t n may (Ok end) size all halted = (told_as s es, all.entries, may)
rest_of es s t n may (Err f) size all halted =
    ⊎_elim
    (λ (was : (s.stopped ≢ None) × (store_entries t ≡ store_entries s)). ([], was.1 ∙ sym (append-nil (store_entries s)), All-nil (MayAdd n)))
    (λ (some : (s.stopped ≡ None) × AddsSome es s t).
    let k = some.1.k in
    let front : All (MayAdd n) (map (entry_for (tells s)) (take k es)) = subst (All (MayAdd n)) (take-map (entry_for (tells s)) k es) (All-take (MayAdd n) k (told_as s es) may) in
    (map (entry_for (tells s)) (take k es) ++ Stopped t.disk.faults ∷ [], some.1.entries, All-append (MayAdd n) (map (entry_for (tells s)) (take k es)) (Stopped t.disk.faults ∷ []) front (only_mark n t.disk.faults)))
    halted
  where
    only_mark : (n now : ℕ) → All (MayAdd n) (Stopped now ∷ [])
    only_mark n now zero d lt = tt
    only_mark n now (suc k) d lt = absurd (omega (arith, lt))

module _ {D : Type 0} where
  same_fixed : (v w : StoreView D) → Stays v w → fixed_of w ≡ fixed_of v
  same_fixed v w st = λ i. record { name = st.name i; opened = st.opened i; header = st.header i; first = st.first i; types = lock_of (st.types i); words = lock_of (st.words i) }

  pub put_fixed : (state : D → DiskState) (v w : StoreView D) (p : KeeperPass D) → InHand state v p → Stays v w → HasFixed fixed_of (about p) w
  put_fixed state v w p hand st a is = same_fixed v w st ∙ hand.fixed a is

  pub put_adds : (state : D → DiskState) (v w : StoreView D) (p : KeeperPass D) (ps : List Piece) (r : Result ℕ DiskFault) (size : ℕ) → MayPut state v ps p
      → OnOk r (AddsAll size (added_by ps) (state_by state v) (state_by state w)) → OnErr r (IsHalted (added_by ps) (state_by state v) (state_by state w)) → Adds MayAdd p (store_entries (state_by state w))
  put_adds state v w p ps r size may all halted =
      let rest = rest_of (added_by ps) (state_by state v) (state_by state w) (number_of p) may.may r size all halted in
      (rest.0, rest.1 ∙ ap (λ l. l ++ rest.0) may.hand.entries, rest.2)

  module _ (p q : KeeperPass D) (old new : List StoreEntry) (had : old ≡ seen p) (still : IsStill p q) (ready : IsReady q) (is : seen q ≡ new) (own : OwnsMore p q new) where
    grown_by : (rest : List StoreEntry) → new ≡ old ++ rest → HasGrown rest p q
    grown_by rest more =
        let joins = more ∙ ap (λ l. l ++ rest) had in record { still = still; ready = ready; seen_is = is ∙ joins; own_is = own rest joins }

  module _ (state : D → DiskState) (v w : StoreView D) (p q : KeeperPass D) (ps : List Piece) (r : Result ℕ DiskFault) (size : ℕ) (may : MayPut state v ps p)
      (still : IsStill p q) (ready : IsReady q) (is : seen q ≡ store_entries (state_by state w)) (own : OwnsMore p q (store_entries (state_by state w))) where
    abbrev s : StoreState
    s = state_by state v

    abbrev t : StoreState
    t = state_by state w

    grows : (rest : List StoreEntry) → store_entries t ≡ store_entries s ++ rest → HasGrown rest p q
    grows = grown_by p q (store_entries s) (store_entries t) may.hand.entries still ready is own

    pub grown_all : OnOk r (AddsAll size (added_by ps) s t) → OnOk r (HasGrown (told_as s (added_by ps)) p q)
    grown_all all = all_of r all
      where
        all_of : (r : Result ℕ DiskFault) → OnOk r (AddsAll size (added_by ps) s t) → OnOk r (HasGrown (told_as s (added_by ps)) p q)
        all_of (Ok end) all = grows (told_as s (added_by ps)) all.entries
        all_of (Err f) all = tt

    pub grown_some : (v.stopped ≢ None → w ≡ v) → OnErr r (IsHalted (added_by ps) s t) → IfErr r (λ f. HasFault f t) → IfErr r (λ f. HasGrownSome f.now (added_by ps) s p q)
    grown_some rests halted fault = some_of r halted fault
      where
        some_of : (r : Result ℕ DiskFault) → OnErr r (IsHalted (added_by ps) s t) → IfErr r (λ f. HasFault f t) → IfErr r (λ f. HasGrownSome f.now (added_by ps) s p q)
        some_of (Ok end) halted has = tt
        some_of (Err f) halted has =
            ⊎_elim
            (λ (was : (s.stopped ≢ None) × (store_entries t ≡ store_entries s)).
            inl (sym (ap (λ (x : StoreView D). x.stopped) (rests was.0)) ∙ has.now, grows [] (was.1 ∙ sym (append-nil (store_entries s)))))
            (λ (some : (s.stopped ≡ None) × AddsSome (added_by ps) s t).
            let count : t.disk.faults ≡ f.now = cc (has.now, some.1.stopped) in
            let k = some.1.k in
            inr (some.0, (k, some.1.below, subst (λ (n : ℕ). HasGrown (told_as s (take k (added_by ps)) ++ Stopped n ∷ []) p q) count (grows (told_as s (take k (added_by ps)) ++ Stopped t.disk.faults ∷ []) some.1.entries))))
            halted

    pub end_there : OnOk r (AddsAll size (added_by ps) s t) → IfOk r (λ end. end ≡ w.place + 1) → IfOk r (λ end. end ≡ v.place + size + 1)
    end_there all end = end_of r all end
      where
        end_of : (r : Result ℕ DiskFault) → OnOk r (AddsAll size (added_by ps) s t) → IfOk r (λ end. end ≡ w.place + 1) → IfOk r (λ end. end ≡ v.place + size + 1)
        end_of (Ok end) all is = omega (arith, is, all.place)
        end_of (Err f) all is = tt

    module _ (kept : Kept t) (st : Stays v w) (leaves : v.stopped ≡ None → LeavesFirst (added_by ps) s t) (rests : v.stopped ≢ None → w ≡ v) where
      abbrev pub put_back : HasPutBack state v (added_by ps) q
      put_back = record {
        store = w;
        in_lock = record { kept = kept; fixed = λ a known. put_fixed state v w p may.hand st a (sym still.about_is ∙ known); entries = sym is };
        stays = st;
        leaves = leaves;
        rests = rests;
      }
