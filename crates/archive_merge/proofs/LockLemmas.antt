-- What holds of the store once all files were moved and its lock was closed.
use Rattle.std.proofs.Common.{◌≡◌, ℕ, ◌+◌, List, [], ◌∷◌, ◌++◌, length, drop, sym, refl, ap, ◌∙◌, subst, arith, Option, None, Some, slice_get}
use Rattle.std.specs.List.{filter_map}
use Rattle.std.proofs.lemmas.Option.{slice_get_within}
use mathlib.Core.List.{IsPrefix}
use Rattle.log_seams.specs.Disk.{DiskState}
use Rattle.log_seams.specs.declared.disk.Disk.{Ghosts as DiskGhosts}
use Rattle.row_codec.specs.declared.names.Names.{Ghosts as NamesGhosts}
use Rattle.turn_lock.specs.declared.board.About.{About}
use Rattle.turn_lock.specs.declared.grows.Grows.{Ghosts}
use Rattle.turn_lock.specs.History.{Has}
use Rattle.turn_lock.specs.Words.{HasJoinedAll, IsOpening, IsReady, IsStill, about_by, ended_by, made_by, number_of, own_list, seen, seen_by}
use Rattle.ingest_fork.specs.Passes.{AreJoinable, AreStill, Fresh}
use Rattle.ingest_fork.specs.Picked.{IsPast, NoneAdded, entries_in}
use Rattle.ingest_fork.specs.Works.{AllDone}
use Rattle.ingest_fork.proofs.PassLemmas.{all_joined}
use Rattle.ingest_fork.proofs.PickLemmas.{each_added, picked_own}
use Rattle.ingest_fork.proofs.PlaceLemmas.{there_is}
use Rattle.disk_seal.specs.declared.entry.StoreEntry.{StoreEntry}
use Rattle.disk_seal.specs.declared.fixed.StoreFixed.{StoreFixed}
use Rattle.disk_seal.specs.View.{StoreView}
use Rattle.disk_seal.specs.Fixed.{KeeperPass, fixed_of}
use Rattle.disk_seal.specs.May.{MayAdd}
use Rattle.ingest_workers.specs.Locked.{KeeperMaker, file_segment, list_of}
use Rattle.ingest_workers.proofs.LockLemmas.{Did, adds_alone}
use Rattle.ingest_workers.proofs.MaySealLemmas.{nothing_added}
use Rattle.archive_merge.specs.declared.file.Merged.{Merged}
use Rattle.archive_merge.specs.declared.merger.Merger.{Merger}
use Rattle.archive_merge.specs.declared.merger.Stopped.{Stopped}
use Rattle.archive_merge.specs.Locked.{HasClosed, HasMovedAll, HasMovedOver, MayMoveAll, MayMoveAt}
use Rattle.archive_merge.specs.Merger.{DidFile, MovesOn}

module _ {M E D : Type 0} {N : NamesGhosts M} {H : DiskGhosts E} (types words : M → List (List ℕ)) (version : M → ℕ) (state : D → DiskState) (state_second : E → DiskState) where
  -- what the pass of a file added, which is nothing where that was not begun
  did_pass : (w v : Merger M E N H) (j j' : Merged) (k k' : KeeperPass D) → IsReady k → DidFile types words version state state_second w j k v j' k' → Did k k'
  did_pass w v j j' k k' ready did = by_stop w.stop refl
    where
      by_stop : (o : Option Stopped) → w.stop ≡ o → Did k k'
      by_stop None none = let moved = did.moved none in record { more = moved.came.more; added = moved.came.added }
      by_stop (Some s) some =
          let waited = did.waited (λ none. absurd (cc (none, some))) in
          subst (λ (x : KeeperPass D). Did k x) (sym waited.1) (record { more = []; added = nothing_added k ready })

  module _ (w w' : Merger M E N H) (js js' : List Merged) (ks qs : List (KeeperPass D)) (even : length ks ≡ length js) (ready : (i : ℕ) (p : KeeperPass D) → slice_get ks i ≡ Some p → IsReady p)
      (all : AllDone (MovesOn types words version state_second) (DidFile types words version state state_second) (w ∷ []) (w' ∷ []) js js' ks qs) where
    -- the pass at a place after the files were moved is the pass of before, which added some entries
    did_at : (i : ℕ) (q : KeeperPass D) → slice_get qs i ≡ Some q → (p : KeeperPass D) × (slice_get ks i ≡ Some p) × Did p q
    did_at i q at = let keepers = all.keepers in let lt = slice_get_within qs i q at in let k = there_is ks i (omega (arith, keepers, lt)) in let j = there_is js i (omega (arith, keepers, lt, even)) in
        let d = all.each i j.0 k.0 j.1 k.1 in let same : d.keeper ≡ q = cc (d.keeper_is, at) in
        (k.0, k.1, subst (λ (x : KeeperPass D). Did k.0 x) same (did_pass d.before d.after j.0 d.job k.0 d.keeper (ready i k.0 k.1) d.did_it))

    are_still : AreStill ks qs
    are_still = record {
      counted = all.keepers;
      each = λ i p q one two. let r = did_at i q two in let same : r.0 ≡ p = cc (one, r.1) in subst (λ (x : KeeperPass D). IsStill x q) same r.2.added.still;
    }

  module _ {G : Ghosts (StoreView D) StoreEntry (StoreFixed D)} where
    pub joinable : (m m' : KeeperMaker D G) (w w' : Merger M E N H) (js js' : List Merged) (ks qs : List (KeeperPass D)) → Fresh m m' ks (length js)
        → AllDone (MovesOn types words version state_second) (DidFile types words version state state_second) (w ∷ []) (w' ∷ []) js js' ks qs → AreJoinable m' qs
    joinable m m' w w' js js' ks qs fresh all i q at = let r = did_at w w' js js' ks qs fresh.counted (λ k p is. (fresh.each k p is).ready) all i q at in let was = fresh.each i r.0 r.1 in
        (r.2.added.still.lock ∙ (was.lock ∙ sym fresh.still.lock), r.2.added.ready)

    -- the first passes of the lock are joined, and no other was made
    pub all_ended : (m end : KeeperMaker D G) (w w' : Merger M E N H) (js js' : List Merged) → made_by m ≡ 0 → HasMovedAll types words version state state_second m end w w' js js' → HasJoinedAll end
    all_ended m end w w' js js' none h = all_joined m h.middle h.middle end h.passes h.passes' (length js) h.fresh
        (are_still w w' js js' h.passes h.passes' h.fresh.counted (λ k p is. (h.fresh.each k p is).ready) h.moved.done)
        (record { about_is = refl; made = refl; others = λ a n is low high. absurd (omega arith) }) h.joined

    pub has_moved : (m : KeeperMaker D G) (first : ℕ) (w w' : Merger M E N H) (js js' : List Merged) (before after : StoreView D) → IsOpening m first (list_of state before) (fixed_of before)
        → HasClosed types words version state state_second m w w' js js' after → HasMovedOver types words version state state_second first w w' js js' before after
    has_moved m first w w' js js' before after o h = record {
      fixed = h.fixed opening about_end;
      front = subst (λ l. IsPrefix l (list_of state after)) seen_then (subst (λ l. IsPrefix (seen_by h.done.middle) l) (sym h.entries) h.done.joined.seen_on);
      passes = h.done.passes;
      passes' = h.done.passes';
      counted = h.done.fresh.counted;
      opened = λ i p at. let f = h.done.fresh.each i p at in let made = o.made in record {
        number = f.number opening o.about_is ∙ (let e : first + (made_by m + i) ≡ first + i = omega arith in e);
        about_is = f.about_is ∙ o.about_is;
        seen_is = f.seen_is ∙ o.seen_is;
        own_is = f.own_is;
      };
      moved = h.done.moved;
      files = λ i q at. let mine = h.done.joined.each i q (omega arith) at in
          subst (λ l. filter_map (file_segment (number_of q)) (drop (length (list_of state before)) l) ≡ filter_map (file_segment (number_of q)) (entries_in (own_list q))) (sym h.entries)
          (subst (λ l. filter_map (file_segment (number_of q)) (drop (length (list_of state before)) (seen_by h.end)) ≡ filter_map (file_segment (number_of q)) (entries_in l)) mine.own_is
          (picked_own MayAdd h.end (file_segment (number_of q)) (number_of q) opening h.owned about_end (adds_alone (number_of q))
          (subst (λ l. IsPast (length (list_of state before)) l) (sym mine.own_is) (past i q at))));
      seen_on = λ i q at. subst (λ l. IsPrefix (seen q) l) (sym h.entries) (h.done.joined.each i q (omega arith) at).seen_on;
      added = λ j e le at. each_added MayAdd h.end h.done.middle h.done.passes' h.owned h.done.joined none_added opening j e about_end le (subst (λ l. slice_get l j ≡ Some e) h.entries at);
    }
      where
        opening : About (StoreFixed D)
        opening = record { first = first; start = length (list_of state before); fixed = fixed_of before }

        about_end : about_by h.end ≡ Some opening
        about_end = h.done.joined.about_is ∙ (h.done.fresh.still.about_is ∙ o.about_is)

        seen_then : seen_by h.done.middle ≡ list_of state before
        seen_then = h.done.fresh.still.seen_is ∙ o.seen_is

        none_added : NoneAdded h.done.middle
        none_added n has = let none : ended_by h.done.middle ≡ [] = h.done.fresh.still.ended ∙ o.ended in absurd (subst (λ l. Has l n) none has)

        past : (i : ℕ) (q : KeeperPass D) → slice_get h.done.passes' i ≡ Some q → IsPast (length (list_of state before)) (own_list q)
        past i q at = let r = did_at w w' js js' h.done.passes h.done.passes' h.done.fresh.counted (λ k p is. (h.done.fresh.each k p is).ready) h.done.moved.done i q at in let f = h.done.fresh.each i r.0 r.1 in
            let own : own_list q ≡ r.2.more = r.2.added.own ∙ ap (λ l. l ++ r.2.more) f.own_is in
            let seen_is : seen r.0 ≡ list_of state before = f.seen_is ∙ o.seen_is in
            subst (λ l. IsPast (length (list_of state before)) l) (sym own) (subst (λ l. IsPast (length l) r.2.more) seen_is r.2.added.behind)

    pub may_move_all : (m : KeeperMaker D G) (first : ℕ) (store : StoreView D) (w : Merger M E N H) (js : List Merged) → IsOpening m first (list_of state store) (fixed_of store)
        → MayMoveAt types words version state first store w js → MayMoveAll types words version state m w js
    may_move_all m first store w js o may m' ks fresh = may ks fresh.counted (λ i p at. let f = fresh.each i p at in let made = o.made in (
      record {
        number = f.number _ o.about_is ∙ (let e : first + (made_by m + i) ≡ first + i = omega arith in e);
        about_is = f.about_is ∙ o.about_is;
        seen_is = f.seen_is ∙ o.seen_is;
        own_is = f.own_is;
      },
      f.ready,
    ))
