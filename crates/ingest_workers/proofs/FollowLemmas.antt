-- A follower beside the workers: what it keeps over a longer list, by its two passes, over a store and over a journal.
use Rattle.std.proofs.Common.{◌≡◌, ℕ, ◌+◌, ◌≤◌, Bool, true, false, List, [], ◌∷◌, ◌++◌, length, take, drop, sym, ap, ap₂, ◌∙◌, subst, arith, Some, None, length-append, length-drop}
use Rattle.std.specs.Prelude.{is_some}
use Rattle.std.proofs.lemmas.List.{take-append-le, drop-append-le}
use mathlib.Core.List.{IsPrefix}
use Rattle.log_seams.specs.declared.disk.Disk.{Ghosts as DiskGhosts}
use Rattle.log_seams.specs.Disk.{DiskState}
use Rattle.log_seams.specs.Outside.{Rose}
use Rattle.record_format.specs.declared.header.Header.{Header}
use Rattle.turn_lock.specs.declared.board.About.{About}
use Rattle.turn_lock.specs.declared.grows.Grows.{Ghosts}
use Rattle.turn_lock.specs.Words.{about, about_by, seen, seen_by, IsFreshOf, IsOpening, IsReady}
use Rattle.turn_lock.proofs.FrontLemmas.{prefix_length, prefix_trans}
use Rattle.ingest_fork.specs.Passes.{Fresh}
use Rattle.dict_lock.specs.Shared.{BookPass}
use Rattle.disk_journal.specs.declared.journal.Journal.{Journal}
use Rattle.disk_journal.specs.Journal.{state_of}
use Rattle.archive_meaning.specs.declared.entry.JournalEntry.{JournalEntry}
use Rattle.disk_seal.specs.declared.entry.StoreEntry.{StoreEntry}
use Rattle.disk_seal.specs.declared.entry.StoreEntry.TheVariants.{Entry, Blank, Stopped}
use Rattle.disk_seal.specs.declared.fixed.StoreFixed.{StoreFixed}
use Rattle.disk_seal.specs.Told.{IfTold, journal_in}
use Rattle.disk_seal.specs.View.{StoreView, state_by, store_entries}
use Rattle.disk_seal.specs.Fixed.{fixed_of, KeeperPass}
use Rattle.disk_seal.specs.Draft.{journal_seen}
use Rattle.disk_seal.specs.Prepare.{HasSeenOpening}
use Rattle.disk_seal.specs.Looked.{journal_length, IsMarked}
use Rattle.disk_seal.specs.Beside.{Follower, StandsOn, MayFollowOn, HasFollowed, IsThrough}
use Rattle.disk_seal.proofs.ToldLemmas.{told_map}
use Rattle.disk_seal.proofs.LookedLemmas.{length_list, opening_on}
use Rattle.ingest_workers.specs.Locked.{KeeperMaker, list_of}
use Rattle.ingest_workers.specs.Beside.{MayBeginOn, WasBeside, MayBeginBy, WasBesideBy, MayBeginOver, WasBesideOver, MayBeginWith, WentBeside}
use Rattle.ingest_workers.specs.ClosedStore.{IsJournalOf}
use Rattle.ingest_workers.specs.Ingested.{opened_over, told_entries}
use Rattle.ingest_workers.proofs.IngestLemmas.{seen_list}
use Rattle.ingest_workers.proofs.JournalLemmas.{seen_joined}

-- ---- a longer list

length_both : (xs ys : List StoreEntry) → journal_length (xs ++ ys) ≡ journal_length xs + journal_length ys
length_both [] ys = omega arith
length_both (Entry e ∷ xs) ys = omega (arith, length_both xs ys)
length_both (Blank ∷ xs) ys = omega (arith, length_both xs ys)
length_both (Stopped n ∷ xs) ys = length_both xs ys

no_shorter : (xs ys : List StoreEntry) → IsPrefix xs ys → journal_length xs ≤ journal_length ys
no_shorter xs ys on = let whole : journal_length (xs ++ on.0) ≡ journal_length ys = ap journal_length on.1 in omega (arith, whole, length_both xs on.0)

marked_on : (xs ys : List StoreEntry) → IsPrefix xs ys → IsMarked xs → IsMarked ys
marked_on xs ys on marked = (marked.0, (marked.1.0, prefix_trans (marked.1.0 ++ Stopped marked.0 ∷ []) xs ys marked.1.1 on))

module _ {F : Type 0} (f : Follower F) (h : Header) where
  pub stands_longer : (es more : List JournalEntry) → StandsOn f h es → StandsOn f h (es ++ more)
  stands_longer es more s =
      let within = s.within in
      let low : f.first ≤ length es = omega (arith, within) in
      let rest : f.handled ≤ length (drop f.first es) = omega (arith, within, length-drop f.first es) in record {
        within = omega (arith, within, length-append es more);
        stands = subst (λ (l : List JournalEntry). f.stands h (take f.first (es ++ more)) (take f.handled l)) (sym (drop-append-le f.first es more low))
            (subst (λ (l : List JournalEntry). f.stands h (take f.first (es ++ more)) l) (sym (take-append-le f.handled (drop f.first es) more rest))
            (subst (λ (l : List JournalEntry). f.stands h l (take f.handled (drop f.first es))) (sym (take-append-le f.first es more low)) s.stands));
      }

  stands_on : (xs ys : List StoreEntry) → IsPrefix xs ys → StandsOn f h (journal_seen xs) → StandsOn f h (journal_seen ys)
  stands_on xs ys on s = subst (λ (l : List JournalEntry). StandsOn f h l) (sym (seen_joined xs on.0) ∙ ap journal_seen on.1) (stands_longer (journal_seen xs) (journal_seen on.0) s)

-- ---- its two passes

module _ {F D : Type 0} {G : Ghosts (StoreView D) StoreEntry (StoreFixed D)} (state : D → DiskState) where
  -- the first one is made by a maker that has seen no more
  pub may_first : (f : Follower F) (m m1 : KeeperMaker D G) (ks : List (KeeperPass D)) (count : ℕ) (p : KeeperPass D) → MayBeginBy state f m → Fresh m m1 ks count → IsFreshOf m1 p → MayFollowOn state f p
  may_first f m m1 ks count p may fresh made = record {
    ready = made.ready;
    opening = λ a is. subst (λ (x : About (StoreFixed D)). x.start ≤ length (seen p)) (same a is) (subst (λ (l : List StoreEntry). may.known.start ≤ length l) (sym seen_is) may.opening);
    keeps = record {
      within = subst (λ (l : List StoreEntry). f.first + f.handled ≤ journal_length l) (sym seen_is) may.begins.within;
      stands = λ a is. subst (λ (x : About (StoreFixed D)). IfTold (is_some (state x.fixed.opened).seen) (StandsOn f x.fixed.header (journal_seen (seen p)))) (same a is)
          (subst (λ (l : List StoreEntry). IfTold (is_some (state may.known.fixed.opened).seen) (StandsOn f may.known.fixed.header (journal_seen l))) (sym seen_is) may.begins.stands);
      marked = λ halted. absurd (cc (halted, may.begins.running));
    };
  }
    where
      seen_is : seen p ≡ seen_by m
      seen_is = made.seen_is ∙ fresh.still.seen_is

      same : (a : About (StoreFixed D)) → about p ≡ Some a → may.known ≡ a
      same a is = let both : Some may.known ≡ Some a = sym may.is ∙ (sym fresh.still.about_is ∙ (sym made.about_is ∙ is)) in cc (both)

  -- the second one has seen all that there is
  pub was_beside : (f g k : Follower F) (m end : KeeperMaker D G) (p q r s : KeeperPass D) → HasFollowed state f g p q → HasFollowed state g k r s → IsThrough k s → about_by m ≡ about s → seen_by end ≡ seen s
      → WasBesideBy state f k m end
  was_beside f g k m end p q r s one two through known all a is = record {
    first = two.first ∙ one.first;
    fixed = two.fixed ∙ one.fixed;
    more = omega (arith, one.more, two.more);
    within = subst (λ (l : List StoreEntry). k.first + k.handled ≤ journal_length l) (sym all) two.keeps.within;
    stands = subst (λ (l : List StoreEntry). IfTold (is_some (state a.fixed.opened).seen) (StandsOn k a.fixed.header (journal_seen l))) (sym all) (two.keeps.stands a (sym known ∙ is));
    marked = λ halted. subst (λ (l : List StoreEntry). IsMarked l) (sym all) (two.keeps.marked halted);
    through = λ runs. through runs ∙ ap journal_length (sym all);
  }

module _ {F D : Type 0} (state : D → DiskState) where
  -- it goes on by a pass that has seen more
  pub may_last : (f g : Follower F) (p q r : KeeperPass D) → HasSeenOpening p → HasFollowed state f g p q → IsReady r → about r ≡ about q → IsPrefix (seen q) (seen r) → MayFollowOn state g r
  may_last f g p q r opening followed ready same on = record {
    ready = ready;
    opening = λ a is. let first = opening_on p q followed.turned opening a (sym same ∙ is) in let long = prefix_length (seen q) (seen r) on in omega (arith, first, long);
    keeps = record {
      within = let within = followed.keeps.within in omega (arith, within, no_shorter (seen q) (seen r) on);
      stands = λ a is. told_map (is_some (state a.fixed.opened).seen) (stands_on g a.fixed.header (seen q) (seen r) on) (followed.keeps.stands a (sym same ∙ is));
      marked = λ halted. marked_on (seen q) (seen r) on (followed.keeps.marked halted);
    };
  }

-- ---- over a store

module _ {F D : Type 0} {G : Ghosts (StoreView D) StoreEntry (StoreFixed D)} (state : D → DiskState) where
  pub begins_by : (f : Follower F) (m : KeeperMaker D G) (first : ℕ) (store : StoreView D) → IsOpening m first (list_of state store) (fixed_of store) → MayBeginOver state f store → MayBeginBy state f m
  begins_by f m first store o may = record {
    known = record { first = first; start = length (list_of state store); fixed = fixed_of store };
    is = o.about_is;
    opening = let long : length (seen_by m) ≡ length (list_of state store) = ap length o.seen_is in let low : length (list_of state store) ≤ length (seen_by m) = omega (arith, long) in low;
    begins = subst (λ (l : List StoreEntry). MayBeginOn (is_some (state store.opened).seen) store.header f l) (sym o.seen_is) may;
  }

  pub beside_over : (f g : Follower F) (m end : KeeperMaker D G) (first : ℕ) (before after : StoreView D) → IsOpening m first (list_of state before) (fixed_of before) → WasBesideBy state f g m end
      → store_entries (state_by state after) ≡ seen_by end → WasBesideOver state f g before after
  beside_over f g m end first before after o was entries =
      subst (λ (l : List StoreEntry). WasBeside (is_some (state before.opened).seen) before.header f g l) (sym entries) (was _ o.about_is)

-- ---- over a journal

module _ {F D : Type 0} {d : DiskGhosts D} where
  pub begins_over : (f : Follower F) (before : Journal D d) (types words : BookPass) (t w : ℕ) (o : StoreView D) → o ≡ opened_over before types words t w → MayBeginWith f before → MayBeginOver d.state f o
  begins_over f before types words t w o is may = subst (λ (x : StoreView D). MayBeginOver d.state f x) (sym is) (record {
    within = subst (λ (n : ℕ). f.first + f.handled ≤ n) (sym (length_list (state_by d.state (opened_over before types words t w)))) may.within;
    stands = subst (λ (l : List JournalEntry). IfTold (is_some (d.state before.disk.now).seen) (StandsOn f before.header l)) (sym (seen_list (d.state before.disk.now).seen before.count None)) may.stands;
    running = may.running;
  })

  pub went_beside : (f g : Follower F) (before after : Journal D d) (types words : BookPass) (t w : ℕ) (o store : StoreView D) → o ≡ opened_over before types words t w → WasBesideOver d.state f g o store → IsJournalOf store after
      → ((now : ℕ) (front : List StoreEntry) → IsPrefix (front ++ Stopped now ∷ []) (list_of d.state store) → Rose (state_of before).disk.faults (state_of after).disk.faults) → WentBeside f g before after
  went_beside f g before after types words t w o store is was back rose = at_opening (subst (λ (x : StoreView D). WasBesideOver d.state f g x store) is was)
    where
      long : journal_length (list_of d.state store) ≡ after.count
      long = length_list (state_by d.state store) ∙ sym back.count

      now : journal_seen (list_of d.state store) ≡ told_entries (state_of after)
      now = seen_list (d.state store.disk).seen store.count store.stopped ∙ ap₂ (λ (x : D) n. journal_in (d.state x).seen n) (sym back.disk) (sym back.count)

      at_opening : WasBesideOver d.state f g (opened_over before types words t w) store → WentBeside f g before after
      at_opening b = record {
        first = b.first;
        fixed = b.fixed;
        more = b.more;
        within = subst (λ (n : ℕ). g.first + g.handled ≤ n) long b.within;
        stands = subst (λ (l : List JournalEntry). IfTold (is_some (d.state before.disk.now).seen) (StandsOn g before.header l)) now b.stands;
        halted = λ halts. let mark = b.marked halts in rose mark.0 mark.1.0 mark.1.1;
        through = λ runs. b.through runs ∙ long;
      }

  -- one that stands for everything, and neither began with an entry nor handled one
  pub begins_always : (f : Follower F) (j : Journal D d) → f.first ≡ 0 → f.handled ≡ 0 → f.halted ≡ false → ((h : Header) (es hs : List JournalEntry) → f.stands h es hs) → MayBeginWith f j
  begins_always f j first handled running always = record {
    within = omega (arith, first, handled);
    stands = by_told (is_some (state_of j).disk.seen) (told_entries (state_of j));
    running = running;
  }
    where
      by_told : (b : Bool) (es : List JournalEntry) → IfTold b (StandsOn f j.header es)
      by_told false es = tt
      by_told true es = record { within = omega (arith, first, handled); stands = always j.header (take f.first es) (take f.handled (drop f.first es)) }
