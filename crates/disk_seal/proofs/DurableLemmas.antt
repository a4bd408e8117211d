-- What holds of each store with the list that a pass has seen once its turn is put.
use Rattle.std.proofs.Common.{◌≡◌, ⊎_elim, ℕ, ◌<◌, List, [], ◌∷◌, ◌++◌, Bool, true, false, length, map, take, sym, ap, ◌∙◌, subst, Some, None, append-nil, append_assoc}
use Rattle.std.specs.Prelude.{Result, Ok, Err, OnOk, IfErr, is_some}
use Rattle.log_seams.specs.Disk.{DiskState}
use Rattle.turn_lock.specs.Words.{seen, about}
use Rattle.dict_lock.proofs.SharedLemmas.{some_about}
use Rattle.archive_meaning.specs.declared.entry.JournalEntry.{JournalEntry}
use Rattle.archive_meaning.specs.Stands.{StandsFor}
use Rattle.disk_seal.specs.declared.entry.StoreEntry.TheVariants.{Stopped}
use Rattle.disk_seal.specs.declared.faults.DiskFault.{DiskFault}
use Rattle.disk_seal.specs.declared.fixed.StoreFixed.{StoreFixed}
use Rattle.disk_seal.specs.Told.{IfTold, entry_for, recorded, mark}
use Rattle.disk_seal.specs.View.{StoreView, StoreState, state_by, tells, journal_of, store_entries, Kept}
use Rattle.disk_seal.specs.Fixed.{fixed_of, KeeperPass}
use Rattle.disk_seal.specs.Draft.{journal_seen}
use Rattle.disk_seal.specs.Sealing.{told_as, InHand, HasGrown, HasGrownSome, IsSeenBy, IsDurable, IsFaultIn}
use Rattle.disk_seal.proofs.KeptLemmas.{stands_now}
use Rattle.disk_seal.proofs.LookedLemmas.{seen_list}
use Rattle.disk_seal.proofs.MarkLemmas.{stopped_by, running_by}
use Rattle.disk_seal.proofs.PrepareLemmas.{seen_all, seen_joined}
use Rattle.disk_seal.proofs.ToldLemmas.{told_both}

entries_seen : (b : Bool) (es : List JournalEntry) → IfTold b (journal_seen (map (entry_for b) es) ≡ es)
entries_seen false es = tt
entries_seen true es = seen_all es

module _ {D : Type 0} (state : D → DiskState) (v : StoreView D) (p q : KeeperPass D) (hand : InHand state v p) where
  abbrev s : StoreState
  s = state_by state v

  -- the lock's fixed part is that of the store in the turn
  same_fixed : about q ≡ about p → (w : StoreView D) → IsSeenBy state q w → fixed_of w ≡ fixed_of v
  same_fixed still w by =
      let known = some_about (about p) p.known in
      by.fixed known.0 (still ∙ known.1) ∙ sym (hand.fixed known.0 known.1)

  pub durable : (es : List JournalEntry) → v.stopped ≡ None → Kept s → HasGrown (told_as s es) p q → IsDurable state v es q
  durable es runs kept grown w by c image =
      let t : StoreState = state_by state w in
      let fixed : fixed_of w ≡ fixed_of v = same_fixed grown.still.about_is w by in
      let tells_same : tells t ≡ tells s = ap (λ (x : StoreFixed D). is_some (state x.opened).seen) fixed in
      let header : w.header ≡ v.header = ap (λ (x : StoreFixed D). x.header) fixed in
      let list : store_entries t ≡ store_entries s ++ told_as s es = by.entries ∙ grown.seen_is ∙ ap (λ l. l ++ told_as s es) (sym hand.entries) in
      let running : t.stopped ≡ None = running_by s t (tells s) es runs list in
      let joins : journal_seen (store_entries t) ≡ journal_seen (store_entries s) ++ journal_seen (told_as s es) = ap journal_seen list ∙ seen_joined (store_entries s) (told_as s es) in
      let now : IfTold (tells s) (journal_seen (store_entries t) ≡ journal_of t) = subst (λ b. IfTold b (journal_seen (store_entries t) ≡ journal_of t)) tells_same (seen_list t by.kept) in
      let before : IfTold (tells s) (journal_seen (store_entries t) ≡ journal_of s ++ es) =
      told_both (tells s) (λ (was : journal_seen (store_entries s) ≡ journal_of s) (more : journal_seen (told_as s es) ≡ es).
      joins ∙ (λ i. was i ++ more i)) (seen_list s kept) (entries_seen (tells s) es) in
      let journal : IfTold (tells s) (journal_of t ≡ journal_of s ++ es) =
      told_both (tells s) (λ (a : journal_seen (store_entries t) ≡ journal_of t) (b : journal_seen (store_entries t) ≡ journal_of s ++ es). sym a ∙ b) now before in
      told_both (tells s) (λ (stands : StandsFor c t.header (journal_of t)) (more : journal_of t ≡ journal_of s ++ es).
      subst (λ h. StandsFor c h (journal_of s ++ es)) header (subst (StandsFor c t.header) more stands))
      (subst (λ b. IfTold b (StandsFor c t.header (journal_of t))) tells_same (stands_now t by.kept running c image)) journal

  pub fault_in : (f : DiskFault) (es : List JournalEntry) → HasGrownSome f.now es s p q → IsFaultIn state f q
  fault_in f es some w by =
      let t : StoreState = state_by state w in
      let stopped : t.stopped ≡ Some f.now =
      ⊎_elim
      (λ (was : (s.stopped ≡ Some f.now) × HasGrown [] p q).
      let list : store_entries t ≡ store_entries s = by.entries ∙ was.1.seen_is ∙ append-nil (seen p) ∙ sym hand.entries in
      stopped_by t (recorded s.disk.seen s.count) [] f.now (ap (λ o. recorded s.disk.seen s.count ++ mark o) (sym was.0) ∙ sym list))
      (λ (one : (s.stopped ≡ None) × ((k : ℕ) × (k < length es) × HasGrown (told_as s (take k es) ++ Stopped f.now ∷ []) p q)).
      let front = told_as s (take one.1.0 es) in
      stopped_by t (seen p ++ front) [] f.now (append_assoc (seen p) front (Stopped f.now ∷ []) ∙ sym one.1.2.seen_is ∙ sym by.entries))
      some in
      (stopped, (by.kept.fault f.now stopped).1)

pub durable_by : {D : Type 0} (state : D → DiskState) (v : StoreView D) (p q : KeeperPass D) (hand : InHand state v p) (es : List JournalEntry) (r : Result ℕ DiskFault) → Kept (state_by state v)
    → OnOk r (v.stopped ≡ None) → OnOk r (HasGrown (told_as (state_by state v) es) p q) → OnOk r (IsDurable state v es q)
durable_by state v p q hand es (Ok end) kept runs grown = durable state v p q hand es runs kept grown
durable_by state v p q hand es (Err f) kept runs grown = tt

pub fault_by : {D : Type 0} (state : D → DiskState) (v : StoreView D) (p q : KeeperPass D) (hand : InHand state v p) (es : List JournalEntry) (r : Result ℕ DiskFault)
    → IfErr r (λ f. HasGrownSome f.now es (state_by state v) p q) → IfErr r (λ f. IsFaultIn state f q)
fault_by state v p q hand es (Ok end) some = tt
fault_by state v p q hand es (Err f) some = fault_in state v p q hand f es some
