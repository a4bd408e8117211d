-- What an ingest leaves of its disk, step by step.
use Rattle.std.proofs.Common.{◌≡◌, ◌≤◌, ◌⊎◌, inl, inr, refl, sym, ap, ap₂, subst, ◌∙◌, ℕ, true, List, [], ◌∷◌, ◌++◌, length, Option, Some, None, arith, append-nil, append_assoc, ⊎_elim}
use Rattle.std.specs.Prelude.{IfSome, is_some}
use Rattle.std.proofs.lemmas.List.{length-map}
use Rattle.std.proofs.lemmas.Option.{IfSome_then}
use mathlib.Core.List.{IsPrefix}
use Rattle.log_seams.specs.declared.disk.Disk.{Ghosts as DiskGhosts}
use Rattle.log_seams.specs.Disk.{DiskState, IsLawful, KeepsBytes, LeavesOnly, NoMore, Rests}
use Rattle.log_seams.specs.Outside.{Rose}
use Rattle.log_seams.proofs.MomentLemmas.{joined, keeps_leave, rests_leave, rose, weaker}
use Rattle.record_format.specs.declared.header.Header.{Header}
use Rattle.record_format.specs.Header.{IsHeader, header_bytes}
use Rattle.disk_journal.specs.Record.{Stands}
use Rattle.disk_journal.specs.Place.{AtEnd, entries}
use Rattle.disk_journal.specs.State.{JournalState}
use Rattle.disk_journal.specs.declared.journal.Journal.{Journal}
use Rattle.disk_journal.specs.Journal.{state_of}
use Rattle.archive_meaning.specs.declared.entry.JournalEntry.{JournalEntry}
use Rattle.archive_meaning.specs.declared.entry.JournalEntry.TheVariants.{Files}
use Rattle.archive_meaning.specs.Spelled.{records_of}
use Rattle.archive_meaning.specs.Stands.{IsLegal, StandsFor}
use Rattle.archive_meaning.proofs.UniqueLemmas.{one_journal}
use Rattle.disk_seal.specs.Told.{IfTold, entry_of, journal_in}
use Rattle.disk_seal.specs.View.{StoreView, journal_of, state_by}
use Rattle.disk_seal.proofs.ToldLemmas.{length-records}
use Rattle.ingest_workers.specs.Ingested.{IsAsItWas, IsLeftBy, told_entries}
use Rattle.command_answers.specs.Ingested.{FromArchive, LeavesJournal, StandsForEither}
use Rattle.name_records.specs.Left.{LeavesEntries}
use Rattle.name_records.proofs.LeftLemmas.{between_later, store_left}
pub use Rattle.name_records.proofs.LeftLemmas.{of_told, prefix_on, prefix_same}
use Rattle.file_outcomes.specs.JournalLeft.{HasNames, StandsBetween, StandsStill}

-- ---- what is left, from step to step

module _ (h : Header) (before : List JournalEntry) where
  -- where each image since the start stands for the journal, or for it and one record more
  pub either_leaves : (tail : List JournalEntry) (old new : DiskState) → IsLawful new → length tail ≤ 1 → ((Rose old.faults new.faults → ⊥) → tail ≡ [])
      → LeavesOnly old new (StandsForEither h before tail) → LeavesJournal h before before old new
  either_leaves tail old new law one none past = record {
    tail = tail;
    one = one;
    none = none;
    reads = IfSome_then new.seen law.reads_as (λ c image. now c image);
    now = now;
    since = λ c left. ⊎_elim (λ still. (before, prefix_same before, (tail, refl), still)) (λ more. (before ++ tail, (tail, refl), prefix_same (before ++ tail), more)) (past.each c left);
  }
    where
      now : (c : List ℕ) → new.images c → StandsForEither h before tail c
      now c image = past.each c (law.counts_now old.clock c past.later image)

  -- where each stands for the journal
  pub still_leaves : (old new : DiskState) → IsLawful new → LeavesOnly old new (StandsStill h before) → LeavesJournal h before before old new
  still_leaves old new law past =
      either_leaves [] old new law (omega arith) (λ steady. refl) (weaker old new (StandsStill h before) (StandsForEither h before []) past (λ c stands. inl stands))

  -- reads alone
  pub reads_still : (old mid new : DiskState) → IsLawful mid → IsLawful new → LeavesOnly old mid (StandsStill h before) → Rests mid new → LeavesOnly old new (StandsStill h before)
  reads_still old mid new law_mid law past rests =
      joined old mid new (StandsStill h before) mid.images (StandsStill h before) law past (rests_leave mid new law_mid law rests) (λ c stands. stands)
      (λ c image. past.each c (law_mid.counts_now old.clock c past.later image))

  -- calls that write nothing
  pub keeps_still : (old mid new : DiskState) → IsLawful mid → IsLawful new → LeavesOnly old mid (StandsStill h before) → KeepsBytes mid new → LeavesOnly old new (StandsStill h before)
  keeps_still old mid new law_mid law past keeps =
      joined old mid new (StandsStill h before) mid.images (StandsStill h before) law past (keeps_leave mid new law_mid law keeps) (λ c stands. stands)
      (λ c image. past.each c (law_mid.counts_now old.clock c past.later image))

  between_front : (mid es : List JournalEntry) (c : List ℕ) → IsPrefix mid es → StandsBetween h before mid c → StandsBetween h before es c
  between_front mid es c front b = (b.0, b.1, prefix_on b.0 mid es b.2 front, b.3)

  pub still_between : (es : List JournalEntry) (c : List ℕ) → IsPrefix before es → StandsStill h before c → StandsBetween h before es c
  still_between es c front stands = (before, prefix_same before, front, stands)

  -- what was left before a step that leaves more
  pub begun_sooner : (mid_es es : List JournalEntry) (old mid new : DiskState) → LeavesOnly old mid (StandsBetween h before mid_es) → IsPrefix mid_es es → old.faults ≤ mid.faults
      → LeavesOnly mid new (λ _. Unit {0}) → LeavesJournal h before es mid new → LeavesJournal h before es old new
  begun_sooner mid_es es old mid new first front risen moved leaves = record {
    tail = leaves.tail;
    one = leaves.one;
    none = λ steady. leaves.none (λ late. steady (rose old.faults mid.faults new.faults new.faults risen late (omega arith)));
    reads = leaves.reads;
    now = leaves.now;
    since = λ c left.
        ⊎_elim
        (λ was. between_front mid_es (es ++ leaves.tail) c (prefix_on mid_es es (es ++ leaves.tail) front (leaves.tail, refl)) (first.each c was))
        (λ now. leaves.since c now)
        (moved.before old.clock c first.later left);
  }

-- what is known where an archive is known at a later moment, at which the bytes are the same
pub from_archive : (old mid : DiskState) (P Q : (h : Header) (before : List JournalEntry) (bytes : List ℕ) → StandsFor bytes h before → Type 0) → mid.seen ≡ old.seen → NoMore old.images mid.images
    → ((h : Header) (before : List JournalEntry) (bytes : List ℕ) (stood : StandsFor bytes h before) → ((c : List ℕ) → old.images c → StandsFor c h before) → P h before bytes stood → Q h before bytes stood)
    → FromArchive mid P → FromArchive old Q
from_archive old mid P Q same less on from =
    IfSome_then old.seen
    (subst
    (λ (t : Option (List ℕ)). IfSome t (λ bytes. (h : Header) (before : List JournalEntry) (stood : StandsFor bytes h before) → ((c : List ℕ) → mid.images c → StandsFor c h before) → P h before bytes stood)) same from)
    (λ bytes was h before stood only. on h before bytes stood only (was h before stood (λ c image. only c (less c image))))

-- ---- the names of the new files

-- the journal that is read is the one that the bytes stand for
pub opened_as : (j : JournalState) (h : Header) (before : List JournalEntry) (bytes : List ℕ) → IsHeader j.header → entries j.disk.seen j.count ≡ records_of (told_entries j)
    → IfTold (is_some j.disk.seen) (IsLegal j.header (told_entries j)) → AtEnd (header_bytes j.header) j.place j.count j.disk.seen j.disk.images → j.disk.seen ≡ Some bytes → StandsFor bytes h before
    → (j.header ≡ h) × (told_entries j ≡ before)
opened_as j h before bytes header spelled legal ends is stood = go j.disk.seen spelled legal ends is
  where
    go : (told : Option (List ℕ)) → entries told j.count ≡ records_of (journal_in told j.count) → IfTold (is_some told) (IsLegal j.header (journal_in told j.count))
        → AtEnd (header_bytes j.header) j.place j.count told j.disk.images → told ≡ Some bytes → (j.header ≡ h) × (journal_in told j.count ≡ before)
    go None spelled legal ends is = absurd (cc (is))
    go (Some b) spelled legal ends is =
        one_journal b j.header h (journal_in (Some b) j.count) before (record { header = header; legal = legal; stands = subst (λ rs. Stands (header_bytes j.header) rs b) spelled ends.stands })
        (subst (λ x. StandsFor x h before) (sym (some_is b bytes is)) stood)
      where
        some_is : (x y : List ℕ) → Some x ≡ Some y → x ≡ y
        some_is x y e = cc (e)

-- ---- the store

pub counted : (told : Option (List ℕ)) (n : ℕ) → is_some told ≡ true → length (journal_in told n) ≡ n
counted None n is = absurd (cc (is))
counted (Some bytes) n is = length-map (entries (Some bytes) n) entry_of ∙ length-records n _

-- ---- the ingest

module _ {D : Type 0} {d : DiskGhosts D} where
  -- the entries of a journal that a store left are the store's
  pub left_entries : (store : StoreView D) (before after : Journal D d) → IsLeftBy store before after → told_entries (state_of after) ≡ journal_of (state_by d.state store)
  left_entries store before after left = ap₂ (λ (x : D) n. journal_in (d.state x).seen n) (sym left.disk) left.count

  -- and of one that is as it was they are as they were
  pub stayed_entries : (before after : Journal D d) → IsAsItWas before after → told_entries (state_of after) ≡ told_entries (state_of before)
  stayed_entries before after (inl same) = ap (λ (x : Journal D d). told_entries (state_of x)) same
  stayed_entries before after (inr stayed) = left_entries stayed.0 before after stayed.1.left_by ∙ stayed.1.entries

module _ {D : Type 0} {d : DiskGhosts D} (h : Header) (before : List JournalEntry) (names : List (List ℕ)) (j after : Journal D d) (law : IsLawful (d.state after.disk.now)) (named : HasNames h before names (state_of j)) where
  -- what a store left
  pub left_leaves : (store : StoreView D) → IsLeftBy store j after → (fresh : List JournalEntry) → journal_of (state_by d.state store) ≡ told_entries (state_of j) ++ fresh
      → LeavesJournal h before (before ++ (Files names ∷ fresh)) (d.state j.disk.now) (d.state after.disk.now)
  left_leaves store left fresh grown =
      let named_es = before ++ Files names ∷ [] in
      let es : told_entries (state_of j) ++ fresh ≡ before ++ (Files names ∷ fresh) = ap (λ l. l ++ fresh) named.entries ∙ append_assoc before (Files names ∷ []) fresh in
      behind (subst (λ l. LeavesEntries h named_es l (d.state j.disk.now) (d.state after.disk.now)) es
      (subst (λ l. LeavesEntries h l (told_entries (state_of j) ++ fresh) (d.state j.disk.now) (d.state after.disk.now)) named.entries
      (subst (λ x. LeavesEntries x (told_entries (state_of j)) (told_entries (state_of j) ++ fresh) (d.state j.disk.now) (d.state after.disk.now)) named.header (store_left j after law store left named.told fresh grown))))
    where
      behind : LeavesEntries h (before ++ Files names ∷ []) (before ++ (Files names ∷ fresh)) (d.state j.disk.now) (d.state after.disk.now) → LeavesJournal h before (before ++ (Files names ∷ fresh)) (d.state j.disk.now) (d.state after.disk.now)
      behind l = record {
        tail = l.tail;
        one = l.one;
        none = l.none;
        reads = l.reads;
        now = l.now;
        since = λ c left. between_later h before (before ++ Files names ∷ []) ((before ++ (Files names ∷ fresh)) ++ l.tail) c (Files names ∷ [], refl) (l.since c left);
      }

  -- nothing was added
  pub same_leaves : IsLawful (d.state j.disk.now) → ((c : List ℕ) → (d.state j.disk.now).images c → StandsFor c h (before ++ Files names ∷ [])) → IsAsItWas j after
      → LeavesJournal h before (before ++ Files names ∷ []) (d.state j.disk.now) (d.state after.disk.now)
  same_leaves law_j only (inl same) =
      subst (λ (x : Journal D d). LeavesJournal h before (before ++ Files names ∷ []) (d.state j.disk.now) (d.state x.disk.now)) (sym same)
      (record {
        tail = [];
        one = omega arith;
        none = λ steady. refl;
        reads = IfSome_then (d.state j.disk.now).seen law_j.reads_as (λ c image. inl (only c image));
        now = λ c image. inl (only c image);
        since = λ c left. (before ++ Files names ∷ [], (Files names ∷ [], refl), ([], refl), only c (law_j.only_now c left));
      })
  same_leaves law_j only (inr stayed) =
      left_leaves stayed.0 stayed.1.left_by [] (stayed.1.entries ∙ sym (append-nil (told_entries (state_of j))))
