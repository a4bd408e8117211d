-- Parts that grow, and segments one behind the other.
use Rattle.std.proofs.Common.{◌≡◌, ◌⊎◌, inl, inr, ⊎_elim, ℕ, zero, suc, ◌+◌, ◌<◌, ◌≤◌, List, [], ◌∷◌, ◌++◌, false, length, refl, sym, ap, ap₂, ◌∙◌, subst, arith, append-nil, append_assoc, length-append, take_all}
use Rattle.std.proofs.lemmas.List.{take-append-le}
use Rattle.std.proofs.lemmas.List.Elements.{All-append}
use Rattle.turn_lock.specs.Words.{seen, own_list}
use Rattle.turn_lock.proofs.FrontLemmas.{prefix_trans, prefix_length}
use Rattle.column_store.specs.declared.row.Row.{Row}
use Rattle.column_store.specs.Columns.{IsFull}
use Rattle.archive_meaning.specs.declared.entry.SegmentEntry.{SegmentEntry}
use Rattle.archive_meaning.specs.declared.entry.JournalEntry.{JournalEntry}
use Rattle.archive_meaning.specs.declared.entry.JournalEntry.TheVariants.{Files, Types, Words, Segment}
use Rattle.disk_seal.specs.declared.entry.StoreEntry.{StoreEntry}
use Rattle.disk_seal.specs.Draft.{journal_seen}
use Rattle.disk_seal.specs.Fixed.{KeeperPass}
use Rattle.ingest_workers.specs.Journal.{HasAdded, entries_at, sealed_by, segments_in}
use Rattle.ingest_meaning.specs.Parts.{Part, IsCut, IsOpen, columns_of, front, messages_in, segments_from}
use Rattle.ingest_workers.proofs.JournalLemmas.{seen_joined}

-- ---- parts

all_front : (p : Part) → length p.rows ≡ length p.messages → columns_of (front (length p.messages) p) ≡ columns_of p
all_front p even =
    ap₂ (λ rows messages. columns_of (record { rows = rows; messages = messages })) (take_all (length p.messages) p.rows (omega (arith, even))) (take_all (length p.messages) p.messages (omega arith))

-- no segment is cut behind all that is open
pub open_all : (limit : ℕ) (p : Part) → IsOpen limit p → ¬ IsFull (columns_of p) limit
open_all limit p open_so full = open_so.not_yet (length p.messages) (omega arith) (subst (λ c. IsFull c limit) (sym (all_front p open_so.even)) full)

module _ (limit : ℕ) (p : Part) (row : Row) (message : List ℕ) (was : IsOpen limit p) where
  abbrev more : Part
  more = record { rows = p.rows ++ row ∷ []; messages = p.messages ++ message ∷ [] }

  long : length more.messages ≡ length p.messages + 1
  long = length-append p.messages (message ∷ [])

  even : length more.rows ≡ length more.messages
  even = omega (arith, length-append p.rows (row ∷ []), length-append p.messages (message ∷ []), was.even)

  same_front : (k : ℕ) → k ≤ length p.messages → columns_of (front k more) ≡ columns_of (front k p)
  same_front k le =
      ap₂ (λ rows messages. columns_of (record { rows = rows; messages = messages })) (take-append-le k p.rows (row ∷ []) (omega (arith, le, was.even))) (take-append-le k p.messages (message ∷ []) le)

  not_before : (k : ℕ) → k ≤ length p.messages → ¬ IsFull (columns_of (front k more)) limit
  not_before k le full = was.not_yet k le (subst (λ c. IsFull c limit) (same_front k le) full)

  pub open_more : ¬ IsFull (columns_of more) limit → IsOpen limit more
  open_more not_full = record {
    even = even;
    not_yet = λ k le full. by_place k le full (dite_le k (length p.messages));
  }
    where
      by_place : (k : ℕ) → k ≤ length more.messages → IsFull (columns_of (front k more)) limit → (k ≤ length p.messages) ⊎ (length p.messages < k) → ⊥
      by_place k le full (inl low) = not_before k low full
      by_place k le full (inr high) =
          let is : k ≡ length more.messages = omega (arith, le, high, long) in
          not_full (subst (λ c. IsFull c limit) (ap (λ n. columns_of (front n more)) is ∙ all_front more even) full)

      dite_le : (a b : ℕ) → (a ≤ b) ⊎ (b < a)
      dite_le zero b = inl (omega arith)
      dite_le (suc a) zero = inr (omega arith)
      dite_le (suc a) (suc b) = ⊎_elim (λ (x : a ≤ b). inl (omega (arith, x))) (λ (x : b < a). inr (omega (arith, x))) (dite_le a b)

  pub cut_more : IsFull (columns_of more) limit → IsCut limit more
  cut_more full = record { even = even; full = full; no_sooner = λ k lt. not_before k (omega (arith, lt, long)) }

pub messages_more : (ps : List Part) (p : Part) → messages_in (ps ++ p ∷ []) ≡ messages_in ps ++ p.messages
messages_more [] p = append-nil p.messages
messages_more (q ∷ ps) p = ap (λ l. q.messages ++ l) (messages_more ps p) ∙ sym (append_assoc q.messages (messages_in ps) p.messages)

abbrev pub segment_at : ℕ → ℕ → Part → SegmentEntry
segment_at file first p = record { file = file; first = first; last = false; ended = false; rows = p.rows }

pub segments_more : (file first : ℕ) (ps : List Part) (p : Part) → segments_from file first (ps ++ p ∷ []) ≡ segments_from file first ps ++ segment_at file (first + length (messages_in ps)) p ∷ []
segments_more file first [] p = let none : first ≡ first + 0 = omega arith in ap (λ n. segment_at file n p ∷ []) none
segments_more file first (q ∷ ps) p =
    let there : first + length q.messages + length (messages_in ps) ≡ first + length (q.messages ++ messages_in ps) = omega (arith, length-append q.messages (messages_in ps)) in
    ap (λ l. segment_at file first q ∷ l) (segments_more file (first + length q.messages) ps p ∙ ap (λ n. segments_from file (first + length q.messages) ps ++ segment_at file n p ∷ []) there)

-- ---- what a pass has added

entries_joined : (xs ys : List (ℕ × StoreEntry)) → entries_at (xs ++ ys) ≡ entries_at xs ++ entries_at ys
entries_joined [] ys = refl
entries_joined (x ∷ xs) ys = ap (λ l. x.1 ∷ l) (entries_joined xs ys)

segments_joined : (xs ys : List JournalEntry) → segments_in (xs ++ ys) ≡ segments_in xs ++ segments_in ys
segments_joined [] ys = refl
segments_joined (Files names ∷ xs) ys = segments_joined xs ys
segments_joined (Types first texts ∷ xs) ys = segments_joined xs ys
segments_joined (Words first texts ∷ xs) ys = segments_joined xs ys
segments_joined (Segment s ∷ xs) ys = ap (λ l. s ∷ l) (segments_joined xs ys)

pub sealed_joined : (xs ys : List (ℕ × StoreEntry)) → sealed_by (xs ++ ys) ≡ sealed_by xs ++ sealed_by ys
sealed_joined xs ys =
    ap (λ l. segments_in (journal_seen l)) (entries_joined xs ys)
    ∙ (ap segments_in (seen_joined (entries_at xs) (entries_at ys)) ∙ segments_joined (journal_seen (entries_at xs)) (journal_seen (entries_at ys)))

module _ {D : Type 0} where
  pub added_on : (s p q : KeeperPass D) (xs ys : List (ℕ × StoreEntry)) → HasAdded s p xs → HasAdded p q ys → HasAdded s q (xs ++ ys)
  added_on s p q xs ys a b = record {
    still = record { lock = b.still.lock ∙ a.still.lock; number = b.still.number ∙ a.still.number; about_is = b.still.about_is ∙ a.still.about_is };
    ready = b.ready;
    seen_on = prefix_trans (seen s) (seen p) (seen q) a.seen_on b.seen_on;
    own = b.own ∙ (ap (λ l. l ++ ys) a.own ∙ append_assoc (own_list s) xs ys);
    behind = All-append (λ (x : ℕ × StoreEntry). length (seen s) ≤ x.0) xs ys a.behind (λ k d lt. omega (arith, b.behind k d lt, prefix_length (seen s) (seen p) a.seen_on));
  }
