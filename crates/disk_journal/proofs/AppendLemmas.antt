-- What the two writes of an append leave.
use Rattle.std.proofs.Common.{◌≡◌, inl, ℕ, ◌+◌, ◌-◌, ◌^◌, ◌<◌, ◌≤◌, List, [], ◌∷◌, ◌++◌, length, drop, Option, Some, None, refl, sym, ◌∙◌, ap, subst, arith, length-append}
use Rattle.std.specs.Prelude.{option_map}
use Rattle.std.proofs.lemmas.List.{append_assoc, drop-drop}
use Rattle.log_seams.specs.Disk.{DiskState, IsLawful, IsSynced, LeavesOnly, laid, Only}
use Rattle.log_seams.proofs.EventLemmas.{torn_laid}
use Rattle.log_seams.proofs.MomentLemmas.{joined, weaker}
use Rattle.record_format.specs.Header.{header_bytes}
use Rattle.disk_journal.specs.Record.{Saved, body, frame_of, spelled, saved_of, IsFrame, records}
use Rattle.disk_journal.specs.Place.{IsSettled, AtEnd, TornFrom, BeforeOrAfter, Added}
use Rattle.disk_journal.specs.State.{JournalState, IsAtEnd}
use Rattle.disk_journal.specs.Calls.{HasAdded}
use Rattle.disk_journal.proofs.SpellingLemmas.{longer, length-body, length-frame, spelled-push, laid_behind, laid_byte, stands_more, torn_behind, torn_gate, fit_push}
use Rattle.disk_journal.proofs.WalkLemmas.{settled_by}

first_image : (head : List ℕ) (place count n : ℕ) (told : Option (List ℕ)) (images : List ℕ → Type 0) (r : Saved) (c : List ℕ) → AtEnd head place count told images → TornFrom told (place + 1) n c → BeforeOrAfter head told count r c
first_image head place count n None images r c end torn = tt
first_image head place count n (Some bytes) images r c end torn = inl (torn_behind head (records count (drop 32 bytes)) bytes c place n end.stands end.at torn)

-- the bytes once the record stands behind the closed gate
written_behind : (head : List ℕ) (place count : ℕ) (bytes : List ℕ) (images : List ℕ → Type 0) (text : List ℕ) (end : IsSettled head place count images bytes) → IsFrame text
    → laid (place + 1) text bytes ≡ head ++ spelled (records count (drop 32 bytes)) ++ end.stands.gate ∷ (frame_of (saved_of text) ++ drop (place + 1 + length text) bytes)
written_behind head place count bytes images text end framed =
    let rs = records count (drop 32 bytes) in
    laid_behind (head ++ spelled rs) bytes end.stands.rest end.stands.gate place end.stands.spells end.at text
    ∙ ap (λ (l : List ℕ). head ++ spelled rs ++ end.stands.gate ∷ (l ++ drop (place + 1 + length text) bytes)) framed

second_image : (head : List ℕ) (place count : ℕ) (told next : Option (List ℕ)) (images : List ℕ → Type 0) (text c : List ℕ) → AtEnd head place count told images → IsFrame text → next ≡ option_map (laid (place + 1) text) told
    → TornFrom next place 1 c → BeforeOrAfter head told count (saved_of text) c
second_image head place count None next images text c end framed is torn = tt
second_image head place count (Some bytes) next images text c end framed is torn =
    torn_gate head (records count (drop 32 bytes)) (saved_of text) (laid (place + 1) text bytes) (drop (place + 1 + length text) bytes) c end.stands.gate place
    (written_behind head place count bytes images text end framed) end.at (subst (λ (t : Option (List ℕ)). TornFrom t place 1 c) is torn)

-- the bytes once the gate is open
opened_for : (head : List ℕ) (place count : ℕ) (bytes : List ℕ) (images final : List ℕ → Type 0) (text : List ℕ) → length text < 2 ^ 64 → IsSettled head place count images bytes → IsFrame text
    → ((c : List ℕ) → final c → c ≡ laid place (1 ∷ []) (laid (place + 1) text bytes))
    → IsSettled head (place + length text) (count + 1) final (laid place (1 ∷ []) (laid (place + 1) text bytes))
    × (records (count + 1) (drop 32 (laid place (1 ∷ []) (laid (place + 1) text bytes))) ≡ records count (drop 32 bytes) ++ saved_of text ∷ [])
opened_for head place count bytes images final text short end framed only =
    let rs = records count (drop 32 bytes) in
    let r = saved_of text in
    let after = drop (place + 1 + length text) bytes in
    let last = laid place (1 ∷ []) (laid (place + 1) text bytes) in
    let long : length text ≡ 10 + length r.payload = ap (λ (l : List ℕ). length l) framed ∙ length-frame r in
    let whole : last ≡ head ++ spelled rs ++ 1 ∷ (frame_of r ++ after) =
    laid_byte (head ++ spelled rs) (laid (place + 1) text bytes) (frame_of r ++ after) end.stands.gate place (written_behind head place count bytes images text end framed) end.at 1 in
    let stands = stands_more head rs r after last whole in
    let base : head ++ spelled rs ++ 1 ∷ body r ≡ head ++ spelled (rs ++ r ∷ []) =
    append_assoc head (spelled rs) (1 ∷ body r) ∙ ap (λ (l : List ℕ). head ++ l) (sym (spelled-push rs r)) in
    let size : length (head ++ spelled (rs ++ r ∷ [])) ≡ place + length text =
    ap (λ (l : List ℕ). length l) (sym base) ∙ omega (arith, end.at, long, length-append (head ++ spelled rs) (1 ∷ body r), length-body r) in
    settled_by head (rs ++ r ∷ []) (place + length text) (count + 1) last final end.header stands (sym size) (omega (arith, end.counted, length-append rs (r ∷ []))) (fit_push rs r end.fit (omega arith)) only

module _ (head : List ℕ) (place count : ℕ) (images final : List ℕ → Type 0) (text : List ℕ) (short : length text < 2 ^ 64) where
  appended : (told : Option (List ℕ)) → AtEnd head place count told images → IsFrame text → Only (option_map (laid place (1 ∷ [])) (option_map (laid (place + 1) text) told)) final
      → AtEnd head (place + length text) (count + 1) (option_map (laid place (1 ∷ [])) (option_map (laid (place + 1) text) told)) final
      × Added told count (saved_of text ∷ []) (option_map (laid place (1 ∷ [])) (option_map (laid (place + 1) text) told)) (count + 1)
  appended None end framed only = (tt, tt)
  appended (Some bytes) end framed only = opened_for head place count bytes images final text short end framed only

  appended_to : (told next last : Option (List ℕ)) → AtEnd head place count told images → IsFrame text → next ≡ option_map (laid (place + 1) text) told → last ≡ option_map (laid place (1 ∷ [])) next → Only last final
      → AtEnd head (place + length text) (count + 1) last final × Added told count (saved_of text ∷ []) last (count + 1)
  appended_to told next last end framed is_next is_last only =
      let is : last ≡ option_map (laid place (1 ∷ [])) (option_map (laid (place + 1) text) told) = is_last ∙ ap (λ (t : Option (List ℕ)). option_map (laid place (1 ∷ [])) t) is_next in
      subst (λ (t : Option (List ℕ)). AtEnd head (place + length text) (count + 1) t final × Added told count (saved_of text ∷ []) t (count + 1)) (sym is)
      (appended told end framed (subst (λ (t : Option (List ℕ)). Only t final) is only))

-- bytes that are the same from a place on are so from a later one on
behind_twice : (k m : ℕ) (a : Option (List ℕ)) → option_map (drop m) (option_map (drop k) a) ≡ option_map (drop (k + m)) a
behind_twice k m None = refl
behind_twice k m (Some bytes) = ap (λ (l : List ℕ). Some l) (drop-drop m k bytes)

pub same_behind : (k n : ℕ) (a b : Option (List ℕ)) → k ≤ n → option_map (drop k) a ≡ option_map (drop k) b → option_map (drop n) a ≡ option_map (drop n) b
same_behind k n a b le same =
    let is : k + (n - k) ≡ n = omega arith in
    ap (λ (i : ℕ). option_map (drop i) a) (sym is)
    ∙ sym (behind_twice k (n - k) a)
    ∙ ap (λ (t : Option (List ℕ)). option_map (drop (n - k)) t) same
    ∙ behind_twice k (n - k) b
    ∙ ap (λ (i : ℕ). option_map (drop i) b) is

-- dropping what was laid, and all before it, leaves the rest as it was
pub drop_laid : (at n : ℕ) (bytes old : List ℕ) → at ≤ length old → at + length bytes ≤ n → drop n (laid at bytes old) ≡ drop n old
drop_laid at n bytes old le past =
    let k = at + length bytes in
    let is : k + (n - k) ≡ n = omega arith in
    ap (λ (i : ℕ). drop i (laid at bytes old)) (sym is)
    ∙ sym (drop-drop (n - k) k (laid at bytes old))
    ∙ ap (λ (l : List ℕ). drop (n - k) l) (torn_laid at bytes old le).after
    ∙ drop-drop (n - k) k old
    ∙ ap (λ (i : ℕ). drop i old) is

-- what stood behind a record is not written
kept_behind : (head : List ℕ) (place count : ℕ) (text : List ℕ) (images : List ℕ → Type 0) (told : Option (List ℕ)) → AtEnd head place count told images
    → option_map (drop (place + 1 + length text)) (option_map (laid place (1 ∷ [])) (option_map (laid (place + 1) text) told)) ≡ option_map (drop (place + 1 + length text)) told
kept_behind head place count text images None end = refl
kept_behind head place count text images (Some bytes) end =
    let there : place < length bytes = longer _ bytes end.stands.rest end.stands.gate place end.stands.spells end.at in
    let long : length bytes ≤ length (laid (place + 1) text bytes) = (torn_laid (place + 1) text bytes (omega arith)).no_shorter in
    ap (λ (l : List ℕ). Some l)
    (drop_laid place (place + 1 + length text) (1 ∷ []) (laid (place + 1) text bytes) (omega arith) (omega arith)
    ∙ drop_laid (place + 1) (place + 1 + length text) text bytes (omega arith) (omega arith))

-- one record was appended, by a write behind the closed gate and one of the gate
pub record_added : (old : JournalState) (name : ℕ) (disk : DiskState) (mid : Option (List ℕ)) (text : List ℕ) → length text < 2 ^ 64 → IsAtEnd old → IsFrame text
    → mid ≡ option_map (laid (old.place + 1) text) old.disk.seen → disk.seen ≡ option_map (laid old.place (1 ∷ [])) mid → IsSynced disk
    → HasAdded (saved_of text ∷ []) (length text) old (record { name = name; disk = disk; header = old.header; place = old.place + length text; count = old.count + 1; closed = old.closed })
record_added old name disk mid text short end framed is_mid is_last synced =
    let both = appended_to (header_bytes old.header) old.place old.count old.disk.images disk.images text short old.disk.seen mid disk.seen end.ends framed is_mid is_last synced in
    let last : disk.seen ≡ option_map (laid old.place (1 ∷ [])) (option_map (laid (old.place + 1) text) old.disk.seen) =
    is_last ∙ ap (λ (t : Option (List ℕ)). option_map (laid old.place (1 ∷ [])) t) is_mid in
    record {
      ends = record { closed = end.closed; ends = both.0 };
      added = both.1;
      count = refl;
      place = refl;
      behind =
          ap (λ (t : Option (List ℕ)). option_map (drop (old.place + 1 + length text)) t) last
          ∙ kept_behind (header_bytes old.header) old.place old.count text old.disk.images old.disk.seen end.ends;
    }

-- what a crash leaves of the first write, and of both
module _ (old : JournalState) (mid : DiskState) (text : List ℕ) (end : IsAtEnd old) (first : LeavesOnly old.disk mid (TornFrom old.disk.seen (old.place + 1) (length text))) where
  abbrev Either : List ℕ → Type 0
  Either = BeforeOrAfter (header_bytes old.header) old.disk.seen old.count (saved_of text)

  before : (c : List ℕ) → TornFrom old.disk.seen (old.place + 1) (length text) c → Either c
  before c torn = first_image (header_bytes old.header) old.place old.count (length text) old.disk.seen old.disk.images (saved_of text) c end.ends torn

  pub one_write_leaves : LeavesOnly old.disk mid Either
  one_write_leaves = weaker old.disk mid (TornFrom old.disk.seen (old.place + 1) (length text)) Either first before

  pub two_writes_leave : (new : DiskState) → IsLawful new → IsFrame text → mid.seen ≡ option_map (laid (old.place + 1) text) old.disk.seen
      → LeavesOnly mid new (TornFrom mid.seen old.place 1) → LeavesOnly old.disk new Either
  two_writes_leave new law framed written second =
      joined old.disk mid new (TornFrom old.disk.seen (old.place + 1) (length text)) (TornFrom mid.seen old.place 1) Either law first second before
      (λ c torn. second_image (header_bytes old.header) old.place old.count old.disk.seen mid.seen old.disk.images text c end.ends framed written torn)
