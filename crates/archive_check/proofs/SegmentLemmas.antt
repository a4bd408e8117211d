-- What a segment's payload begins with, and whose rows it holds.
use Rattle.std.proofs.Common.{◌≡◌, ◌≢◌, ℕ, ◌+◌, ◌≤◌, List, [], ◌++◌, length, take, sym, ◌∙◌, ap, subst, arith, length-append}
use Rattle.std.proofs.lemmas.List.{append_assoc, take_at}
use mathlib.Core.List.{IsPrefix}
use Rattle.column_store.specs.declared.row.Row.{Row}
use Rattle.segment_format.specs.declared.fixed.Fixed.{Fixed}
use Rattle.segment_format.specs.declared.head.Head.{Head}
use Rattle.segment_format.specs.Layout.{IsFixed, IsHead, columns_bytes, fixed_bytes, fixed_of, head_bytes, head_length, head_of}
use Rattle.segment_format.specs.Spelled.{HoldsRows}
use Rattle.segment_format.proofs.FixedLemmas.{length-fixed_bytes}
use Rattle.segment_format.proofs.HeadLemmas.{length-head_bytes}
use Rattle.segment_format.proofs.LawsLemmas.{heads_once, read_back, rows_once}
use Rattle.segment_format.proofs.UniqueLemmas.{fixed_once}
use Rattle.archive_check.specs.Taken.{HasParts, SpellsNoSegment}

-- the first 45 bytes of a payload that begins with a head are the head's fixed part
pub fixed_in : (payload rest : List ℕ) (h : Head) → payload ≡ head_bytes h ++ rest → take 45 payload ≡ fixed_bytes (fixed_of h)
fixed_in payload rest h is =
    ap (λ (l : List ℕ). take 45 l) (is ∙ append_assoc (fixed_bytes (fixed_of h)) _ rest) ∙ take_at (fixed_bytes (fixed_of h)) _ 45 (length-fixed_bytes (fixed_of h))

-- and as many as its fixed part says are the head
pub front_is : (payload rest fixed : List ℕ) (h : Head) (n : ℕ) → IsHead h → payload ≡ head_bytes h ++ rest → fixed ≡ take 45 payload
    → (f : Fixed) × IsFixed f × (fixed ≡ fixed_bytes f) × (n ≡ head_length f) → n ≡ length (head_bytes h)
front_is payload rest fixed h n is_head is read found =
    let same : found.0 ≡ fixed_of h = fixed_once found.0 (fixed_of h) found.1 is_head.fixed (sym found.2 ∙ read ∙ fixed_in payload rest h is) in
    found.3 ∙ ap head_length same ∙ sym (length-head_bytes h)

pub head_inside : (payload rest : List ℕ) (h : Head) → payload ≡ head_bytes h ++ rest → (45 ≤ length payload) × (length (head_bytes h) ≤ length payload)
head_inside payload rest h is =
    let all : length payload ≡ length (head_bytes h) + length rest = ap length is ∙ length-append (head_bytes h) rest in
    let long = length-head_bytes h in
    (omega (arith, all, long), omega (arith, all))

-- the parts of a segment that a payload is
pub parts_are : (payload front : List ℕ) (head : Head) (found : List Row) → IsHead head → front ≡ head_bytes head
    → ((h : Head) (rest : List ℕ) → IsHead h → payload ≡ head_bytes h ++ rest → front ≡ head_bytes h)
    → HoldsRows head payload found → HasParts payload head found
parts_are payload front head found is_head is begins holds file first last ended rows words fits spelled =
    let h : Head = head_of file first last ended rows words in
    let back = read_back file first last ended rows words fits.as_file fits.as_first fits.fit fits.count fits.variables fits.set in
    let here : front ≡ head_bytes h = begins h (columns_bytes rows) back.0 spelled in
    let same : head ≡ h = (heads_once head h [] [] is_head back.0 (ap (λ (l : List ℕ). l ++ []) (sym is ∙ here))).0 in
    let mine : HoldsRows h payload found = subst (λ (k : Head). HoldsRows k payload found) same holds in
    let theirs : HoldsRows h payload rows = subst (λ (l : List ℕ). HoldsRows h l rows) (sym spelled) back.1 in (
      ap (λ (k : Head). k.file) same,
      ap (λ (k : Head). k.first) same,
      ap (λ (k : Head). k.last) same,
      ap (λ (k : Head). k.ended) same,
      rows_once found rows mine.behind.fit theirs.behind.fit (mine.behind.count ∙ sym theirs.behind.count)
          (omega (arith, mine.behind.variables, fits.variables)) (omega (arith, fits.variables)) (sym mine.behind.spelled ∙ theirs.behind.spelled),
    )

-- a payload that begins with no head is that of no segment
pub no_head : (payload : List ℕ) → ((h : Head) (rest : List ℕ) → IsHead h → payload ≢ head_bytes h ++ rest) → SpellsNoSegment payload
no_head payload none file first last ended rows words fits spelled =
    let back = read_back file first last ended rows words fits.as_file fits.as_first fits.fit fits.count fits.variables fits.set in
    none (head_of file first last ended rows words) (columns_bytes rows) back.0 spelled

-- nor one whose front is no head
pub bad_head : (payload front : List ℕ) → ((h : Head) (rest : List ℕ) → IsHead h → payload ≡ head_bytes h ++ rest → front ≡ head_bytes h)
    → ((h : Head) → IsHead h → front ≢ head_bytes h) → SpellsNoSegment payload
bad_head payload front begins none file first last ended rows words fits spelled =
    let back = read_back file first last ended rows words fits.as_file fits.as_first fits.fit fits.count fits.variables fits.set in
    let h : Head = head_of file first last ended rows words in
    none h back.0 (begins h (columns_bytes rows) back.0 spelled)

-- nor one that holds no rows
pub bad_columns : (payload front : List ℕ) (head : Head) → IsHead head → front ≡ head_bytes head
    → ((h : Head) (rest : List ℕ) → IsHead h → payload ≡ head_bytes h ++ rest → front ≡ head_bytes h)
    → (IsPrefix (head_bytes head) payload → (list : List Row) → HoldsRows head payload list → ⊥) → SpellsNoSegment payload
bad_columns payload front head is_head is begins none file first last ended rows words fits spelled =
    let back = read_back file first last ended rows words fits.as_file fits.as_first fits.fit fits.count fits.variables fits.set in
    let h : Head = head_of file first last ended rows words in
    let here : front ≡ head_bytes h = begins h (columns_bytes rows) back.0 spelled in
    let same : head ≡ h = (heads_once head h [] [] is_head back.0 (ap (λ (l : List ℕ). l ++ []) (sym is ∙ here))).0 in
    let front_is_head : IsPrefix (head_bytes head) payload = subst (λ (k : Head). IsPrefix (head_bytes k) payload) (sym same) (columns_bytes rows, sym spelled) in
    none front_is_head rows (subst (λ (k : Head). HoldsRows k payload rows) (sym same) (subst (λ (l : List ℕ). HoldsRows h l rows) (sym spelled) back.1))

pub no_fixed : (payload rest fixed : List ℕ) (h : Head) → IsHead h → payload ≡ head_bytes h ++ rest → ((f : Fixed) → IsFixed f → fixed ≢ fixed_bytes f) → fixed ≡ take 45 payload → ⊥
no_fixed payload rest fixed h is_head is none read = none (fixed_of h) is_head.fixed (read ∙ fixed_in payload rest h is)
