-- What a segment's payload begins with, and whose rows it holds.
use Rattle.std.proofs.Common.{◌≡◌, ◌≢◌, ℕ, ◌+◌, ◌≤◌, List, ◌++◌, length, take, sym, ◌∙◌, ap, subst, arith, length-append}
use Rattle.std.proofs.lemmas.List.{append_assoc, take_at}
use mathlib.Core.List.{IsPrefix}
use Rattle.std.specs.List.{flat_map}
use Rattle.column_store.specs.declared.row.Row.{Row}
use Rattle.row_codec.specs.Numbers.{numbers_of_row}
use Rattle.segment_format.specs.declared.fixed.Fixed.{Fixed}
use Rattle.segment_format.specs.declared.head.Head.{Head}
use Rattle.segment_format.specs.Layout.{IsFixed, IsHead, fixed_bytes, fixed_of, head_bytes, head_length}
use Rattle.segment_format.specs.Spelled.{HoldsRows}
use Rattle.segment_format.proofs.FixedLemmas.{length-fixed_bytes}
use Rattle.segment_format.proofs.HeadLemmas.{length-head_bytes}
use Rattle.segment_format.proofs.LawsLemmas.{read_back, rows_once}
use Rattle.segment_format.proofs.SetLemmas.{rise_of, up_sorted_set}
use Rattle.segment_format.proofs.UniqueLemmas.{fixed_once}
use Rattle.archive_meaning.specs.declared.entry.SegmentEntry.{SegmentEntry}
use Rattle.archive_meaning.specs.Spelled.{words_named}
use Rattle.archive_open.specs.Shown.{head_in}
use Rattle.archive_open.specs.StepsNext.{HasHead}
use Rattle.archive_open.proofs.NextLemmas.{one_head, own_head}
use Rattle.live_search.specs.Part.{HoldsNoPart, HoldsPart, IsPayloadOf}

-- ---- the head

-- the first 45 bytes of a payload that begins with a head are the head's fixed part
fixed_in : (payload : List ℕ) (h : Head) → HasHead h payload → take 45 payload ≡ fixed_bytes (fixed_of h)
fixed_in payload h has =
    ap (λ (l : List ℕ). take 45 l) (has.spells ∙ append_assoc (fixed_bytes (fixed_of h)) _ has.rest) ∙ take_at (fixed_bytes (fixed_of h)) _ 45 (length-fixed_bytes (fixed_of h))

-- and as many as its fixed part says are the head
pub front_is : (payload fixed : List ℕ) (h : Head) (n : ℕ) → HasHead h payload → fixed ≡ take 45 payload
    → (f : Fixed) × IsFixed f × (fixed ≡ fixed_bytes f) × (n ≡ head_length f) → n ≡ length (head_bytes h)
front_is payload fixed h n has read found =
    let same : found.0 ≡ fixed_of h = fixed_once found.0 (fixed_of h) found.1 has.fits.fixed (sym found.2 ∙ read ∙ fixed_in payload h has) in
    found.3 ∙ ap head_length same ∙ sym (length-head_bytes h)

pub head_inside : (payload : List ℕ) (h : Head) → HasHead h payload → (45 ≤ length payload) × (length (head_bytes h) ≤ length payload)
head_inside payload h has =
    let all : length payload ≡ length (head_bytes h) + length has.rest = ap length has.spells ∙ length-append (head_bytes h) has.rest in
    let long = length-head_bytes h in
    (omega (arith, all, long), omega (arith, all))

pub no_fixed : (payload fixed : List ℕ) (h : Head) → HasHead h payload → ((f : Fixed) → IsFixed f → fixed ≢ fixed_bytes f) → fixed ≡ take 45 payload → ⊥
no_fixed payload fixed h has none read = none (fixed_of h) has.fits.fixed (read ∙ fixed_in payload h has)

-- ---- the rows

-- a segment's payload holds its rows
own_rows : (types : List (List ℕ)) (s : SegmentEntry) (payload : List ℕ) → IsPayloadOf types s payload → HoldsRows (head_in types s) payload s.rows
own_rows types s payload of =
    let form = of.form in
    subst (λ (l : List ℕ). HoldsRows (head_in types s) l s.rows) (sym of.is)
    (read_back s.file s.first s.last s.ended s.rows (words_named types s.rows) form.file_fits form.first_fits form.rows_fit form.few_rows form.few_variables (record {
      rise = rise_of 0 (words_named types s.rows) (up_sorted_set (flat_map (numbers_of_row types) s.rows));
      fit = form.words_fit;
      count = form.few_words;
    })).1

begins_here : (payload front : List ℕ) (head : Head) → IsHead head → front ≡ head_bytes head → IsPrefix front payload → HasHead head payload
begins_here payload front head is_head is begins = record { fits = is_head; rest = begins.0; spells = sym begins.1 ∙ ap (λ (l : List ℕ). l ++ begins.0) is }

same_head : (types : List (List ℕ)) (s : SegmentEntry) (payload : List ℕ) (head : Head) → IsPayloadOf types s payload → HasHead head payload → head ≡ head_in types s
same_head types s payload head of has = one_head types s payload head of.form of.is has

pub part_held : (payload front : List ℕ) (head : Head) (rows : List Row) → IsHead head → front ≡ head_bytes head → IsPrefix front payload → HoldsRows head payload rows → HoldsPart payload head rows
part_held payload front head rows is_head is begins holds =
    let has = begins_here payload front head is_head is begins in
    record {
      begins = has;
      count = holds.behind.count;
      head_is = λ types s of. same_head types s payload head of has;
      rows_are = λ types s of.
          let mine : HoldsRows (head_in types s) payload rows = subst (λ (k : Head). HoldsRows k payload rows) (same_head types s payload head of has) holds in
          let theirs = own_rows types s payload of in
          rows_once rows s.rows mine.behind.fit theirs.behind.fit (mine.behind.count ∙ sym theirs.behind.count)
          (omega (arith, mine.behind.variables, of.form.few_variables)) (omega (arith, of.form.few_variables)) (sym mine.behind.spelled ∙ theirs.behind.spelled);
    }

-- ---- no segment

pub no_front : (payload : List ℕ) → ((h : Head) → ¬ HasHead h payload) → HoldsNoPart payload
no_front payload none types s of = none (head_in types s) (own_head types s payload of.form of.is)

pub bad_head : (payload front : List ℕ) → ((h : Head) → HasHead h payload → front ≡ head_bytes h) → ((h : Head) → IsHead h → front ≢ head_bytes h) → HoldsNoPart payload
bad_head payload front begins none types s of =
    let has = own_head types s payload of.form of.is in none (head_in types s) has.fits (begins (head_in types s) has)

pub bad_columns : (payload front : List ℕ) (head : Head) → IsHead head → front ≡ head_bytes head → IsPrefix front payload
    → (IsPrefix (head_bytes head) payload → (list : List Row) → HoldsRows head payload list → ⊥) → HoldsNoPart payload
bad_columns payload front head is_head is begins none types s of =
    let same = same_head types s payload head of (begins_here payload front head is_head is begins) in
    none (subst (λ (l : List ℕ). IsPrefix l payload) is begins) s.rows (subst (λ (k : Head). HoldsRows k payload s.rows) (sym same) (own_rows types s payload of))
