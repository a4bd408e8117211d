-- What a writer of rows gathers on its way.
use Rattle.std.proofs.Common.{◌≡◌, ◌<◌, ◌≤◌, ℕ, zero, suc, ◌+◌, ◌*◌, ◌^◌, ℤ, pos, List, [], ◌∷◌, ◌++◌, Bool, true, false, not, cond, nat_eq, if◌then◌else◌, length, map, take, get_or, filter, refl, sym, ap, ◌∙◌, arith, length-append}
use Rattle.std.specs.List.{flat_map}
use Rattle.std.specs.Ordering.{int_cmp, ord_min, ord_max}
use Rattle.std.proofs.lemmas.List.{length-map, map_more, flat_map_more, map-append, append-nil}
use Rattle.std.proofs.lemmas.List.Elements.{filter_more}
use Rattle.std.proofs.lemmas.List.Sums.{fold_push, sum_by-cons}
use Rattle.record_format.specs.Lists.{four_bytes}
use Rattle.column_store.specs.declared.row.Row.{Row}
use Rattle.column_store.specs.Row.{variable_count}
use Rattle.column_store.specs.Columns.{ends_from}
use Rattle.segment_format.proofs.UniqueLemmas.{length_column}
use Rattle.segment_format.specs.declared.fixed.Fixed.{Fixed}
use Rattle.segment_format.specs.declared.head.Head.{Head}
use Rattle.segment_format.specs.Layout.{stamped_moments, has_any, least_of, greatest_of, fixed_bytes, fixed_of, head_bytes, columns_bytes}
use Rattle.record_format.proofs.ListLemmas.{length-four_bytes}
use Rattle.segment_format.proofs.FixedLemmas.{put_before, length-fixed_bytes}

-- ---- what was appended

pub grown : {X : Type 0} (n : ℕ) (spell : X → List ℕ) → ((x : X) → length (spell x) ≡ n) → (o now : List ℕ) (xs : List X) → now ≡ o ++ flat_map spell xs
    → length now ≡ length o + n * length xs
grown n spell long o now xs e = ap (λ (l : List ℕ). length l) e ∙ omega (arith, length-append o (flat_map spell xs), length_column n spell long xs)

pub no_row : Row
no_row = record { pattern = 0; moment = pos 0; log_type = 0; words = [] }

-- ---- counts

pub length-ends : (s : ℕ) (rows : List Row) → length (ends_from s rows) ≡ length rows
length-ends s [] = refl
length-ends s (r ∷ rows) = ap (λ (n : ℕ). suc n) (length-ends (s + length r.words) rows)

pub ends_at : (s : ℕ) (rows : List Row) (k : ℕ) (d : Row) → k < length rows
    → get_or (ends_from s rows) k 0 ≡ (s + variable_count (take k rows)) + length (get_or rows k d).words
ends_at s [] k d lt = absurd (omega (arith, lt))
ends_at s (r ∷ rows) zero d lt = omega arith
ends_at s (r ∷ rows) (suc k) d lt =
    ends_at (s + length r.words) rows k d (omega (arith, lt)) ∙ omega (arith, sum_by-cons (λ r. length r.words) r (take k rows))

pub count_put : (o : List ℕ) (rows : List Row) (i n : ℕ) (d : Row) → i < length rows → n ≡ length (get_or rows i d).words
    → (o ++ flat_map four_bytes (map (λ r. length r.words) (take i rows))) ++ four_bytes n ≡ o ++ flat_map four_bytes (map (λ r. length r.words) (take (i + 1) rows))
count_put o rows i n d lt is =
    let f : Row → ℕ = λ r. length r.words in
    ap (λ (k : ℕ). (o ++ flat_map four_bytes (map f (take i rows))) ++ four_bytes k) is
    ∙ flat_map_more four_bytes o (map f (take i rows)) (f (get_or rows i d))
    ∙ ap (λ (l : List ℕ). o ++ flat_map four_bytes l) (sym (map_more f rows i d lt))

-- ---- moments

kept : (b : Bool) (rows : List Row) (i : ℕ) (d : Row) → i < length rows → not (nat_eq (get_or rows i d).pattern 0) ≡ b
    → stamped_moments (take (i + 1) rows) ≡ stamped_moments (take i rows) ++ cond b ((get_or rows i d).moment ∷ []) []
kept b rows i d lt is =
    let p : Row → Bool = λ r. not (nat_eq r.pattern 0) in
    let m : Row → ℤ = λ r. r.moment in
    let one : (c : Bool) → map m (cond c (get_or rows i d ∷ []) []) ≡ cond c ((get_or rows i d).moment ∷ []) [] = λ c. elim c as (λ k. map m (cond k (get_or rows i d ∷ []) []) ≡ cond k ((get_or rows i d).moment ∷ []) []) [ true ↦ refl | false ↦ refl ] in
    ap (map m) (filter_more p rows i d lt) ∙ map-append m (filter p (take i rows)) (cond (p (get_or rows i d)) (get_or rows i d ∷ []) [])
    ∙ ap (λ (l : List ℤ). map m (filter p (take i rows)) ++ l) (one (p (get_or rows i d)) ∙ ap (λ (c : Bool). cond c ((get_or rows i d).moment ∷ []) []) is)

pub stamp_more : (rows : List Row) (i : ℕ) (d : Row) → i < length rows → nat_eq (get_or rows i d).pattern 0 ≡ false
    → stamped_moments (take (i + 1) rows) ≡ stamped_moments (take i rows) ++ (get_or rows i d).moment ∷ []
stamp_more rows i d lt is = kept true rows i d lt (ap not is)

pub stamp_none : (rows : List Row) (i : ℕ) (d : Row) → i < length rows → nat_eq (get_or rows i d).pattern 0 ≡ true
    → stamped_moments (take (i + 1) rows) ≡ stamped_moments (take i rows)
stamp_none rows i d lt is = kept false rows i d lt (ap not is) ∙ append-nil (stamped_moments (take i rows))

pub any_push : (ms : List ℤ) (m : ℤ) → has_any (ms ++ m ∷ []) ≡ true
any_push [] m = refl
any_push (x ∷ ms) m = refl

pub least_push : (ms : List ℤ) (m : ℤ) → least_of (ms ++ m ∷ []) ≡ (if has_any ms then ord_min int_cmp (least_of ms) m else m)
least_push [] m = refl
least_push (x ∷ ms) m = fold_push (ord_min int_cmp) x ms m

pub greatest_push : (ms : List ℤ) (m : ℤ) → greatest_of (ms ++ m ∷ []) ≡ (if has_any ms then ord_max int_cmp (greatest_of ms) m else m)
greatest_push [] m = refl
greatest_push (x ∷ ms) m = fold_push (ord_max int_cmp) x ms m

-- ---- the whole segment

pub wrote_segment : (h : Head) (f : Fixed) (rows : List Row) (o0 o1 o2 o3 o4 types words : List ℕ) → o0 ≡ [] → o1 ≡ o0 ++ fixed_bytes f → o2 ≡ o1 ++ flat_map four_bytes types
    → o3 ≡ o2 ++ flat_map four_bytes words → o4 ≡ o3 ++ columns_bytes rows → f ≡ fixed_of h → types ≡ h.types → words ≡ h.words → o4 ≡ head_bytes h ++ columns_bytes rows
wrote_segment h f rows o0 o1 o2 o3 o4 types words e0 e1 e2 e3 e4 is is_types is_words =
    let lists : o3 ≡ o1 ++ (flat_map four_bytes types ++ flat_map four_bytes words) = put_before o1 (flat_map four_bytes types) (flat_map four_bytes words) e2 e3 in
    let fixed : o1 ≡ fixed_bytes (fixed_of h) = e1 ∙ ap (λ (l : List ℕ). l ++ fixed_bytes f) e0 ∙ ap fixed_bytes is in
    let head : o3 ≡ head_bytes h = lists ∙ (λ i. fixed i ++ (flat_map four_bytes (is_types i) ++ flat_map four_bytes (is_words i))) in
    e4 ∙ ap (λ (l : List ℕ). l ++ columns_bytes rows) head

pub few_types : (rows : List Row) (types set : List ℕ) → types ≡ map (λ r. r.log_type) rows → length set ≤ length types → length rows < 2 ^ 32 → length set < 2 ^ 32
few_types rows types set is le few =
    omega (arith, le, few, ap (λ (l : List ℕ). length l) is, length-map rows (λ (r : Row). r.log_type))

pub fixed_grown : (f : Fixed) (o now : List ℕ) → now ≡ o ++ fixed_bytes f → length now ≡ length o + 45
fixed_grown f o now e = ap (λ (l : List ℕ). length l) e ∙ omega (arith, length-append o (fixed_bytes f), length-fixed_bytes f)

pub list_grown : (o now ns : List ℕ) → now ≡ o ++ flat_map four_bytes ns → length now ≡ length o + 4 * length ns
list_grown o now ns e = grown 4 four_bytes length-four_bytes o now ns e
