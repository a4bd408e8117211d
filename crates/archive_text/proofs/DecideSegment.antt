-- Whether bytes hold a segment at a place, and of which rows, can be told.
use Rattle.std.proofs.Common.{◌≡◌, sym, ap, ap₂, subst, ◌∙◌, ◌+◌, ◌^◌, ◌<◌, ◌≤◌, inl, inr, ⊎_elim, ℕ, zero, suc, List, [], ◌∷◌, ◌++◌, length, take, drop, take-append-drop, length-append, length-drop, length-take-le, arith, FitsSigned, w64}
use Rattle.std.specs.Prelude.{ℤ, pos, negsuc, All, bytes_eq, slice_index}
use Rattle.std.specs.List.Sorted.{IsStrictlyIncreasing}
use Rattle.std.proofs.lemmas.Bool.{cases_Bool, cases_eq, cases_lt}
use Rattle.std.proofs.lemmas.List.Elements.{All-cons, All-head, All-nil, All-tail}
use Rattle.std.proofs.lemmas.Slice.Eq.{bytes_eq-Decides}
use Rattle.column_store.specs.declared.row.Row.{Row}
use Rattle.column_store.specs.Row.{IsRow, variable_count}
use Rattle.segment_format.specs.declared.fixed.Fixed.{Fixed}
use Rattle.segment_format.specs.declared.head.Head.{Head}
use Rattle.segment_format.specs.Layout.{IsFixed, IsHead, IsNumberSet, columns_bytes, fixed_of, head_length}
use Rattle.segment_format.specs.Spelled.{AreColumnsIn, HoldsRows}
use Rattle.segment_pages.specs.Paged.{HoldsSegment, StandsAt}
use Rattle.archive_meaning.specs.Back.{rows_in}
use Rattle.archive_meaning.proofs.BackLemmas.{columns_back}
use Rattle.archive_text.specs.OneText.{text_there}
use Rattle.archive_text.proofs.DecideStamp.{Decided}

-- ---- words of tests

both : {P Q R : Type 0} → Decided P → Decided Q → (P → Q → R) → (R → P) → (R → Q) → Decided R
both (inl p) (inl q) make first second = inl (make p q)
both (inl p) (inr none) make first second = inr (λ r. none (second r))
both (inr none) q make first second = inr (λ r. none (first r))

pair : {P Q : Type 0} → Decided P → Decided Q → Decided (P × Q)
pair (inl p) (inl q) = inl (p, q)
pair (inl p) (inr none) = inr (λ r. none r.1)
pair (inr none) q = inr (λ r. none r.0)

below : (m n : ℕ) → Decided (m < n)
below m n = ⊎_elim (λ lt. inl lt) (λ ge. inr (λ lt. absurd (omega (arith, lt, ge)))) (cases_lt m n)

at_most : (m n : ℕ) → Decided (m ≤ n)
at_most m n = ⊎_elim (λ gt. inr (λ le. absurd (omega (arith, gt, le)))) (λ le. inl le) (cases_lt n m)

same_bytes : (xs ys : List ℕ) → Decided (xs ≡ ys)
same_bytes xs ys = ⊎_elim (λ is. inl ((bytes_eq-Decides xs ys).0 is)) (λ other. inr (λ e. absurd (cc ((bytes_eq-Decides xs ys).1 e, other)))) (cases_Bool (bytes_eq xs ys))

each : {X : Type 0} (P : X → Type 0) → ((x : X) → Decided (P x)) → (xs : List X) → Decided (All P xs)
each P test [] = inl (All-nil P)
each P test (x ∷ xs) = both (test x) (each P test xs) (λ one others. All-cons P x xs one others) (λ all. All-head P x xs all) (λ all. All-tail P x xs all)

signed_fits : (z : ℤ) → Decided (FitsSigned w64 z)
signed_fits (pos n) = ⊎_elim (λ lt. inl (record { sfits = omega (arith, lt) })) (λ ge. inr (λ fits. absurd (omega (arith, fits.sfits, ge)))) (cases_lt n (2 ^ 63))
signed_fits (negsuc n) = ⊎_elim (λ lt. inl (record { sfits = omega (arith, lt) })) (λ ge. inr (λ fits. absurd (omega (arith, fits.sfits, ge)))) (cases_lt n (2 ^ 63))

rises : (ns : List ℕ) → Decided (IsStrictlyIncreasing ns)
rises [] = inl (λ k within. absurd (omega (arith, within)))
rises (x ∷ []) = inl (λ k within. absurd (omega (arith, within)))
rises (x ∷ y ∷ ns) = both (below x y) (rises (y ∷ ns)) make (λ all. all 0 (omega arith)) others
  where
    others : IsStrictlyIncreasing (x ∷ y ∷ ns) → IsStrictlyIncreasing (y ∷ ns)
    others all k within =
        let next : suc k + 1 ≡ suc (k + 1) = omega arith in
        subst (λ n. slice_index (x ∷ y ∷ ns) (suc k) < slice_index (x ∷ y ∷ ns) n) next (all (suc k) (omega (arith, within)))

    make : x < y → IsStrictlyIncreasing (y ∷ ns) → IsStrictlyIncreasing (x ∷ y ∷ ns)
    make lt rest zero within = lt
    make lt rest (suc k) within =
        let next : suc k + 1 ≡ suc (k + 1) = omega arith in
        subst (λ n. slice_index (x ∷ y ∷ ns) (suc k) < slice_index (x ∷ y ∷ ns) n) (sym next) (rest k (omega (arith, within)))

-- ---- heads and rows

number_set : (ns : List ℕ) → Decided (IsNumberSet ns)
number_set ns =
    both (rises ns) (pair (each (λ n. n < 2 ^ 32) (λ n. below n (2 ^ 32)) ns) (below (length ns) (2 ^ 32)))
    (λ r t. record { rise = r; fit = t.0; count = t.1 }) (λ s. s.rise) (λ s. (s.fit, s.count))

fixed_part : (f : Fixed) → Decided (IsFixed f)
fixed_part f =
    both (pair (below f.file (2 ^ 32)) (below f.first (2 ^ 64)))
    (pair (pair (below f.rows (2 ^ 32)) (pair (signed_fits f.least) (signed_fits f.greatest)))
    (pair (below f.types (2 ^ 32)) (pair (below f.words (2 ^ 32)) (below f.variables (2 ^ 32)))))
    (λ a b. record { file = a.0; first = a.1; rows = b.0.0; least = b.0.1.0; greatest = b.0.1.1; types = b.1.0; words = b.1.1.0; variables = b.1.1.1 })
    (λ is. (is.file, is.first)) (λ is. ((is.rows, (is.least, is.greatest)), (is.types, (is.words, is.variables))))

dec_head : (h : Head) → Decided (IsHead h)
dec_head h =
    both (fixed_part (fixed_of h)) (pair (number_set h.types) (number_set h.words))
    (λ f s. record { fixed = f; types = s.0; words = s.1 }) (λ is. is.fixed) (λ is. (is.types, is.words))

dec_row : (r : Row) → Decided (IsRow r)
dec_row r =
    both (pair (below r.pattern (2 ^ 8)) (signed_fits r.moment)) (pair (below r.log_type (2 ^ 32)) (each (λ w. w < 2 ^ 64) (λ w. below w (2 ^ 64)) r.words))
    (λ a b. record { pattern = a.0; moment = a.1; log_type = b.0; words = b.1 }) (λ is. (is.pattern, is.moment)) (λ is. (is.log_type, is.words))

-- of which rows bytes can be the columns
dec_columns_of : (bytes : List ℕ) (n v : ℕ) (rows : List Row) → Decided (AreColumnsIn bytes n v rows)
dec_columns_of bytes n v rows =
    both (pair (each IsRow dec_row rows) (cases_eq (length rows) n)) (pair (cases_eq (variable_count rows) v) (same_bytes bytes (columns_bytes rows)))
    (λ a b. record { fit = a.0; count = a.1; variables = b.0; spelled = b.1 }) (λ is. (is.fit, is.count)) (λ is. (is.variables, is.spelled))

columns_in : (bytes : List ℕ) (n v : ℕ) (rows : List Row) → v < 2 ^ 32 → AreColumnsIn bytes n v rows → rows ≡ rows_in n v bytes
columns_in bytes n v rows few is =
    sym (columns_back rows is.fit (subst (λ k. k < 2 ^ 32) (sym is.variables) few))
    ∙ ap (λ l. rows_in (length rows) (variable_count rows) l) (sym is.spelled)
    ∙ ap₂ (λ (k m : ℕ). rows_in k m bytes) is.count is.variables

dec_held : (head : Head) (payload : List ℕ) → head.variables < 2 ^ 32 → Decided ((rows : List Row) × HoldsRows head payload rows)
dec_held head payload few =
    let size = head_length (fixed_of head) in
    let columns = drop size payload in
    let rows = rows_in head.rows head.variables columns in
    both (at_most size (length payload)) (dec_columns_of columns head.rows head.variables rows)
    (λ front is. (rows, record { front = front; behind = is }))
    (λ has. has.1.front)
    (λ has. subst (λ l. AreColumnsIn columns head.rows head.variables l) (columns_in columns head.rows head.variables has.0 few has.1.behind) has.1.behind)

-- ---- a segment at a place

abbrev Holds : ℕ → ℕ → Head → List ℕ → Type 0
Holds at size head bytes = (rows : List Row) × HoldsSegment at size head bytes rows

stands_there : (at size : ℕ) (bytes : List ℕ) → at + size ≤ length bytes → StandsAt at (take size (drop at bytes)) bytes
stands_there at size bytes within = record {
  front = take at bytes;
  behind = drop size (drop at bytes);
  spells = sym (take-append-drop at bytes) ∙ ap (λ l. take at bytes ++ l) (sym (take-append-drop size (drop at bytes)));
  place = length-take-le at bytes (omega (arith, within));
}

stands_within : (at size : ℕ) (text bytes : List ℕ) → StandsAt at text bytes → length text ≡ size → at + size ≤ length bytes
stands_within at size text bytes stands sized =
    omega (arith, ap length stands.spells, length-append stands.front (text ++ stands.behind), length-append text stands.behind, stands.place, sized)

pub dec_segment : (at size : ℕ) (head : Head) (bytes : List ℕ) → Decided (Holds at size head bytes)
dec_segment at size head bytes = ⊎_elim good (λ none. inr (λ has. none has.1.is_head)) (dec_head head)
  where
    good : IsHead head → Decided (Holds at size head bytes)
    good is = both (pair (at_most (at + size) (length bytes)) (below (at + size) (2 ^ 64))) (dec_held head (take size (drop at bytes)) is.fixed.variables)
        (λ place held. (
          held.0,
          record {
            is_head = is;
            payload = take size (drop at bytes);
            stands = stands_there at size bytes place.0;
            sized = length-take-le size (drop at bytes) (omega (arith, place.0, length-drop at bytes));
            small = place.1;
            holds = held.1;
          },
        ))
        (λ has. (stands_within at size has.1.payload bytes has.1.stands has.1.sized, has.1.small))
        (λ has. (has.0, subst (λ p. HoldsRows head p has.0) (text_there at size has.1.payload bytes has.1.stands has.1.sized) has.1.holds))
