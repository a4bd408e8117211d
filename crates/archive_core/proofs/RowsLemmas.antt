-- Rows and their messages, one by one.
use Rattle.std.proofs.Common.{◌≡◌, ℕ, zero, suc, ◌-◌, ◌≤◌, List, [], ◌∷◌, ◌++◌, Some, length, take, get_or, slice_get, refl, sym, ◌∙◌, ap, subst, arith}
use Rattle.std.specs.Prelude.{Bool, IfNone, IfSome, None, Option, nat_eq, not}
use Rattle.std.proofs.lemmas.List.Elements.{All-append, All-cons, All-head, All-nil, All-tail}
use Rattle.column_store.specs.declared.row.Row.{Row}
use Rattle.row_codec.specs.Means.{AreCanonical, IsCanonical}
use Rattle.row_codec.specs.Messages.{IsMessage}
use Rattle.archive_meaning.specs.Held.{ends_open, last_is_open}
use Rattle.archive_meaning.specs.Sums.{open_after}
use Rattle.archive_core.specs.Rows.{AreMessages, IsMessageOf}

-- a row and its message more
canonical_push : (version : ℕ) (types words : List (List ℕ)) (rows : List Row) (messages : List (List ℕ)) (r : Row) (m : List ℕ)
    → AreCanonical version rows types words messages → IsCanonical version r types words m → AreCanonical version (rows ++ r ∷ []) types words (messages ++ m ∷ [])
canonical_push version types words [] [] r m are is = (is, tt)
canonical_push version types words [] (n ∷ messages) r m are is = absurd are
canonical_push version types words (q ∷ rows) [] r m are is = absurd are
canonical_push version types words (q ∷ rows) (n ∷ messages) r m are is = (are.0, canonical_push version types words rows messages r m are.1 is)

last_open : (ms : List (List ℕ)) (m : List ℕ) → last_is_open (ms ++ m ∷ []) ≡ ends_open m
last_open [] m = refl
last_open (n ∷ []) m = refl
last_open (n ∷ k ∷ ms) m = last_open (k ∷ ms) m

open_push : (before : Bool) (ms : List (List ℕ)) (m : List ℕ) → open_after before (ms ++ m ∷ []) ≡ ends_open m
open_push before [] m = refl
open_push before (n ∷ ms) m = last_open (n ∷ ms) m

take_push : (rows : List Row) (i : ℕ) (r : Row) → slice_get rows i ≡ Some r → take (suc i) rows ≡ take i rows ++ r ∷ []
take_push [] i r at = cc
take_push (q ∷ rows) zero r at = let same : q ≡ r = cc (at) in ap (λ (x : Row). x ∷ []) same
take_push (q ∷ rows) (suc i) r at = ap (λ (l : List Row). q ∷ l) (take_push rows i r at)

-- the first rows are the encodings of messages, and so is the next
pub rows_more : (version : ℕ) (types words : List (List ℕ)) (rows : List Row) (i : ℕ) (r : Row) (before open_end next : Bool)
    → slice_get rows i ≡ Some r → ((messages : List (List ℕ)) × AreMessages version types words (take i rows) messages × (open_end ≡ open_after before messages))
    → ((m : List ℕ) × IsMessageOf version types words r m × (next ≡ ends_open m))
    → (messages : List (List ℕ)) × AreMessages version types words (take (suc i) rows) messages × (next ≡ open_after before messages)
rows_more version types words rows i r before open_end next at so_far here =
    let messages : List (List ℕ) = so_far.0 in
    let m : List ℕ = here.0 in (
      messages ++ m ∷ [],
      (
        subst (λ l. AreCanonical version l types words (messages ++ m ∷ [])) (sym (take_push rows i r at)) (canonical_push version types words (take i rows) messages r m so_far.1.0 here.1.0),
        All-append (IsMessage version) messages (m ∷ []) so_far.1.1 (All-cons (IsMessage version) m [] here.1.1 (All-nil (IsMessage version))),
      ),
      here.2 ∙ sym (open_push before messages m),
    )

-- a row of rows that are encodings of messages is the encoding of one
pub row_of_rows : (version : ℕ) (types words : List (List ℕ)) (rows : List Row) (messages : List (List ℕ)) (i : ℕ) (r : Row) → slice_get rows i ≡ Some r
    → AreMessages version types words rows messages → (m : List ℕ) × IsMessageOf version types words r m
row_of_rows version types words [] messages i r at are = absurd (cc (at))
row_of_rows version types words (q ∷ rows) [] i r at are = absurd are.0
row_of_rows version types words (q ∷ rows) (m ∷ messages) zero r at are =
    let same : q ≡ r = cc (at) in
    (m, (subst (λ x. IsCanonical version x types words m) same are.0.0, All-head (IsMessage version) m messages are.1))
row_of_rows version types words (q ∷ rows) (m ∷ messages) (suc i) r at are =
    row_of_rows version types words rows messages i r at (are.0.1, All-tail (IsMessage version) m messages are.1)

pub no_rows : (version : ℕ) (types words : List (List ℕ)) (before : Bool) → (messages : List (List ℕ)) × AreMessages version types words [] messages × (before ≡ open_after before messages)
no_rows version types words before = ([], (tt, All-nil (IsMessage version)), refl)

pub at_none : {A : Type 0} (o : Option A) (P : Type 0) → IfNone o P → o ≡ None → P
at_none None P h is = h
at_none (Some x) P h is = absurd (cc (is))

pub at_some : {A : Type 0} (o : Option A) (P : A → Type 0) (x : A) → IfSome o P → o ≡ Some x → P x
at_some None P x h is = absurd (cc (is))
at_some (Some y) P x h is = let same : y ≡ x = cc (is) in subst P same h

-- the last byte tells whether bytes end open
pub ends_last : (bytes : List ℕ) → 1 ≤ length bytes → not (nat_eq (get_or bytes (length bytes - 1) 0) 10) ≡ ends_open bytes
ends_last [] some = absurd (omega (arith, some))
ends_last (b ∷ []) some = refl
ends_last (b ∷ c ∷ bytes) some =
    let place : length (b ∷ c ∷ bytes) - 1 ≡ suc (length (c ∷ bytes) - 1) = omega arith in
    ap (λ k. not (nat_eq (get_or (b ∷ c ∷ bytes) k 0) 10)) place ∙ ends_last (c ∷ bytes) (omega arith)
