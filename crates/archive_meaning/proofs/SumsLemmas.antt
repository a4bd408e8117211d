-- The sums of files: with a segment more, with names more, and what a judge admits.
use Rattle.std.proofs.Common.{◌≡◌, ◌≢◌, ℕ, zero, suc, ◌+◌, ◌<◌, ◌≤◌, List, [], ◌∷◌, ◌++◌, length, get_or, set, replicate, refl, sym, ◌∙◌, ap, ap₂, arith, length-append}
use Rattle.std.specs.Prelude.{Bool, true, false, ◌==◌, ◌||◌, ◌&&◌, if◌then◌else◌}
use Rattle.std.proofs.lemmas.List.{append-nil, append_assoc}
use Rattle.std.proofs.lemmas.Bool.{eq-eqb, ne_eqb}
use Rattle.archive_meaning.specs.declared.sums.FileSum.{FileSum}
use Rattle.archive_meaning.specs.Held.{Piece, messages_of, is_whole, last_is_open}
use Rattle.archive_meaning.specs.Sums.{no_messages, open_after, sum_of, sums_from}

-- ---- a segment more

pub messages_joined : (file : ℕ) (ps qs : List Piece) → messages_of file (ps ++ qs) ≡ messages_of file ps ++ messages_of file qs
messages_joined file [] qs = refl
messages_joined file (p ∷ ps) qs =
    ap (λ l. (if p.file == file then p.messages else []) ++ l) (messages_joined file ps qs)
    ∙ sym (append_assoc (if p.file == file then p.messages else []) (messages_of file ps) (messages_of file qs))

or_assoc : (a b c : Bool) → (a || b) || c ≡ a || (b || c)
or_assoc true b c = refl
or_assoc false b c = refl

pub whole_joined : (file : ℕ) (ps qs : List Piece) → is_whole file (ps ++ qs) ≡ is_whole file ps || is_whole file qs
whole_joined file [] qs = refl
whole_joined file (p ∷ ps) qs =
    ap (λ b. (p.file == file && p.last) || b) (whole_joined file ps qs) ∙ sym (or_assoc (p.file == file && p.last) (is_whole file ps) (is_whole file qs))

own_messages : (p : Piece) (file : ℕ) → p.file ≡ file → messages_of file (p ∷ []) ≡ p.messages
own_messages p file same = ap (λ b. (if b then p.messages else []) ++ []) (eq-eqb p.file file same) ∙ append-nil p.messages

own_whole : (p : Piece) (file : ℕ) → p.file ≡ file → is_whole file (p ∷ []) ≡ p.last
own_whole p file same = ap (λ b. (b && p.last) || false) (eq-eqb p.file file same) ∙ or_false p.last where
  or_false : (b : Bool) → b || false ≡ b
  or_false true = refl
  or_false false = refl

other_messages : (p : Piece) (file : ℕ) → p.file ≢ file → messages_of file (p ∷ []) ≡ []
other_messages p file apart = ap (λ b. (if b then p.messages else []) ++ []) (ne_eqb p.file file apart)

other_whole : (p : Piece) (file : ℕ) → p.file ≢ file → is_whole file (p ∷ []) ≡ false
other_whole p file apart = ap (λ b. (b && p.last) || false) (ne_eqb p.file file apart)

last_behind : (ms ns : List (List ℕ)) (n : List ℕ) → last_is_open (ms ++ n ∷ ns) ≡ last_is_open (n ∷ ns)
last_behind [] ns n = refl
last_behind (m ∷ []) ns n = refl
last_behind (m ∷ k ∷ ms) ns n = last_behind (k ∷ ms) ns n

pub open_joined : (ms ns : List (List ℕ)) → last_is_open (ms ++ ns) ≡ open_after (last_is_open ms) ns
open_joined ms [] = ap last_is_open (append-nil ms)
open_joined ms (n ∷ ns) = last_behind ms ns n

same_sum : (k l : ℕ) (a b c d : Bool) → k ≡ l → a ≡ b → c ≡ d
    → (let x : FileSum = record { messages = k; whole = a; open_end = c } in x) ≡ record { messages = l; whole = b; open_end = d }
same_sum k l a b c d same_k same_a same_c = λ i. record { messages = same_k i; whole = same_a i; open_end = same_c i }

-- the sum of the segment's own file
pub own_sum : (p : Piece) (ps : List Piece) → is_whole p.file ps ≡ false
    → sum_of p.file (ps ++ p ∷ [])
    ≡ record { messages = length (messages_of p.file ps) + length p.messages; whole = p.last; open_end = open_after (last_is_open (messages_of p.file ps)) p.messages }
own_sum p ps goes_on =
    let joined : messages_of p.file (ps ++ p ∷ []) ≡ messages_of p.file ps ++ p.messages =
    messages_joined p.file ps (p ∷ []) ∙ ap (λ l. messages_of p.file ps ++ l) (own_messages p p.file refl) in
    same_sum _ _ _ _ _ _
    (ap length joined ∙ length-append (messages_of p.file ps) p.messages)
    (whole_joined p.file ps (p ∷ []) ∙ ap (λ b. b || is_whole p.file (p ∷ [])) goes_on ∙ own_whole p p.file refl)
    (ap last_is_open joined ∙ open_joined (messages_of p.file ps) p.messages)

or_false : (b : Bool) → b || false ≡ b
or_false true = refl
or_false false = refl

-- and of another file
other_sum : (p : Piece) (ps : List Piece) (file : ℕ) → p.file ≢ file → sum_of file (ps ++ p ∷ []) ≡ sum_of file ps
other_sum p ps file apart =
    let joined : messages_of file (ps ++ p ∷ []) ≡ messages_of file ps =
    messages_joined file ps (p ∷ []) ∙ ap (λ l. messages_of file ps ++ l) (other_messages p file apart) ∙ append-nil (messages_of file ps) in
    same_sum _ _ _ _ _ _
    (ap length joined)
    (whole_joined file ps (p ∷ []) ∙ ap (λ b. is_whole file ps || b) (other_whole p file apart) ∙ or_false (is_whole file ps))
    (ap last_is_open joined)

other_sums : (k : ℕ) (names : List (List ℕ)) (ps : List Piece) (p : Piece) → p.file < k → sums_from k names (ps ++ p ∷ []) ≡ sums_from k names ps
other_sums k [] ps p below = refl
other_sums k (name ∷ names) ps p below =
    ap₂ (λ (x : FileSum) (xs : List FileSum). x ∷ xs) (other_sum p ps k (λ e. omega (arith, e, below))) (other_sums (k + 1) names ps p (omega (arith, below)))

pub sums_set : (k : ℕ) (names : List (List ℕ)) (ps : List Piece) (p : Piece) (i : ℕ) → k + i ≡ p.file → i < length names
    → sums_from k names (ps ++ p ∷ []) ≡ set (sums_from k names ps) i (sum_of p.file (ps ++ p ∷ []))
sums_set k [] ps p i at within = absurd (omega (arith, within))
sums_set k (name ∷ names) ps p zero at within =
    let same : k ≡ p.file = omega (arith, at) in
    ap₂ (λ (x : FileSum) (xs : List FileSum). x ∷ xs) (ap (λ f. sum_of f (ps ++ p ∷ [])) same) (other_sums (k + 1) names ps p (omega (arith, at)))
sums_set k (name ∷ names) ps p (suc i) at within =
    ap₂ (λ (x : FileSum) (xs : List FileSum). x ∷ xs) (other_sum p ps k (λ e. omega (arith, e, at))) (sums_set (k + 1) names ps p i (omega (arith, at)) (omega (arith, within)))

pub sums_get : (k : ℕ) (names : List (List ℕ)) (ps : List Piece) (i : ℕ) → i < length names → get_or (sums_from k names ps) i no_messages ≡ sum_of (k + i) ps
sums_get k [] ps i within = absurd (omega (arith, within))
sums_get k (name ∷ names) ps zero within = let same : k ≡ k + 0 = omega arith in ap (λ f. sum_of f ps) same
sums_get k (name ∷ names) ps (suc i) within =
    let same : k + 1 + i ≡ k + suc i = omega arith in
    sums_get (k + 1) names ps i (omega (arith, within)) ∙ ap (λ f. sum_of f ps) same

pub length-sums : (k : ℕ) (names : List (List ℕ)) (ps : List Piece) → length (sums_from k names ps) ≡ length names
length-sums k [] ps = refl
length-sums k (name ∷ names) ps = ap suc (length-sums (k + 1) names ps)

-- ---- names more

sums_joined : (k : ℕ) (names more : List (List ℕ)) (ps : List Piece) → sums_from k (names ++ more) ps ≡ sums_from k names ps ++ sums_from (k + length names) more ps
sums_joined k [] more ps = let same : k ≡ k + 0 = omega arith in ap (λ l. sums_from l more ps) same
sums_joined k (name ∷ names) more ps =
    let same : k + 1 + length names ≡ k + suc (length names) = omega arith in
    ap (λ (xs : List FileSum). sum_of k ps ∷ xs) (sums_joined (k + 1) names more ps ∙ ap (λ l. sums_from (k + 1) names ps ++ sums_from l more ps) same)

-- the segments are of files below a number
abbrev pub AreBelow : ℕ → List Piece → Type 0
AreBelow count [] = Unit {0}
AreBelow count (p ∷ ps) = (p.file < count) × AreBelow count ps

none_here : (count file : ℕ) (ps : List Piece) → AreBelow count ps → count ≤ file → (messages_of file ps ≡ []) × (is_whole file ps ≡ false)
none_here count file [] below past = (refl, refl)
none_here count file (p ∷ ps) below past =
    let rest = none_here count file ps below.1 past in
    let test : p.file == file ≡ false = ne_eqb p.file file (λ e. omega (arith, e, below.0, past)) in (
      ap₂ (λ b l. (if b then p.messages else []) ++ l) test rest.0,
      ap₂ (λ b c. (b && p.last) || c) test rest.1,
    )

empty_sum : (count file : ℕ) (ps : List Piece) → AreBelow count ps → count ≤ file → sum_of file ps ≡ no_messages
empty_sum count file ps below past =
    let none = none_here count file ps below past in same_sum _ _ _ _ _ _ (ap length none.0) none.1 (ap last_is_open none.0)

empty_sums : (count k : ℕ) (more : List (List ℕ)) (ps : List Piece) → AreBelow count ps → count ≤ k → sums_from k more ps ≡ replicate (length more) no_messages
empty_sums count k [] ps below past = refl
empty_sums count k (name ∷ more) ps below past =
    ap₂ (λ (x : FileSum) (xs : List FileSum). x ∷ xs) (empty_sum count k ps below past) (empty_sums count (k + 1) more ps below (omega (arith, past)))

pub sums_named : (names more : List (List ℕ)) (ps : List Piece) → AreBelow (length names) ps
    → sums_from 0 (names ++ more) ps ≡ sums_from 0 names ps ++ replicate (length more) no_messages
sums_named names more ps below =
    sums_joined 0 names more ps ∙ ap (λ l. sums_from 0 names ps ++ l) (empty_sums (length names) (0 + length names) more ps below (omega arith))
