-- The segments of a file, among segments in the order of files.
use Rattle.std.proofs.Common.{◌≡◌, refl, sym, ap, ap₂, ◌∙◌, ◌+◌, ◌^◌, ◌<◌, ◌≤◌, ℕ, zero, suc, Bool, true, false, cond, ltb, leb, List, [], ◌∷◌, ◌++◌, length, take, drop, get_or, take-append-drop, arith}
use Rattle.std.specs.Prelude.{All}
use Rattle.std.specs.List.{AllWithin, filter}
use Rattle.std.specs.List.Sorted.{IsNonDecreasingBy, IsPartitionPoint}
use Rattle.std.proofs.lemmas.Bool.{eq-eqb, leb-false, leb-true, ltb-false, ltb-true, ne_eqb}
use Rattle.std.proofs.lemmas.List.{append-nil}
use Rattle.std.proofs.lemmas.List.Elements.{All-cons, All-head, All-nil, All-tail, filter-append}
use Rattle.std.proofs.lemmas.List.Sorted.{All-permutation}
use Rattle.record_format.specs.declared.header.Header.{Header}
use Rattle.archive_meaning.specs.declared.entry.JournalEntry.{JournalEntry}
use Rattle.archive_meaning.specs.declared.entry.JournalEntry.TheVariants.{Files, Segment, Types, Words}
use Rattle.archive_meaning.specs.Spelled.{record_of, types_in}
use Rattle.archive_meaning.specs.Stands.{StandsFor}
use Rattle.archive_meaning.specs.StepsForms.{HaveForms}
use Rattle.archive_meaning.proofs.UniqueLemmas.{legal_forms}
use Rattle.archive_open.specs.Shown.{IsArchiveOf, Shown, order_of, places_from}
use Rattle.archive_open.specs.declared.segments.SegmentPlace.{SegmentPlace}
use Rattle.archive_open.specs.OfFile.{is_of}

module _ {X : Type 0} (p : X → Bool) where
  passes_none : (xs : List X) → All (λ x. p x ≡ false) xs → filter p xs ≡ []
  passes_none [] none = refl
  passes_none (x ∷ xs) none = ap (λ b. cond b (x ∷ filter p xs) (filter p xs)) (All-head (λ x. p x ≡ false) x xs none) ∙ passes_none xs (All-tail (λ x. p x ≡ false) x xs none)

  passes_all : (xs : List X) → All (λ x. p x ≡ true) xs → filter p xs ≡ xs
  passes_all [] all = refl
  passes_all (x ∷ xs) all = ap (λ b. cond b (x ∷ filter p xs) (filter p xs)) (All-head (λ x. p x ≡ true) x xs all) ∙ ap (λ l. x ∷ l) (passes_all xs (All-tail (λ x. p x ≡ true) x xs all))

-- those that pass are a run
run_of : {X : Type 0} (p : X → Bool) (before run after : List X) → All (λ x. p x ≡ false) before → All (λ x. p x ≡ true) run → All (λ x. p x ≡ false) after → filter p (before ++ (run ++ after)) ≡ run
run_of p before run after none all past =
    filter-append p before (run ++ after)
    ∙ (ap₂ (λ a b. a ++ b) (passes_none p before none) (filter-append p run after)
    ∙ (ap₂ (λ a b. a ++ b) (passes_all p run all) (passes_none p after past) ∙ append-nil run))

-- what holds up to a place and from it on
all_before : {X : Type 0} (P Q : X → Type 0) (xs : List X) (i : ℕ) → i ≤ length xs → ((x : X) → P x → Q x) → AllWithin P xs 0 i → All Q (take i xs)
all_before P Q xs zero within f all = All-nil Q
all_before P Q [] (suc i) within f all = All-nil Q
all_before P Q (x ∷ xs) (suc i) within f all =
    All-cons Q x (take i xs) (f x (all 0 x (omega arith) (omega arith)))
    (all_before P Q xs i (omega (arith, within)) f (λ k d low high. all (suc k) d (omega arith) (omega (arith, high))))

all_behind : {X : Type 0} (P Q : X → Type 0) (xs : List X) (i : ℕ) → ((x : X) → P x → Q x) → AllWithin P xs i (length xs) → All Q (drop i xs)
all_behind P Q [] zero f all = All-nil Q
all_behind P Q [] (suc i) f all = All-nil Q
all_behind P Q (x ∷ xs) zero f all = λ k d below. f (get_or (x ∷ xs) k d) (all k d (omega arith) below)
all_behind P Q (x ∷ xs) (suc i) f all = all_behind P Q xs i f (λ k d low high. all (suc k) d (omega (arith, low)) (omega (arith, high)))

-- both tests hold
all_both : {X : Type 0} (P Q R : X → Type 0) (xs : List X) → ((x : X) → P x → Q x → R x) → All P xs → All Q xs → All R xs
all_both P Q R xs f a b = λ k d below. f (get_or xs k d) (a k d below) (b k d below)

abbrev below : ℕ → SegmentPlace → Bool
below number p = ltb p.head.file number

abbrev upto : ℕ → SegmentPlace → Bool
upto number p = leb p.head.file number

other_below : (number : ℕ) (p : SegmentPlace) → below number p ≡ true → is_of number p ≡ false
other_below number p is = ne_eqb p.head.file number (λ same. omega (arith, ltb-true p.head.file number is, same))

other_past : (number : ℕ) (p : SegmentPlace) → upto number p ≡ false → is_of number p ≡ false
other_past number p is = ne_eqb p.head.file number (λ same. omega (arith, leb-false p.head.file number is, same))

own_between : (number : ℕ) (p : SegmentPlace) → below number p ≡ false → upto number p ≡ true → is_of number p ≡ true
own_between number p low high = eq-eqb p.head.file number (omega (arith, ltb-false p.head.file number low, leb-true p.head.file number high))

-- two searches find the run
pub found_run : (number first count : ℕ) (all : List SegmentPlace) → first ≤ length all → count ≤ length (drop first all)
    → IsPartitionPoint (λ p. below number p ≡ true) (λ p. below number p ≡ false) all first
    → IsPartitionPoint (λ p. upto number p ≡ true) (λ p. upto number p ≡ false) (drop first all) count
    → take count (drop first all) ≡ filter (is_of number) all
found_run number first count all within most low high =
    let behind = drop first all in
    let none = all_before (λ p. below number p ≡ true) (λ p. is_of number p ≡ false) all first within (other_below number) low.0 in
    let past = all_behind (λ p. upto number p ≡ false) (λ p. is_of number p ≡ false) behind count (other_past number) high.1 in
    let least = all_behind (λ p. below number p ≡ false) (λ p. below number p ≡ false) all first (λ p is. is) low.1 in
    let own = all_both (λ p. below number p ≡ false) (λ p. upto number p ≡ true) (λ p. is_of number p ≡ true) (take count behind) (own_between number)
    (all_front count behind least) (all_before (λ p. upto number p ≡ true) (λ p. upto number p ≡ true) behind count most (λ p is. is) high.0) in
    sym (run_of (is_of number) (take first all) (take count behind) (drop count behind) none own past)
    ∙ ap (filter (is_of number)) (ap (λ l. take first all ++ l) (take-append-drop count behind) ∙ take-append-drop first all)
  where
    all_front : (n : ℕ) (xs : List SegmentPlace) → All (λ p. below number p ≡ false) xs → All (λ p. below number p ≡ false) (take n xs)
    all_front zero xs each = All-nil (λ p. below number p ≡ false)
    all_front (suc n) [] each = All-nil (λ p. below number p ≡ false)
    all_front (suc n) (x ∷ xs) each =
        All-cons (λ p. below number p ≡ false) x (take n xs) (All-head (λ p. below number p ≡ false) x xs each) (all_front n xs (All-tail (λ p. below number p ≡ false) x xs each))

-- ---- the order of an archive's segments

abbrev file_of : SegmentPlace → ℕ
file_of p = p.head.file

abbrev HasFirst : SegmentPlace → Type 0
HasFirst p = p.head.first < 2 ^ 64

firsts_fit : (at : ℕ) (types : List (List ℕ)) (es : List JournalEntry) → HaveForms types es → All HasFirst (places_from at types es)
firsts_fit at types [] forms = All-nil HasFirst
firsts_fit at types (Files names ∷ es) forms = firsts_fit (at + 10 + length (record_of types (Files names)).payload) (types ++ types_in (Files names)) es forms.2
firsts_fit at types (Types first texts ∷ es) forms = firsts_fit (at + 10 + length (record_of types (Types first texts)).payload) (types ++ types_in (Types first texts)) es forms.2
firsts_fit at types (Words first texts ∷ es) forms = firsts_fit (at + 10 + length (record_of types (Words first texts)).payload) (types ++ types_in (Words first texts)) es forms.2
firsts_fit at types (Segment s ∷ es) forms = All-cons HasFirst _ _ forms.0.first_fits (firsts_fit (at + 10 + length (record_of types (Segment s)).payload) (types ++ types_in (Segment s)) es forms.2)

-- by file and first message is by file
by_file : (places : List SegmentPlace) → IsNonDecreasingBy order_of places → All HasFirst places → IsNonDecreasingBy file_of places
by_file places sorted fit i j d low high = omega (arith, sorted i j d low high, fit j d high)

pub files_rise : (a : Shown) (bytes : List ℕ) (h : Header) (es : List JournalEntry) (stood : StandsFor bytes h es) → IsArchiveOf a h es stood.legal.held → IsNonDecreasingBy file_of a.segments
files_rise a bytes h es stood is = by_file a.segments is.sorted (All-permutation HasFirst _ _ is.segments (firsts_fit 32 [] es (legal_forms h es stood.header stood.legal)))
