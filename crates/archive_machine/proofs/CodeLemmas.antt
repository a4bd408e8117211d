-- What loops over texts, hands and journals find, and which messages have no row.
use Rattle.std.proofs.Common.{◌≡◌, ◌⊎◌, inl, inr, ℕ, zero, suc, ◌+◌, ◌<◌, ◌≤◌, List, [], ◌∷◌, ◌++◌, length, map, take, get_or, set, refl, sym, ◌∙◌, ap, subst, arith, length-append}
use Rattle.std.specs.Prelude.{Bool, true, false, ◌==◌, ◌||◌, if◌then◌else◌, Some, Err, IfOk, Ok, Result, IsErrOf, slice_get}
use Rattle.std.proofs.lemmas.Bool.{eqb-true, eq-eqb, ne_eqb}
use Rattle.std.proofs.lemmas.List.{append-nil, take_more}
use mathlib.Core.List.{IsPrefix}
use Rattle.logtype_text.specs.Laws.{OneListOfParts}
use Rattle.logtype_text.specs.declared.symbols.Kind.TheVariants.{Whole, Word, Decimal}
use Rattle.logtype_text.specs.Encoded.{word_texts}
use Rattle.logtype_text.specs.Parts.{Part, Constant, Variable, symbol_of}
use Rattle.logtype_text.specs.TypeText.{type_text}
use Rattle.column_store.specs.declared.row.Row.{Row}
use Rattle.row_codec.proofs.OneCutLemmas.{one_cut}
use Rattle.row_codec.specs.Means.{EachWord, HasWord, IsCanonical}
use Rattle.row_codec.specs.Naming.{AreNumbers, Known, MeetsLimit, MetLimit}
use Rattle.plain_list.specs.Texts.{IsNew}
use Rattle.row_codec.specs.declared.namer.NameRefusal.{NameRefusal}
use Rattle.row_codec.specs.declared.namer.NameRefusal.TheVariants.{Full}
use Rattle.archive_machine.proofs.HandLemmas.{taken_at}
use Rattle.row_codec.specs.declared.namer.Which.{Which}
use Rattle.row_codec.specs.declared.namer.Which.TheVariants.{Types as OfTypes, Words as OfWords}
use Rattle.archive_meaning.specs.declared.entry.JournalEntry.{JournalEntry}
use Rattle.archive_machine.specs.declared.state.Hand.{Hand}
use Rattle.archive_machine.specs.StepsHands.{IsFirstHand, IsNoHand}
use Rattle.archive_machine.specs.Machine.{count_of, is_closed, rows_of, with_rows}
use Rattle.archive_machine.proofs.HandLemmas.{closed_joined, count_joined}

-- ---- looking through a list

pub read_at : {A : Type 0} (xs : List A) (i : ℕ) (d : A) → i < length xs → slice_get xs i ≡ Some (get_or xs i d)
read_at [] i d low = absurd (omega (arith, low))
read_at (x ∷ xs) zero d low = refl
read_at (x ∷ xs) (suc i) d low = read_at xs i d (omega (arith, low))

pub none_more : {A : Type 0} (P : A → Type 0) (xs : List A) (i : ℕ) (d : A) → ((k : ℕ) (x : A) → k < i → slice_get xs k ≡ Some x → P x) → i < length xs → P (get_or xs i d)
    → (k : ℕ) (x : A) → k < i + 1 → slice_get xs k ≡ Some x → P x
none_more P xs i d before within here k x low at = elim (cases k i low) as (λ u. P x) [
  | inl less ↦ before k x less at
  | inr same ↦
      let found : Some (get_or xs i d) ≡ Some x = sym (read_at xs i d within) ∙ ap (λ n. slice_get xs n) (sym same) ∙ at in
      subst P (cc) here
] where
  cases : (k i : ℕ) → k < i + 1 → (k < i) ⊎ (k ≡ i)
  cases zero zero low = inr refl
  cases zero (suc i) low = inl (omega arith)
  cases (suc k) zero low = absurd (omega (arith, low))
  cases (suc k) (suc i) low = elim (cases k i (omega (arith, low))) as (λ u. (suc k < suc i) ⊎ (suc k ≡ suc i)) [ inl less ↦ inl (omega (arith, less)) | inr same ↦ inr (ap suc same) ]

within_of : {A : Type 0} (xs : List A) (k : ℕ) (x : A) → slice_get xs k ≡ Some x → k < length xs
within_of [] k x at = absurd (cc (at))
within_of (y ∷ xs) zero x at = omega arith
within_of (y ∷ xs) (suc k) x at = omega (arith, within_of xs k x at)

pub all_none : {A : Type 0} (P : A → Type 0) (xs : List A) (i : ℕ) → ((k : ℕ) (x : A) → k < i → slice_get xs k ≡ Some x → P x) → length xs ≤ i
    → (k : ℕ) (x : A) → slice_get xs k ≡ Some x → P x
all_none P xs i before all k x at = before k x (omega (arith, within_of xs k x at, all)) at

-- ---- hands

pub first_rows : (worker : ℕ) (hands : List Hand) (place : ℕ) (d : Hand) → IsFirstHand worker hands place → rows_of worker hands ≡ (get_or hands place d).rows
first_rows worker [] place d first = absurd (cc (first.here))
first_rows worker (hand ∷ hands) zero d first =
    let found : Some hand ≡ Some first.hand = first.here in
    let same : hand ≡ first.hand = cc in
    ap (λ b. if b then hand.rows else rows_of worker hands) (eq-eqb hand.worker worker (ap (λ (x : Hand). x.worker) same ∙ first.own))
first_rows worker (hand ∷ hands) (suc place) d first =
    ap (λ b. if b then hand.rows else rows_of worker hands) (ne_eqb hand.worker worker (first.none 0 hand (omega arith) refl))
    ∙ first_rows worker hands place d (record { hand = first.hand; here = first.here; own = first.own; none = λ k other low at. first.none (suc k) other (omega (arith, low)) at })

pub first_set : (worker : ℕ) (rows : List Row) (hands : List Hand) (place : ℕ) (d : Hand) → IsFirstHand worker hands place
    → with_rows worker rows hands ≡ set hands place (record (get_or hands place d) { rows = rows })
first_set worker rows [] place d first = absurd (cc (first.here))
first_set worker rows (hand ∷ hands) zero d first =
    let found : Some hand ≡ Some first.hand = first.here in
    let same : hand ≡ first.hand = cc in
    ap (λ b. if b then record { worker = hand.worker; rows = rows } ∷ hands else hand ∷ with_rows worker rows hands)
    (eq-eqb hand.worker worker (ap (λ (x : Hand). x.worker) same ∙ first.own))
first_set worker rows (hand ∷ hands) (suc place) d first =
    ap (λ b. if b then record { worker = hand.worker; rows = rows } ∷ hands else hand ∷ with_rows worker rows hands)
    (ne_eqb hand.worker worker (first.none 0 hand (omega arith) refl))
    ∙ ap (λ (l : List Hand). hand ∷ l)
    (first_set worker rows hands place d (record { hand = first.hand; here = first.here; own = first.own; none = λ k other low at. first.none (suc k) other (omega (arith, low)) at }))

pub no_rows : (worker : ℕ) (hands : List Hand) → IsNoHand worker hands → rows_of worker hands ≡ []
no_rows worker [] none = refl
no_rows worker (hand ∷ hands) none =
    ap (λ b. if b then hand.rows else rows_of worker hands) (ne_eqb hand.worker worker (none 0 hand refl)) ∙ no_rows worker hands (λ k other at. none (suc k) other at)

pub no_set : (worker : ℕ) (rows : List Row) (hands : List Hand) → IsNoHand worker hands → with_rows worker rows hands ≡ hands ++ record { worker = worker; rows = rows } ∷ []
no_set worker rows [] none = refl
no_set worker rows (hand ∷ hands) none =
    ap (λ b. if b then record { worker = hand.worker; rows = rows } ∷ hands else hand ∷ with_rows worker rows hands) (ne_eqb hand.worker worker (none 0 hand refl))
    ∙ ap (λ (l : List Hand). hand ∷ l) (no_set worker rows hands (λ k other at. none (suc k) other at))

pub first_put : (worker : ℕ) (rows : List Row) (hands : List Hand) (place : ℕ) (hand : Hand) → IsFirstHand worker hands place → hand ≡ get_or hands place hand
    → set hands place (record { worker = hand.worker; rows = rows }) ≡ with_rows worker rows hands
first_put worker rows hands place hand first same =
    ap (λ (h : Hand). set hands place (record { worker = h.worker; rows = rows })) same ∙ sym (first_set worker rows hands place hand first)

-- rows that are put into a hand twice are put there once
pub with_twice : (worker : ℕ) (a b : List Row) (hands : List Hand) → with_rows worker a (with_rows worker b hands) ≡ with_rows worker a hands
with_twice worker a b [] = ap (λ t. if t then record { worker = worker; rows = a } ∷ [] else record { worker = worker; rows = b } ∷ with_rows worker a []) (eq-eqb worker worker refl)
with_twice worker a b (hand ∷ hands) = by_test (with_twice worker a b hands) (hand.worker == worker) refl where
  by_test : with_rows worker a (with_rows worker b hands) ≡ with_rows worker a hands → (t : Bool) → hand.worker == worker ≡ t
      → with_rows worker a (with_rows worker b (hand ∷ hands)) ≡ with_rows worker a (hand ∷ hands)
  by_test rest true is =
      ap (λ t. with_rows worker a (if t then record { worker = hand.worker; rows = b } ∷ hands else hand ∷ with_rows worker b hands)) is
      ∙ ap (λ t. if t then record { worker = hand.worker; rows = a } ∷ hands else record { worker = hand.worker; rows = b } ∷ with_rows worker a hands) is
      ∙ sym (ap (λ t. if t then record { worker = hand.worker; rows = a } ∷ hands else hand ∷ with_rows worker a hands) is)
  by_test rest false is =
      ap (λ t. with_rows worker a (if t then record { worker = hand.worker; rows = b } ∷ hands else hand ∷ with_rows worker b hands)) is
      ∙ ap (λ (l : List Hand). if hand.worker == worker then record { worker = hand.worker; rows = a } ∷ with_rows worker b hands else hand ∷ l) rest
      ∙ ap (λ t. if t then record { worker = hand.worker; rows = a } ∷ with_rows worker b hands else hand ∷ with_rows worker a hands) is
      ∙ sym (ap (λ t. if t then record { worker = hand.worker; rows = a } ∷ hands else hand ∷ with_rows worker a hands) is)

-- a worker whose rows were set has a hand
pub has_hand : (worker : ℕ) (rows : List Row) (hands : List Hand) → IsNoHand worker (with_rows worker rows hands) → ⊥
has_hand worker rows [] none = none 0 (record { worker = worker; rows = rows }) refl refl
has_hand worker rows (hand ∷ hands) none = by_test (has_hand worker rows hands) (hand.worker == worker) refl where
  by_test : (IsNoHand worker (with_rows worker rows hands) → ⊥) → (t : Bool) → hand.worker == worker ≡ t → ⊥
  by_test rest true is =
      let head : IsNoHand worker (record { worker = hand.worker; rows = rows } ∷ hands) =
      subst (λ t. IsNoHand worker (if t then record { worker = hand.worker; rows = rows } ∷ hands else hand ∷ with_rows worker rows hands)) is none in
      head 0 (record { worker = hand.worker; rows = rows }) refl (eqb-true hand.worker worker is)
  by_test rest false is =
      let tail : IsNoHand worker (hand ∷ with_rows worker rows hands) =
      subst (λ t. IsNoHand worker (if t then record { worker = hand.worker; rows = rows } ∷ hands else hand ∷ with_rows worker rows hands)) is none in
      rest (λ k other at. tail (suc k) other at)

-- ---- journals

count_suc : (file : ℕ) (es : List JournalEntry) (i : ℕ) (e : JournalEntry) → i < length es → e ≡ get_or es i e → count_of file (take (suc i) es) ≡ count_of file (take i es) + count_of file (e ∷ [])
count_suc file [] i e within is = absurd (omega (arith, within))
count_suc file (x ∷ es) zero e within is = ap (λ (y : JournalEntry). count_of file (y ∷ [])) (sym is) ∙ omega arith
count_suc file (x ∷ es) (suc i) e within is =
    omega (
      arith,
      count_joined file (x ∷ []) (take (suc i) es),
      count_joined file (x ∷ []) (take i es),
      count_suc file es i e (omega (arith, within)) is,
    )

pub count_more : (file : ℕ) (es : List JournalEntry) (i : ℕ) (e : JournalEntry) → i < length es → e ≡ get_or es i e → count_of file (take (i + 1) es) ≡ count_of file (take i es) + count_of file (e ∷ [])
count_more file es i e within is = let step : i + 1 ≡ suc i = omega arith in ap (λ n. count_of file (take n es)) step ∙ count_suc file es i e within is

pub count_part : (file : ℕ) (es : List JournalEntry) (i : ℕ) → count_of file (take i es) ≤ count_of file es
count_part file [] zero = omega arith
count_part file [] (suc i) = omega arith
count_part file (x ∷ es) zero = omega arith
count_part file (x ∷ es) (suc i) = omega (arith, count_joined file (x ∷ []) (take i es), count_joined file (x ∷ []) es, count_part file es i)

or_true : (b : Bool) → b || true ≡ true
or_true true = refl
or_true false = refl

pub closed_at : (file : ℕ) (es : List JournalEntry) (i : ℕ) (e : JournalEntry) → i < length es → e ≡ get_or es i e → is_closed file (e ∷ []) ≡ true → is_closed file es ≡ true
closed_at file [] i e within is ends = absurd (omega (arith, within))
closed_at file (x ∷ es) zero e within is ends =
    closed_joined file (x ∷ []) es ∙ ap (λ b. b || is_closed file es) (ap (λ (y : JournalEntry). is_closed file (y ∷ [])) (sym is) ∙ ends)
closed_at file (x ∷ es) (suc i) e within is ends =
    closed_joined file (x ∷ []) es ∙ ap (λ b. is_closed file (x ∷ []) || b) (closed_at file es i e (omega (arith, within)) is ends) ∙ or_true (is_closed file (x ∷ []))

or_assoc : (a b c : Bool) → (a || b) || c ≡ a || (b || c)
or_assoc true b c = refl
or_assoc false b c = refl

closed_suc : (file : ℕ) (es : List JournalEntry) (i : ℕ) (e : JournalEntry) → i < length es → e ≡ get_or es i e → is_closed file (take (suc i) es) ≡ is_closed file (take i es) || is_closed file (e ∷ [])
closed_suc file [] i e within is = absurd (omega (arith, within))
closed_suc file (x ∷ es) zero e within is = ap (λ (y : JournalEntry). is_closed file (y ∷ [])) (sym is)
closed_suc file (x ∷ es) (suc i) e within is =
    closed_joined file (x ∷ []) (take (suc i) es)
    ∙ ap (λ b. is_closed file (x ∷ []) || b) (closed_suc file es i e (omega (arith, within)) is)
    ∙ sym (or_assoc (is_closed file (x ∷ [])) (is_closed file (take i es)) (is_closed file (e ∷ [])))
    ∙ ap (λ b. b || is_closed file (e ∷ [])) (sym (closed_joined file (x ∷ []) (take i es)))

pub closed_more : (file : ℕ) (es : List JournalEntry) (i : ℕ) (e : JournalEntry) → i < length es → e ≡ get_or es i e → is_closed file (take (i + 1) es) ≡ is_closed file (take i es) || is_closed file (e ∷ [])
closed_more file es i e within is = let step : i + 1 ≡ suc i = omega arith in ap (λ n. is_closed file (take n es)) step ∙ closed_suc file es i e within is

-- ---- messages without a row

pub same_texts : {A : Type 0} (xs ys : List A) → IsPrefix xs ys → length ys ≡ length xs → ys ≡ xs
same_texts xs ys front long = sym front.1 ∙ ap (λ l. xs ++ l) (none front.0 (omega (arith, ap length front.1, length-append xs front.0, long))) ∙ append-nil xs where
  none : {A : Type 0} (l : List A) → length l ≡ 0 → l ≡ []
  none [] is = refl
  none (x ∷ l) is = absurd (omega (arith, is))

-- the words of a row have numbers
has_number : (words : List (List ℕ)) (parts : List Part) (row : List ℕ) (at : ℕ) (text : List ℕ) → EachWord (HasWord words) parts row
    → slice_get (word_texts parts) at ≡ Some text → IsNew words text → ⊥
has_number words [] row at text has here new = absurd (cc (here))
has_number words (Constant b ∷ parts) row at text has here new = has_number words parts row at text has here new
has_number words (Variable kind t ∷ parts) [] at text has here new = absurd has
has_number words (Variable Whole t ∷ parts) (w ∷ row) at text has here new = has_number words parts row at text has.1 here new
has_number words (Variable Decimal t ∷ parts) (w ∷ row) at text has here new = has_number words parts row at text has.1 here new
has_number words (Variable Word t ∷ parts) (w ∷ row) zero text has here new = new w (has.0.1 ∙ here)
has_number words (Variable Word t ∷ parts) (w ∷ row) (suc at) text has here new = has_number words parts row at text has.1 here new

pub no_row : OneListOfParts → (version : ℕ) (message : List ℕ) (book : Which) (count : ℕ) (types words_before words : Known) (row : Row)
    → MeetsLimit version message book count types words_before words → IsCanonical version row types.texts words.texts message → ⊥
no_row one version message OfTypes count types words_before words row meets is =
    let same : is.means.parts ≡ meets.0 = one_cut one version message row types.texts words.texts meets.0 is meets.1 in
    first (type_text (map symbol_of meets.0)) meets.2.at meets.2.text meets.2.here
    (λ text at_first. meets.2.new row.log_type (is.means.typed ∙ ap (λ l. Some (type_text (map symbol_of l))) same ∙ at_first)) where
      first : (only : List ℕ) (at : ℕ) (text : List ℕ) → slice_get (only ∷ []) at ≡ Some text → ((t : List ℕ) → Some only ≡ Some text → ⊥) → ⊥
      first only zero text here no_text = no_text text here
      first only (suc at) text here no_text = absurd (cc (here))
no_row one version message OfWords count types words_before words row meets is =
    let same : is.means.parts ≡ meets.0 = one_cut one version message row types.texts words.texts meets.0 is meets.1 in
    has_number words.texts meets.0 row.words meets.3.at meets.3.text (subst (λ l. EachWord (HasWord words.texts) l row.words) same is.means.coded) meets.3.here meets.3.new

-- ---- dictionaries that are full

pub refusal_of : (a b : Which) (m n : ℕ) → IsErrOf (let x : Result ℕ NameRefusal = Err (Full a m) in x) (Full b n) → (b ≡ a) × (n ≡ m)
refusal_of a b m n is = (cc (is), cc (is))

abbrev pub full_at : List (List ℕ) → Known
full_at texts = record { texts = texts; added = []; limit = length texts }

numbered : (known : List (List ℕ)) (numbers : List ℕ) (texts : List (List ℕ)) → AreNumbers known numbers texts → (k : ℕ) (t : List ℕ) → slice_get texts k ≡ Some t → (number : ℕ) × (slice_get known number ≡ Some t)
numbered known [] [] are k t at = absurd (cc (at))
numbered known [] (x ∷ texts) are k t at = absurd are
numbered known (n ∷ numbers) [] are k t at = absurd are
numbered known (n ∷ numbers) (x ∷ texts) are zero t at = (n, are.0 ∙ at)
numbered known (n ∷ numbers) (x ∷ texts) are (suc k) t at = numbered known numbers texts are.1 k t at

pub limit_met : (known : List (List ℕ)) (numbers : List ℕ) (texts : List (List ℕ)) (i count : ℕ) → i < length texts → AreNumbers known numbers (take i texts) → IsNew known (get_or texts i [])
    → count ≡ length known → MetLimit (full_at known) texts count
limit_met known numbers texts i count low are fresh all = record {
  at = i;
  text = get_or texts i [];
  here = read_at texts i [] low;
  new = fresh;
  before = λ k t under at. numbered known numbers (take i texts) are k t (taken_at texts i k t under at);
  all = all;
  most = all;
}

numbers_push : (known : List (List ℕ)) (numbers : List ℕ) (texts : List (List ℕ)) (n : ℕ) (text : List ℕ) → AreNumbers known numbers texts → slice_get known n ≡ Some text → AreNumbers known (numbers ++ n ∷ []) (texts ++ text ∷ [])
numbers_push known [] [] n text are at = (at, tt)
numbers_push known [] (t ∷ texts) n text are at = absurd are
numbers_push known (m ∷ numbers) [] n text are at = absurd are
numbers_push known (m ∷ numbers) (t ∷ texts) n text are at = (are.0, numbers_push known numbers texts n text are.1 at)

pub numbers_more : (known : List (List ℕ)) (numbers : List ℕ) (texts : List (List ℕ)) (i n : ℕ) → i < length texts → AreNumbers known numbers (take i texts) → slice_get known n ≡ Some (get_or texts i [])
    → AreNumbers known (numbers ++ n ∷ []) (take (i + 1) texts)
numbers_more known numbers texts i n low are at =
    subst (λ l. AreNumbers known (numbers ++ n ∷ []) l) (sym (take_more texts i [] low)) (numbers_push known numbers (take i texts) n (get_or texts i []) are at)

-- ---- answers

pub ok_weaker : {T E : Type 0} (r : Result T E) (P Q : T → Type 0) → ((x : T) → P x → Q x) → IfOk r P → IfOk r Q
ok_weaker (Ok x) P Q f p = f x p
ok_weaker (Err e) P Q f p = p

pub any_default : (texts : List (List ℕ)) (i : ℕ) (item : List ℕ) → i < length texts → item ≡ get_or texts i item → item ≡ get_or texts i []
any_default [] i item low is = absurd (omega (arith, low))
any_default (t ∷ texts) zero item low is = is
any_default (t ∷ texts) (suc i) item low is = any_default texts i item (omega (arith, low)) is
