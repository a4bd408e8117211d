-- Lists of texts and their bytes: what is read is spelled so, and what is spelled so is read.
use Rattle.std.proofs.Common.{◌≡◌, ◌≢◌, ℕ, suc, ◌+◌, ◌*◌, ◌^◌, ◌<◌, ◌≤◌, List, [], ◌∷◌, ◌++◌, length, get_or, take, drop, All, refl, sym, ap, subst, ◌∙◌, append_assoc, arith, length-append}
use Rattle.std.specs.List.{flat_map}
use Rattle.std.proofs.lemmas.List.{take_more, append-nil, take_at, drop_at, nil_from_length}
use Rattle.std.proofs.lemmas.List.Concat.{flat_map-cons}
use Rattle.std.proofs.lemmas.List.Elements.{All-nil, All-cons, All-append}
use Rattle.std.proofs.lemmas.Grind.{flat_map-append}
use Rattle.byteorder.specs.Endian.{little_number}
use Rattle.byteorder.specs.Numbers.{little_number-reads_back, length-bytes_low_first}
use Rattle.record_format.specs.Lists.{four_bytes, text_bytes, list_bytes, texts_payload, AreTexts}
use Rattle.record_format.proofs.NumberLemmas.{IsBytes, number_in_front}

-- ---- numbers

pub length-four_bytes : (n : ℕ) → length (four_bytes n) ≡ 4
unfolding four_bytes
length-four_bytes n = length-bytes_low_first 0 4 n

number_of_four_bytes : (n : ℕ) (rest : List ℕ) → n < 2 ^ 32 → little_number 4 (four_bytes n ++ rest) ≡ n
unfolding four_bytes
number_of_four_bytes n rest lt = little_number-reads_back 4 n rest lt

-- two spellings with something after them begin alike only where the numbers are the same
pub same_number : (m n : ℕ) (x y : List ℕ) → m < 2 ^ 32 → n < 2 ^ 32 → four_bytes m ++ x ≡ four_bytes n ++ y → (m ≡ n) × (x ≡ y)
same_number m n x y lt_m lt_n e =
    let same : m ≡ n = sym (number_of_four_bytes m x lt_m) ∙ ap (little_number 4) e ∙ number_of_four_bytes n y lt_n in
    let rest : drop 4 (four_bytes m ++ x) ≡ drop 4 (four_bytes n ++ y) = ap (λ (l : List ℕ). drop 4 l) e in
    (same, sym (drop_at (four_bytes m) x 4 (length-four_bytes m)) ∙ rest ∙ drop_at (four_bytes n) y 4 (length-four_bytes n))

-- what stands in front is the spelling of the number that it reads as
pub four_bytes_in_front : (bytes : List ℕ) → IsBytes bytes → 4 ≤ length bytes → bytes ≡ four_bytes (little_number 4 bytes) ++ drop 4 bytes
unfolding four_bytes
four_bytes_in_front bytes fits long = number_in_front 4 bytes fits long

-- ---- texts

pub same_text : (t u x y : List ℕ) → length t < 2 ^ 32 → length u < 2 ^ 32 → text_bytes t ++ x ≡ text_bytes u ++ y → (t ≡ u) × (x ≡ y)
same_text t u x y fits_t fits_u e =
    let apart : four_bytes (length t) ++ (t ++ x) ≡ four_bytes (length u) ++ (u ++ y) = sym (append_assoc (four_bytes (length t)) t x) ∙ e ∙ append_assoc (four_bytes (length u)) u y in
    let found = same_number (length t) (length u) (t ++ x) (u ++ y) fits_t fits_u apart in
    let fronts : take (length t) (t ++ x) ≡ take (length t) (u ++ y) = ap (λ (l : List ℕ). take (length t) l) found.1 in
    let backs : drop (length t) (t ++ x) ≡ drop (length t) (u ++ y) = ap (λ (l : List ℕ). drop (length t) l) found.1 in (
      sym (take_at t x (length t) refl) ∙ fronts ∙ take_at u y (length t) (sym found.0),
      sym (drop_at t x (length t) refl) ∙ backs ∙ drop_at u y (length t) (sym found.0),
    )

length-text_bytes : (t : List ℕ) → 4 ≤ length (text_bytes t)
length-text_bytes t = omega (arith, length-append (four_bytes (length t)) t, length-four_bytes (length t))

-- each text takes four bytes at least
pub length-texts : (texts : List (List ℕ)) → 4 * length texts ≤ length (flat_map text_bytes texts)
length-texts [] = omega arith
length-texts (t ∷ texts) =
    let ih = length-texts texts in
    let one = length-text_bytes t in
    rw (flat_map-cons text_bytes t texts) (omega (arith, length-append (text_bytes t) (flat_map text_bytes texts), ih, one))

head_fits : (t : List ℕ) (texts : List (List ℕ)) → All (λ text. length text < 2 ^ 32) (t ∷ texts) → length t < 2 ^ 32
head_fits t texts fits = fits 0 t (omega arith)

tail_fits : (t : List ℕ) (texts : List (List ℕ)) → All (λ text. length text < 2 ^ 32) (t ∷ texts) → All (λ text. length text < 2 ^ 32) texts
tail_fits t texts fits = λ k d lt. fits (suc k) d (omega arith)

-- texts at the front are the first of those that the whole spells
pub front_of : (texts all : List (List ℕ)) (rest : List ℕ) → All (λ text. length text < 2 ^ 32) texts → All (λ text. length text < 2 ^ 32) all → length texts ≤ length all
    → flat_map text_bytes texts ++ rest ≡ flat_map text_bytes all → (others : List (List ℕ)) × (all ≡ texts ++ others) × (rest ≡ flat_map text_bytes others)
front_of [] all rest fits fits_all le e = (all, refl, e)
front_of (t ∷ texts) [] rest fits fits_all le e = absurd (omega (arith, le))
front_of (t ∷ texts) (u ∷ all) rest fits fits_all le e =
    let apart : text_bytes t ++ (flat_map text_bytes texts ++ rest) ≡ text_bytes u ++ flat_map text_bytes all =
    sym (append_assoc (text_bytes t) (flat_map text_bytes texts) rest) ∙ ap (λ (l : List ℕ). l ++ rest) (sym (flat_map-cons text_bytes t texts)) ∙ e ∙ flat_map-cons text_bytes u all in
    let found = same_text t u (flat_map text_bytes texts ++ rest) (flat_map text_bytes all) (head_fits t texts fits) (head_fits u all fits_all) apart in
    let behind = front_of texts all rest (tail_fits t texts fits) (tail_fits u all fits_all) (omega (arith, le)) found.1 in
    (behind.0, ap (λ (x : List ℕ). x ∷ all) (sym found.0) ∙ ap (λ (l : List (List ℕ)). t ∷ l) behind.1, behind.2)

-- ---- a list that has been read in part

pub record IsReadTo (bytes : List ℕ) (count : ℕ) (texts : List (List ℕ)) (rest : List ℕ) : Type 0 where
  pub parts : bytes ≡ four_bytes count ++ (flat_map text_bytes texts ++ rest)
  pub lengths : All (λ text. length text < 2 ^ 32) texts

pub read_none : (bytes : List ℕ) (count : ℕ) (rest : List ℕ) → bytes ≡ four_bytes count ++ rest → IsReadTo bytes count [] rest
read_none bytes count rest e = record { parts = e; lengths = All-nil (λ text. length text < 2 ^ 32) }

pub read_more : (bytes : List ℕ) (count : ℕ) (texts : List (List ℕ)) (rest text after : List ℕ) → IsReadTo bytes count texts rest → length text < 2 ^ 32
    → rest ≡ text_bytes text ++ after → IsReadTo bytes count (texts ++ text ∷ []) after
read_more bytes count texts rest text after read fits e =
    let one : flat_map text_bytes (texts ++ text ∷ []) ≡ flat_map text_bytes texts ++ text_bytes text = flat_map-append text_bytes texts (text ∷ []) ∙ ap (λ (l : List ℕ). flat_map text_bytes texts ++ l) (flat_map-cons text_bytes text [] ∙ append-nil (text_bytes text)) in
    let whole : flat_map text_bytes texts ++ rest ≡ flat_map text_bytes (texts ++ text ∷ []) ++ after =
    ap (λ (l : List ℕ). flat_map text_bytes texts ++ l) e ∙ sym (append_assoc (flat_map text_bytes texts) (text_bytes text) after) ∙ ap (λ (l : List ℕ). l ++ after) (sym one) in
    record {
      parts = read.parts ∙ ap (λ (l : List ℕ). four_bytes count ++ l) whole;
      lengths = All-append (λ t. length t < 2 ^ 32) texts (text ∷ []) read.lengths (All-cons (λ t. length t < 2 ^ 32) text [] fits (All-nil (λ t. length t < 2 ^ 32)));
    }

pub read_all : (bytes : List ℕ) (count : ℕ) (texts : List (List ℕ)) (rest : List ℕ) → IsReadTo bytes count texts rest → length texts ≡ count → rest ≡ []
    → bytes ≡ list_bytes texts
read_all bytes count texts rest read len e =
    read.parts ∙ ap (λ (l : List ℕ). four_bytes count ++ (flat_map text_bytes texts ++ l)) e ∙ ap (λ (l : List ℕ). four_bytes count ++ l) (append-nil (flat_map text_bytes texts))
    ∙ ap (λ (n : ℕ). four_bytes n ++ flat_map text_bytes texts) (sym len)

-- what follows if the bytes spell a list
pub read_front : (bytes : List ℕ) (count : ℕ) (texts all : List (List ℕ)) (rest : List ℕ) → IsReadTo bytes count texts rest → count < 2 ^ 32 → length texts ≤ count → AreTexts all
    → bytes ≡ list_bytes all → (length all ≡ count) × ((others : List (List ℕ)) × (all ≡ texts ++ others) × (rest ≡ flat_map text_bytes others))
read_front bytes count texts all rest read lt le are e =
    let found = same_number count (length all) (flat_map text_bytes texts ++ rest) (flat_map text_bytes all) lt are.count (sym read.parts ∙ e) in
    (sym found.0, front_of texts all rest read.lengths are.lengths (omega (arith, found.0, le)) found.1)

middle_fits : (texts : List (List ℕ)) (t : List ℕ) (others : List (List ℕ)) → All (λ text. length text < 2 ^ 32) (texts ++ t ∷ others) → length t < 2 ^ 32
middle_fits [] t others fits = head_fits t others fits
middle_fits (u ∷ texts) t others fits = middle_fits texts t others (tail_fits u (texts ++ t ∷ others) fits)

no_text_left : (texts all others : List (List ℕ)) (rest : List ℕ) → All (λ text. length text < 2 ^ 32) all → length texts < length all → all ≡ texts ++ others
    → rest ≡ flat_map text_bytes others → ((t after : List ℕ) → length t < 2 ^ 32 → rest ≢ text_bytes t ++ after) → ⊥
no_text_left texts all [] rest fits less is spelled none = absurd (omega (arith, less, ap (λ (l : List (List ℕ)). length l) is, length-append texts []))
no_text_left texts all (t ∷ others) rest fits less is spelled none =
    let fit : length t < 2 ^ 32 = middle_fits texts t others (subst (λ (l : List (List ℕ)). All (λ text. length text < 2 ^ 32) l) is fits) in
    none t (flat_map text_bytes others) fit (spelled ∙ flat_map-cons text_bytes t others)

nothing_more : (texts all others : List (List ℕ)) → length all ≡ length texts → all ≡ texts ++ others → others ≡ []
nothing_more texts all others len is = nil_from_length others (omega (arith, len, ap (λ (l : List (List ℕ)). length l) is, length-append texts others))

-- a list needs a text where there is none
pub no_text : (bytes : List ℕ) (count : ℕ) (texts : List (List ℕ)) (rest : List ℕ) → IsReadTo bytes count texts rest → count < 2 ^ 32 → length texts < count
    → ((t after : List ℕ) → length t < 2 ^ 32 → rest ≢ text_bytes t ++ after) → (all : List (List ℕ)) → AreTexts all → bytes ≢ list_bytes all
no_text bytes count texts rest read lt less none all are e =
    let found = read_front bytes count texts all rest read lt (omega (arith, less)) are e in
    no_text_left texts all found.1.0 rest are.lengths (omega (arith, found.0, less)) found.1.1 found.1.2 none

-- a list needs no bytes that are left
pub left_over : (bytes : List ℕ) (count : ℕ) (texts : List (List ℕ)) (rest : List ℕ) → IsReadTo bytes count texts rest → count < 2 ^ 32 → length texts ≡ count
    → 0 < length rest → (all : List (List ℕ)) → AreTexts all → bytes ≢ list_bytes all
left_over bytes count texts rest read lt same more all are e =
    let found = read_front bytes count texts all rest read lt (omega (arith, same)) are e in
    let none : found.1.0 ≡ [] = nothing_more texts all found.1.0 (omega (arith, found.0, same)) found.1.1 in
    let empty : rest ≡ [] = found.1.2 ∙ ap (flat_map text_bytes) none in
    absurd (omega (arith, more, ap (λ (l : List ℕ). length l) empty))

-- a list needs four bytes for each text
pub too_many : (bytes : List ℕ) (count : ℕ) (rest : List ℕ) → bytes ≡ four_bytes count ++ rest → count < 2 ^ 32 → length rest < 4 * count
    → (all : List (List ℕ)) → AreTexts all → bytes ≢ list_bytes all
too_many bytes count rest parts lt less all are e =
    let found = same_number count (length all) rest (flat_map text_bytes all) lt are.count (sym parts ∙ e) in
    absurd (omega (arith, found.0, ap (λ (l : List ℕ). length l) found.1, length-texts all, less))

-- a list needs four bytes for its count
pub no_count : (bytes : List ℕ) → length bytes < 4 → (all : List (List ℕ)) → bytes ≢ list_bytes all
no_count bytes less all e =
    absurd (omega (arith, ap (λ (l : List ℕ). length l) e, length-append (four_bytes (length all)) (flat_map text_bytes all), length-four_bytes (length all), less))

-- no bytes spell two lists
pub one_list : (ms ns : List (List ℕ)) → AreTexts ms → AreTexts ns → list_bytes ms ≡ list_bytes ns → ms ≡ ns
one_list ms ns are_ms are_ns e =
    let found = same_number (length ms) (length ns) (flat_map text_bytes ms) (flat_map text_bytes ns) are_ms.count are_ns.count e in
    let front = front_of ms ns [] are_ms.lengths are_ns.lengths (omega (arith, found.0)) (append-nil (flat_map text_bytes ms) ∙ found.1) in
    let none : front.0 ≡ [] = nothing_more ms ns front.0 (sym found.0) front.1 in
    sym (append-nil ms) ∙ ap (λ (l : List (List ℕ)). ms ++ l) (sym none) ∙ sym front.1

-- no bytes spell two first numbers or two lists
pub one_texts : (m n : ℕ) (ms ns : List (List ℕ)) → m < 2 ^ 32 → n < 2 ^ 32 → AreTexts ms → AreTexts ns → texts_payload m ms ≡ texts_payload n ns → (m ≡ n) × (ms ≡ ns)
one_texts m n ms ns lt_m lt_n are_ms are_ns e =
    let found = same_number m n (list_bytes ms) (list_bytes ns) lt_m lt_n e in
    (found.0, one_list ms ns are_ms are_ns found.1)

-- no text begins where there is no length
pub no_text_short : (bytes : List ℕ) → length bytes < 4 → (t after : List ℕ) → bytes ≢ text_bytes t ++ after
no_text_short bytes less t after e =
    absurd (omega (arith, ap (λ (l : List ℕ). length l) e, length-append (text_bytes t) after, length-text_bytes t, less))

-- no text begins where fewer bytes follow than its length says
pub no_text_long : (bytes : List ℕ) (len : ℕ) (rest : List ℕ) → bytes ≡ four_bytes len ++ rest → len < 2 ^ 32 → length rest < len → (t after : List ℕ) → length t < 2 ^ 32
    → bytes ≢ text_bytes t ++ after
no_text_long bytes len rest parts lt less t after fits e =
    let found = same_number len (length t) rest (t ++ after) lt fits (sym parts ∙ e ∙ append_assoc (four_bytes (length t)) t after) in
    absurd (omega (arith, found.0, ap (λ (l : List ℕ). length l) found.1, length-append t after, less))

-- texts need four bytes for the number of the first
pub no_first : (bytes : List ℕ) → length bytes < 4 → (first : ℕ) (texts : List (List ℕ)) → bytes ≢ texts_payload first texts
no_first bytes less first texts e =
    absurd (omega (arith, ap (λ (l : List ℕ). length l) e, length-append (four_bytes first) (list_bytes texts), length-four_bytes first, less))

-- texts need eight bytes for that number and their count
pub no_front : (bytes : List ℕ) → length bytes < 8 → (first : ℕ) (texts : List (List ℕ)) → bytes ≢ texts_payload first texts
no_front bytes less first texts e =
    absurd (omega (arith, ap (λ (l : List ℕ). length l) e, length-append (four_bytes first) (list_bytes texts), length-four_bytes first, length-append (four_bytes (length texts)) (flat_map text_bytes texts), length-four_bytes (length texts), less))

-- texts need a list behind that number
pub not_behind_first : (bytes : List ℕ) (n : ℕ) (rest : List ℕ) → bytes ≡ four_bytes n ++ rest → n < 2 ^ 32 → ((all : List (List ℕ)) → AreTexts all → rest ≢ list_bytes all)
    → (first : ℕ) (texts : List (List ℕ)) → first < 2 ^ 32 → AreTexts texts → bytes ≢ texts_payload first texts
not_behind_first bytes n rest parts lt none first texts lt_first are e =
    none texts are (same_number n first rest (list_bytes texts) lt lt_first (sym parts ∙ e)).1

-- ---- lengths

pub length-list_bytes : (texts : List (List ℕ)) → length (list_bytes texts) ≡ 4 + length (flat_map text_bytes texts)
length-list_bytes texts = omega (arith, length-append (four_bytes (length texts)) (flat_map text_bytes texts), length-four_bytes (length texts))

-- a text more takes four bytes and its own
pub length-texts_more : (texts : List (List ℕ)) (i : ℕ) (d : List ℕ) → i < length texts
    → length (flat_map text_bytes (take (i + 1) texts)) ≡ length (flat_map text_bytes (take i texts)) + (4 + length (get_or texts i d))
length-texts_more texts i d lt =
    let text : List ℕ = get_or texts i d in
    let one : flat_map text_bytes (take (i + 1) texts) ≡ flat_map text_bytes (take i texts) ++ text_bytes text =
    ap (flat_map text_bytes) (take_more texts i d lt) ∙ flat_map-append text_bytes (take i texts) (text ∷ [])
    ∙ ap (λ (l : List ℕ). flat_map text_bytes (take i texts) ++ l) (flat_map-cons text_bytes text [] ∙ append-nil (text_bytes text)) in
    omega (arith, ap (λ (l : List ℕ). length l) one, length-append (flat_map text_bytes (take i texts)) (text_bytes text), length-append (four_bytes (length text)) text, length-four_bytes (length text))
