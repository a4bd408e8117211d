-- The texts that have a needle.
use Rattle.std.proofs.Common.{◌≡◌, ◌≢◌, inl, inr, ⊎_elim, ℕ, zero, suc, ◌+◌, ◌-◌, ◌^◌, ◌<◌, ◌≤◌, List, [], ◌∷◌, ◌++◌, length, drop, refl, sym, ◌∙◌, ap, subst, arith, append_assoc, length-append}
use Rattle.std.specs.Prelude.{◌↔◌, Bool, true, Option, Some, None, Contains, is_some, slice_get, slice_index}
use Rattle.std.specs.List.{flat_map}
use Rattle.std.proofs.lemmas.Bool.{cases_lt}
use Rattle.std.proofs.lemmas.List.{append-nil, append_cancel_left, drop_all, drop_more, get_or_append_left, get_or-append-add, nil_from_length}
use Rattle.std.proofs.lemmas.Option.{get_or_from_slice_get, slice_get_within}
use Rattle.std.proofs.lemmas.List.Concat.{flat_map-cons}
use Rattle.memchr.specs.Find.{FindsNeedle, Nowhere, OccursAt}
use Rattle.plain_list.specs.Texts.{IsNew}
use Rattle.record_format.specs.Lists.{AreTexts, four_bytes, text_bytes}
use Rattle.record_format.proofs.ListLemmas.{IsReadTo, front_of, length-four_bytes, no_text, read_more}
use Rattle.wild_match.specs.Runs.{Occurs}
use Rattle.word_places.specs.declared.place.WordsPlace.{WordsPlace}
use Rattle.word_places.specs.declared.needle.Fit.{Fit}
use Rattle.word_places.specs.declared.needle.Fit.TheVariants.{Within, Whole}
use Rattle.word_places.specs.Holders.{AddsHolders, AddsNumber, HasNeedle, Holders}
use Rattle.word_places.specs.Laws.{HoldersHave}
use Rattle.word_places.specs.Places.{AreInOrder, AreWords, OfTexts, OfWords}
use Rattle.word_places.proofs.LocalLemmas.{behind}

-- ---- one text

-- a text that has the needle has it somewhere
pub somewhere : (fit : Fit) (needle text : List ℕ) → HasNeedle fit needle text → Occurs text needle
somewhere Within needle text has = has
somewhere Whole needle text has = (0, subst (λ (l : List ℕ). OccursAt l needle 0) (sym has) (record { fits = omega arith; reads = λ j lt. let e : 0 + j ≡ j = omega arith in ap (λ (k : ℕ). slice_index needle k) e }))

-- a search tells whether it stands there
pub found_tells : (needle text : List ℕ) (hit : Option ℕ) (there : Bool) → FindsNeedle text needle 0 hit → there ≡ is_some hit → (there ≡ true) ↔ Occurs text needle
found_tells needle text None there found is = (
  λ here. absurd (cc (here, is)),
  λ occurs. absurd (found occurs.0 (omega arith) (omega (arith, occurs.1.fits)) occurs.1),
)
found_tells needle text (Some k) there found is = (λ here. (k, found.1), λ occurs. is)

-- what occurs in the front of bytes occurs in the bytes
occurs_left : (a b needle : List ℕ) (k : ℕ) → OccursAt a needle k → OccursAt (a ++ b) needle k
occurs_left a b needle k occurs = record {
  fits = omega (arith, occurs.fits, length-append a b);
  reads = λ j lt. get_or_append_left a b 0 (k + j) (omega (arith, occurs.fits, lt)) ∙ occurs.reads j lt;
}

occurs_right : (a b needle : List ℕ) (k : ℕ) → OccursAt b needle k → OccursAt (a ++ b) needle (length a + k)
occurs_right a b needle k occurs = record {
  fits = omega (arith, occurs.fits, length-append a b);
  reads = λ j lt.
      let e : length a + k + j ≡ length a + (k + j) = omega arith in
      ap (λ (n : ℕ). slice_index (a ++ b) n) e ∙ get_or-append-add a b (k + j) 0 ∙ occurs.reads j lt;
}

occurs_behind : (a b needle : List ℕ) (k : ℕ) → length a ≤ k → OccursAt (a ++ b) needle k → OccursAt b needle (k - length a)
occurs_behind a b needle k le occurs = record {
  fits = omega (arith, occurs.fits, length-append a b, le);
  reads = λ j lt.
      let e : k + j ≡ length a + (k - length a + j) = omega (arith, le) in
      sym (get_or-append-add a b (k - length a + j) 0) ∙ ap (λ (n : ℕ). slice_index (a ++ b) n) (sym e) ∙ occurs.reads j lt;
}

-- a needle in a text stands in the text with its length, four places on
occurs_in_bytes : (text after needle : List ℕ) (k : ℕ) → OccursAt text needle k → OccursAt (text_bytes text ++ after) needle (4 + k)
occurs_in_bytes text after needle k occurs =
    let e : length (four_bytes (length text)) + k ≡ 4 + k = omega (arith, length-four_bytes (length text)) in
    occurs_left (text_bytes text) after needle (4 + k) (subst (λ (n : ℕ). OccursAt (text_bytes text) needle n) e (occurs_right (four_bytes (length text)) text needle k occurs))

pub length-text_bytes : (text : List ℕ) → length (text_bytes text) ≡ 4 + length text
length-text_bytes text = omega (arith, length-append (four_bytes (length text)) text, length-four_bytes (length text))

-- ---- passing a text

-- a text that ends before the first place where the needle is found has it not
pub ends_before : (fit : Fit) (needle text after : List ℕ) (at : ℕ) → FindsNeedle (text_bytes text ++ after) needle 0 (Some at) → 4 + length text ≤ at → ¬ HasNeedle fit needle text
ends_before fit needle text after at found le has =
    let occurs = somewhere fit needle text has in
    ⊎_elim
    (λ some. found.0.before (4 + occurs.0) (omega arith) (omega (arith, le, occurs.1.fits, some)) (occurs_in_bytes text after needle occurs.0 occurs.1))
    (λ none. found.0.before 0 (omega arith) (omega (arith, le)) (record { fits = omega (arith, none); reads = λ j lt. absurd (omega (arith, lt, none)) }))
    (cases_lt 0 (length needle))

-- and that place is the first behind it
pub found_behind : (needle text after : List ℕ) (at : ℕ) → FindsNeedle (text_bytes text ++ after) needle 0 (Some at) → 4 + length text ≤ at
    → FindsNeedle after needle 0 (Some (at - (4 + length text)))
found_behind needle text after at found le =
    let len = length-text_bytes text in
    let place : at - length (text_bytes text) ≡ at - (4 + length text) = ap (λ (n : ℕ). at - n) len in (
      record {
        low = omega arith;
        high = omega (arith, found.0.high, length-append (text_bytes text) after, len, le);
        before = λ k low high occurs.
            let e : length (text_bytes text) + k < at = omega (arith, high, len, le) in
            found.0.before (length (text_bytes text) + k) (omega arith) e (occurs_right (text_bytes text) after needle k occurs);
      },
      subst (λ (n : ℕ). OccursAt after needle n) place (occurs_behind (text_bytes text) after needle at (omega (arith, len, le)) found.1),
    )

-- ---- many texts

-- where the needle is nowhere in bytes, no text of them has it
pub none_hold : (fit : Fit) (needle : List ℕ) (first : ℕ) (texts : List (List ℕ)) (rest : List ℕ) → rest ≡ flat_map text_bytes texts → FindsNeedle rest needle 0 None → Holders fit needle first texts []
none_hold fit needle first [] rest is none = refl
none_hold fit needle first (text ∷ texts) rest is none =
    let parts : rest ≡ text_bytes text ++ flat_map text_bytes texts = is ∙ flat_map-cons text_bytes text texts in
    let whole : Nowhere (OccursAt (text_bytes text ++ flat_map text_bytes texts) needle) 0 (length (text_bytes text ++ flat_map text_bytes texts) + 1) =
    subst (λ (l : List ℕ). Nowhere (OccursAt l needle) 0 (length l + 1)) parts none in
    let others : Nowhere (OccursAt (flat_map text_bytes texts) needle) 0 (length (flat_map text_bytes texts) + 1) = λ k low high occurs.
    whole (length (text_bytes text) + k) (omega arith) (omega (arith, high, length-append (text_bytes text) (flat_map text_bytes texts)))
    (occurs_right (text_bytes text) (flat_map text_bytes texts) needle k occurs) in
    let this : ¬ HasNeedle fit needle text = λ has.
    let occurs = somewhere fit needle text has in
    let there = occurs_in_bytes text (flat_map text_bytes texts) needle occurs.0 occurs.1 in
    whole (4 + occurs.0) (omega arith) (omega (arith, there.fits)) there in
    inr (this, none_hold fit needle (first + 1) texts (flat_map text_bytes texts) refl others)

pub holders_joined : (fit : Fit) (needle : List ℕ) (first second : ℕ) (a b : List (List ℕ)) (m n : List ℕ) → second ≡ first + length a → Holders fit needle first a m → Holders fit needle second b n
    → Holders fit needle first (a ++ b) (m ++ n)
holders_joined fit needle first second [] b m n is one two =
    let e : second ≡ first = omega (arith, is) in
    subst (λ (l : List ℕ). Holders fit needle first b (l ++ n)) (sym one) (subst (λ (k : ℕ). Holders fit needle k b n) e two)
holders_joined fit needle first second (text ∷ a) b m n is (inl has) two =
    inl (has.0, (has.1.0 ++ n, holders_joined fit needle (first + 1) second a b has.1.0 n (omega (arith, is)) has.1.1 two, ap (λ (l : List ℕ). l ++ n) has.1.2))
holders_joined fit needle first second (text ∷ a) b m n is (inr has) two =
    inr (has.0, holders_joined fit needle (first + 1) second a b m n (omega (arith, is)) has.1 two)

-- one text more
pub holders_more : (fit : Fit) (needle : List ℕ) (first number : ℕ) (texts : List (List ℕ)) (text : List ℕ) (start old new : List ℕ) → number ≡ first + length texts
    → AddsHolders fit needle first texts start old → AddsNumber fit needle text number old new → AddsHolders fit needle first (texts ++ text ∷ []) start new
holders_more fit needle first number texts text start old new is so_far (inl has) = (
  so_far.0 ++ number ∷ [],
  holders_joined fit needle first number texts (text ∷ []) so_far.0 (number ∷ []) is so_far.1 (inl (has.0, ([], refl, refl))),
  has.1 ∙ ap (λ (l : List ℕ). l ++ number ∷ []) so_far.2 ∙ append_assoc start so_far.0 (number ∷ []),
)
holders_more fit needle first number texts text start old new is so_far (inr has) = (
  so_far.0,
  subst (λ (l : List ℕ). Holders fit needle first (texts ++ text ∷ []) l) (append-nil so_far.0)
      (holders_joined fit needle first number texts (text ∷ []) so_far.0 [] is so_far.1 (inr (has.0, refl))),
  has.1 ∙ so_far.2,
)

pub holders_none : (fit : Fit) (needle : List ℕ) (first : ℕ) (start : List ℕ) → AddsHolders fit needle first [] start start
holders_none fit needle first start = ([], refl, sym (append-nil start))

-- the number of each text that has the needle was found
pub holders_have : HoldersHave
holders_have fit needle text first at [] numbers holders is has = absurd (cc (is))
holders_have fit needle text first zero (t ∷ texts) numbers (inl here) is has =
    let e : first ≡ first + zero = omega arith in
    subst (λ (l : List ℕ). Contains l (first + zero)) (sym here.1.2) (subst (λ (n : ℕ). Contains (first ∷ here.1.0) n) e (0, omega arith, refl))
holders_have fit needle text first zero (t ∷ texts) numbers (inr other) is has =
    let same : t ≡ text = cc (is) in
    absurd (other.0 (subst (λ (l : List ℕ). HasNeedle fit needle l) (sym same) has))
holders_have fit needle text first (suc at) (t ∷ texts) numbers (inl here) is has =
    let e : first + 1 + at ≡ first + suc at = omega arith in
    subst (λ (l : List ℕ). Contains l (first + suc at)) (sym here.1.2)
    (behind first (first + suc at) here.1.0 (subst (λ (n : ℕ). Contains here.1.0 n) e (holders_have fit needle text (first + 1) at texts here.1.0 here.1.1 is has)))
holders_have fit needle text first (suc at) (t ∷ texts) numbers (inr other) is has =
    let e : first + 1 + at ≡ first + suc at = omega arith in
    subst (λ (n : ℕ). Contains numbers n) e (holders_have fit needle text (first + 1) at texts numbers other.1 is has)

-- the first number that was found is that of a text that has the needle
pub first_holder : (fit : Fit) (needle : List ℕ) (first n : ℕ) (texts : List (List ℕ)) (numbers : List ℕ) → Holders fit needle first texts numbers → slice_get numbers 0 ≡ Some n
    → (first ≤ n) × ((text : List ℕ) × (slice_get texts (n - first) ≡ Some text) × HasNeedle fit needle text)
first_holder fit needle first n [] numbers holders is = absurd (cc (subst (λ (l : List ℕ). slice_get l 0 ≡ Some n) holders is))
first_holder fit needle first n (t ∷ texts) numbers (inl here) is =
    let same : first ≡ n = cc (subst (λ (l : List ℕ). slice_get l 0 ≡ Some n) here.1.2 is) in
    let e : n - first ≡ 0 = omega (arith, same) in
    (omega (arith, same), (t, ap (λ (k : ℕ). slice_get (t ∷ texts) k) e, here.0))
first_holder fit needle first n (t ∷ texts) numbers (inr other) is =
    let there = first_holder fit needle (first + 1) n texts numbers other.1 is in
    let e : n - first ≡ suc (n - (first + 1)) = omega (arith, there.0) in
    (omega (arith, there.0), (there.1.0, ap (λ (k : ℕ). slice_get (t ∷ texts) k) e ∙ there.1.1, there.1.2))

pub word_of : (needle : List ℕ) (words : List (List ℕ)) (numbers : List ℕ) (n : ℕ) → Holders Whole needle 0 words numbers → slice_get numbers 0 ≡ Some n → slice_get words n ≡ Some needle
word_of needle words numbers n holders is =
    let there = first_holder Whole needle 0 n words numbers holders is in
    let e : n ≡ n - 0 = omega arith in
    ap (λ (k : ℕ). slice_get words k) e ∙ there.1.1 ∙ ap Some there.1.2

pub no_word : (needle : List ℕ) (words : List (List ℕ)) (numbers : List ℕ) → Holders Whole needle 0 words numbers → length numbers < 1 → IsNew words needle
no_word needle words numbers holders none = λ i is.
    let found = holders_have Whole needle needle 0 i words numbers holders is refl in
    absurd (omega (arith, found.1, none))

-- ---- a walk along texts

-- so many texts were passed, the needle is first found at a place of the rest, and the numbers of those that have it were added
pub record IsPassed (bytes : List ℕ) (first count : ℕ) (fit : Fit) (needle start rest now : List ℕ) (hit : Option ℕ) (passed : ℕ) : Type 0 where
  pub texts : List (List ℕ)
  pub read : IsReadTo (four_bytes count ++ bytes) count texts rest
  pub many : length texts ≡ passed
  pub found : FindsNeedle rest needle 0 hit
  pub added : AddsHolders fit needle first texts start now

pub passed_none : (bytes : List ℕ) (first count : ℕ) (fit : Fit) (needle start : List ℕ) (hit : Option ℕ) → FindsNeedle bytes needle 0 hit → IsPassed bytes first count fit needle start bytes start hit 0
passed_none bytes first count fit needle start hit found = record {
  texts = [];
  read = record { parts = refl; lengths = λ k d lt. absurd (omega (arith, lt)) };
  many = refl;
  found = found;
  added = holders_none fit needle first start;
}

pub passed_more : (bytes : List ℕ) (first count : ℕ) (fit : Fit) (needle start rest now : List ℕ) (hit : Option ℕ) (passed number : ℕ) (text after new : List ℕ) (next : Option ℕ)
    → IsPassed bytes first count fit needle start rest now hit passed → number ≡ first + passed → length text < 2 ^ 32 → rest ≡ text_bytes text ++ after → FindsNeedle after needle 0 next
    → AddsNumber fit needle text number now new → IsPassed bytes first count fit needle start after new next (passed + 1)
passed_more bytes first count fit needle start rest now hit passed number text after new next so_far is fits parts found adds = record {
  texts = so_far.texts ++ text ∷ [];
  read = read_more (four_bytes count ++ bytes) count so_far.texts rest text after so_far.read fits parts;
  many = omega (arith, length-append so_far.texts (text ∷ []), so_far.many);
  found = found;
  added = holders_more fit needle first number so_far.texts text start now new (omega (arith, is, so_far.many)) so_far.added adds;
}

-- what was passed is the front of whatever texts the bytes are
passed_front : (bytes : List ℕ) (first count : ℕ) (fit : Fit) (needle start rest now : List ℕ) (hit : Option ℕ) (passed : ℕ) → (so_far : IsPassed bytes first count fit needle start rest now hit passed)
    → passed ≤ count → (all : List (List ℕ)) → AreTexts all → length all ≡ count → bytes ≡ flat_map text_bytes all
    → (others : List (List ℕ)) × (all ≡ so_far.texts ++ others) × (rest ≡ flat_map text_bytes others)
passed_front bytes first count fit needle start rest now hit passed so_far le all are len is =
    let parts : flat_map text_bytes so_far.texts ++ rest ≡ flat_map text_bytes all = append_front so_far.read.parts ∙ is in
    front_of so_far.texts all rest so_far.read.lengths are.lengths (omega (arith, len, le, so_far.many)) parts
  where
    append_front : four_bytes count ++ bytes ≡ four_bytes count ++ (flat_map text_bytes so_far.texts ++ rest) → flat_map text_bytes so_far.texts ++ rest ≡ bytes
    append_front e = sym (append_cancel_left (four_bytes count) bytes (flat_map text_bytes so_far.texts ++ rest) e)

-- the needle stands nowhere in the rest
pub passed_last : (bytes : List ℕ) (first count : ℕ) (fit : Fit) (needle start rest now : List ℕ) (passed : ℕ) → IsPassed bytes first count fit needle start rest now None passed
    → passed ≤ count → (all : List (List ℕ)) → AreTexts all → length all ≡ count → bytes ≡ flat_map text_bytes all → AddsHolders fit needle first all start now
passed_last bytes first count fit needle start rest now passed so_far le all are len is =
    let front = passed_front bytes first count fit needle start rest now None passed so_far le all are len is in
    let none = none_hold fit needle (first + length so_far.texts) front.0 rest front.2 so_far.found in
    subst (λ (ts : List (List ℕ)). AddsHolders fit needle first ts start now) (sym front.1) (
      so_far.added.0,
      subst (λ (l : List ℕ). Holders fit needle first (so_far.texts ++ front.0) l) (append-nil so_far.added.0)
          (holders_joined fit needle first (first + length so_far.texts) so_far.texts front.0 so_far.added.0 [] refl so_far.added.1 none),
      so_far.added.2,
    )

-- all were passed
pub passed_all : (bytes : List ℕ) (first count : ℕ) (fit : Fit) (needle start rest now : List ℕ) (hit : Option ℕ) → IsPassed bytes first count fit needle start rest now hit count
    → (all : List (List ℕ)) → AreTexts all → length all ≡ count → bytes ≡ flat_map text_bytes all → AddsHolders fit needle first all start now
passed_all bytes first count fit needle start rest now hit so_far all are len is =
    let front = passed_front bytes first count fit needle start rest now hit count so_far (omega arith) all are len is in
    let none : front.0 ≡ [] = nil_from_length front.0 (omega (arith, ap (λ (l : List (List ℕ)). length l) front.1, length-append so_far.texts front.0, so_far.many, len)) in
    let same : all ≡ so_far.texts = front.1 ∙ ap (λ (l : List (List ℕ)). so_far.texts ++ l) none ∙ append-nil so_far.texts in
    subst (λ (ts : List (List ℕ)). AddsHolders fit needle first ts start now) (sym same) so_far.added

-- no text stands in the rest
pub passed_stops : (bytes : List ℕ) (first count : ℕ) (fit : Fit) (needle start rest now : List ℕ) (hit : Option ℕ) (passed : ℕ) → IsPassed bytes first count fit needle start rest now hit passed
    → passed < count → count < 2 ^ 32 → ((t after : List ℕ) → length t < 2 ^ 32 → rest ≢ text_bytes t ++ after) → (all : List (List ℕ)) → AreTexts all → length all ≡ count → bytes ≢ flat_map text_bytes all
passed_stops bytes first count fit needle start rest now hit passed so_far less lt none all are len is =
    no_text (four_bytes count ++ bytes) count so_far.texts rest so_far.read lt (omega (arith, so_far.many, less)) none all are
    ((λ i. four_bytes (sym len i) ++ is i))

-- ---- a walk along records

-- of whatever words stand at the places, those of the records before a place were asked, and the others stand at the places behind
pub record IsGone (places : List WordsPlace) (fit : Fit) (needle start : List ℕ) (at : ℕ) (bytes : List ℕ) (words : List (List ℕ)) (now : List ℕ) : Type 0 where
  pub done : List (List ℕ)
  pub left : List (List ℕ)
  pub parts : words ≡ done ++ left
  pub behind : AreWords (length done) (drop at places) bytes left
  pub added : AddsHolders fit needle 0 done start now

abbrev pub Gone : Option (List ℕ) → List WordsPlace → Fit → List ℕ → List ℕ → ℕ → List ℕ → Type 0
Gone None places fit needle start at now = Unit {0}
Gone (Some bytes) places fit needle start at now = (words : List (List ℕ)) → AreWords 0 places bytes words → IsGone places fit needle start at bytes words now

pub gone_none : (told : Option (List ℕ)) (places : List WordsPlace) (fit : Fit) (needle start : List ℕ) → Gone told places fit needle start 0 start
gone_none None places fit needle start = tt
gone_none (Some bytes) places fit needle start = λ words are. record { done = []; left = words; parts = refl; behind = are; added = holders_none fit needle 0 start }

pub gone_more : (told : Option (List ℕ)) (places : List WordsPlace) (fit : Fit) (needle start now new : List ℕ) (at : ℕ) (p : WordsPlace) → Gone told places fit needle start at now
    → slice_get places at ≡ Some p → OfTexts told p (λ texts. AddsHolders fit needle p.first texts now new) → Gone told places fit needle start (at + 1) new
gone_more None places fit needle start now new at p gone is adds = tt
gone_more (Some bytes) places fit needle start now new at p gone is adds = λ words are.
    let so_far = gone words are in
    let left : drop at places ≡ p ∷ drop (at + 1) places = drop_more places at p (slice_get_within places at p is) ∙ ap (λ (x : WordsPlace). x ∷ drop (at + 1) places) (get_or_from_slice_get places at p p is) in
    let behind = subst (λ (ps : List WordsPlace). AreWords (length so_far.done) ps bytes so_far.left) left so_far.behind in
    let more = adds behind.0 behind.3 in
    let count : length so_far.done + p.count ≡ length (so_far.done ++ behind.0) = omega (arith, length-append so_far.done behind.0, behind.3.count) in
    record {
      done = so_far.done ++ behind.0;
      left = behind.1;
      parts = so_far.parts ∙ ap (λ (l : List (List ℕ)). so_far.done ++ l) behind.5 ∙ sym (append_assoc so_far.done behind.0 behind.1);
      behind = subst (λ (n : ℕ). AreWords n (drop (at + 1) places) bytes behind.1) count behind.4;
      added = (
        so_far.added.0 ++ more.0,
        holders_joined fit needle 0 p.first so_far.done behind.0 so_far.added.0 more.0 (behind.2 ∙ (let e : length so_far.done ≡ 0 + length so_far.done = omega arith in e)) so_far.added.1 more.1,
        more.2 ∙ ap (λ (l : List ℕ). l ++ more.0) so_far.added.2 ∙ append_assoc start so_far.added.0 more.0,
      );
    }

pub gone_all : (told : Option (List ℕ)) (places : List WordsPlace) (fit : Fit) (needle start now : List ℕ) (at : ℕ) → Gone told places fit needle start at now → length places ≤ at
    → OfWords told places (λ words. AddsHolders fit needle 0 words start now)
gone_all None places fit needle start now at gone all = tt
gone_all (Some bytes) places fit needle start now at gone all = λ words are.
    let so_far = gone words are in
    let none : so_far.left ≡ [] = subst (λ (ps : List WordsPlace). AreWords (length so_far.done) ps bytes so_far.left) (drop_all at places all) so_far.behind in
    let same : words ≡ so_far.done = so_far.parts ∙ ap (λ (l : List (List ℕ)). so_far.done ++ l) none ∙ append-nil so_far.done in
    subst (λ (ws : List (List ℕ)). AddsHolders fit needle 0 ws start now) (sym same) so_far.added

-- the numbers of a record have no more than 32 bits
order_least : (from : ℕ) (places : List WordsPlace) → AreInOrder from places → from ≤ 2 ^ 32
order_least from [] order = order
order_least from (p ∷ places) order = omega (arith, order_least (from + p.count) places order.1)

pub order_at : (from : ℕ) (places : List WordsPlace) (at : ℕ) (p : WordsPlace) → AreInOrder from places → slice_get places at ≡ Some p → p.first + p.count ≤ 2 ^ 32
order_at from [] at p order is = absurd (cc (is))
order_at from (q ∷ places) zero p order is =
    let same : q ≡ p = cc (is) in
    subst (λ (x : WordsPlace). x.first + x.count ≤ 2 ^ 32) same (omega (arith, order.0, order_least (from + q.count) places order.1))
order_at from (q ∷ places) (suc at) p order is = order_at (from + q.count) places at p order.1 is
