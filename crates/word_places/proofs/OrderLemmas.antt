-- Records by their numbers.
use Rattle.std.proofs.Common.{◌≡◌, ℕ, zero, suc, ◌+◌, ◌-◌, ◌^◌, ◌<◌, ◌≤◌, List, [], ◌∷◌, ◌++◌, length, map, get_or, replicate, refl, sym, ap, subst, ◌∙◌, arith, length-append}
use Rattle.std.specs.Prelude.{Option, Some, None, MatchOption, slice_get}
use Rattle.std.proofs.lemmas.Bool.{cases_lt}
use Rattle.std.proofs.Common.{⊎_elim}
use Rattle.std.proofs.lemmas.List.{length-replicate}
use Rattle.std.proofs.lemmas.Option.{slice_get-get_or, slice_get_within}
use Rattle.plain_list.specs.Texts.{IsNew}
use Rattle.word_places.specs.declared.place.WordsPlace.{WordsPlace}
use Rattle.word_places.specs.declared.held.HeldRecord.{HeldRecord}
use Rattle.word_places.specs.Places.{AreInOrder}
use Rattle.word_places.specs.Held.{AreNumbered, HasNumber, lent, lends, unread}
use Rattle.word_places.specs.StepsHeld.{StartsPast}

-- ---- texts of lists that are joined

pub get_left : {X : Type 0} (xs ys : List X) (i : ℕ) → i < length xs → slice_get (xs ++ ys) i ≡ slice_get xs i
get_left [] ys i lt = absurd (omega (arith, lt))
get_left (x ∷ xs) ys zero lt = refl
get_left (x ∷ xs) ys (suc i) lt = get_left xs ys i (omega (arith, lt))

pub get_right : {X : Type 0} (xs ys : List X) (i : ℕ) → slice_get (xs ++ ys) (length xs + i) ≡ slice_get ys i
get_right [] ys i = let e : 0 + i ≡ i = omega arith in ap (λ (n : ℕ). slice_get ys n) e
get_right (x ∷ xs) ys i =
    let e : length (x ∷ xs) + i ≡ suc (length xs + i) = omega arith in
    ap (λ (n : ℕ). slice_get (x ∷ xs ++ ys) n) e ∙ get_right xs ys i

pub get_behind : {X : Type 0} (xs ys : List X) (n i : ℕ) → n ≡ length xs + i → slice_get (xs ++ ys) n ≡ slice_get ys i
get_behind xs ys n i e = ap (λ (k : ℕ). slice_get (xs ++ ys) k) e ∙ get_right xs ys i

-- ---- numbers of records

-- how many words are lent, and that no number has more than 32 bits
pub lent_count : (from : ℕ) (records : List HeldRecord) → AreNumbered from records → from + length (lends records) ≤ 2 ^ 32
lent_count from [] are = omega (arith, are)
lent_count from (r ∷ records) are =
    omega (arith, lent_count (from + r.place.count) records are.2, are.1, length-append (lent r) (lends records))

-- where the words of a record stand
pub record HasPlace (from : ℕ) (records : List HeldRecord) (at : ℕ) (r : HeldRecord) : Type 0 where
  pub low : from ≤ r.place.first
  pub many : length (lent r) ≡ r.place.count
  pub high : r.place.first + r.place.count ≤ from + length (lends records)
  pub texts : (i : ℕ) → i < r.place.count → slice_get (lends records) (r.place.first - from + i) ≡ slice_get (lent r) i

pub placed : (from : ℕ) (records : List HeldRecord) (at : ℕ) (r : HeldRecord) → AreNumbered from records → slice_get records at ≡ Some r → HasPlace from records at r
placed from [] at r are is = absurd (cc (is))
placed from (q ∷ records) zero r are is =
    let same : q ≡ r = cc (is) in
    subst (λ (x : HeldRecord). HasPlace from (q ∷ records) 0 x) same (record {
      low = omega (arith, are.0);
      many = are.1;
      high = omega (arith, are.0, are.1, length-append (lent q) (lends records));
      texts = λ i lt.
          let e : q.place.first - from + i ≡ i = omega (arith, are.0) in
          ap (λ (n : ℕ). slice_get (lends (q ∷ records)) n) e ∙ get_left (lent q) (lends records) i (omega (arith, lt, are.1));
    })
placed from (q ∷ records) (suc at) r are is =
    let there = placed (from + q.place.count) records at r are.2 is in
    record {
      low = omega (arith, there.low);
      many = there.many;
      high = omega (arith, there.high, are.1, length-append (lent q) (lends records));
      texts = λ i lt.
          get_behind (lent q) (lends records) (r.place.first - from + i) (r.place.first - (from + q.place.count) + i) (omega (arith, there.low, are.1)) ∙ there.texts i lt;
    }

-- the record behind goes on with the numbers
pub next_first : (from : ℕ) (records : List HeldRecord) (at : ℕ) (r s : HeldRecord) → AreNumbered from records → slice_get records at ≡ Some r → slice_get records (suc at) ≡ Some s
    → s.place.first ≡ r.place.first + r.place.count
next_first from [] at r s are is next = absurd (cc (is))
next_first from (q ∷ []) zero r s are is next = absurd (cc (next))
next_first from (q ∷ p ∷ records) zero r s are is next =
    let one : q ≡ r = cc (is) in
    let two : p ≡ s = cc (next) in
    ap (λ (x : HeldRecord). x.place.first) (sym two) ∙ are.2.0 ∙ ap (λ (n : ℕ). n + q.place.count) (sym are.0) ∙ ap (λ (x : HeldRecord). x.place.first + x.place.count) one
next_first from (q ∷ records) (suc at) r s are is next =
    next_first (from + q.place.count) records at r s are.2 is next

-- the last record ends where the words do
pub last_ends : (from : ℕ) (records : List HeldRecord) (at : ℕ) (r : HeldRecord) → AreNumbered from records → slice_get records at ≡ Some r → length records ≡ at + 1
    → from + length (lends records) ≡ r.place.first + r.place.count
last_ends from [] at r are is last = absurd (cc (is))
last_ends from (q ∷ []) zero r are is last =
    let one : q ≡ r = cc (is) in
    omega (arith, are.0, are.1, length-append (lent q) (lends []), ap (λ (x : HeldRecord). x.place.first) one, ap (λ (x : HeldRecord). x.place.count) one)
last_ends from (q ∷ p ∷ records) zero r are is last = absurd (omega (arith, last))
last_ends from (q ∷ records) (suc at) r are is last =
    omega (arith, last_ends (from + q.place.count) records at r are.2 is (omega (arith, last)), are.1, length-append (lent q) (lends records))

-- no word has a number that is behind the last record that begins by it
pub past_words : (records : List HeldRecord) (at number : ℕ) (r : HeldRecord) → AreNumbered 0 records → slice_get records at ≡ Some r → StartsPast records (at + 1) number
    → at + 1 ≤ length records → r.place.first + r.place.count ≤ number → length (lends records) ≤ number
past_words records at number r are is past within ends =
    ⊎_elim
    (λ more.
    let s : HeldRecord = get_or records (at + 1) r in
    let one : suc at ≡ at + 1 = omega arith in
    let next : slice_get records (at + 1) ≡ Some s = slice_get-get_or records (at + 1) r more in
    absurd (omega (arith, past s next, next_first 0 records at r s are is (ap (λ (n : ℕ). slice_get records n) one ∙ next), ends)))
    (λ last. omega (arith, last_ends 0 records at r are is (omega (arith, last, within)), ends))
    (cases_lt (at + 1) (length records))

-- no record begins with a number that is not above this: there is no word
pub no_words : (records : List HeldRecord) (number : ℕ) → AreNumbered 0 records → StartsPast records 0 number → length (lends records) ≤ number
no_words [] number are past = omega arith
no_words (r ∷ records) number are past = absurd (omega (arith, past r refl, are.0))

-- ---- the text of a number

pub text_lent : (records : List HeldRecord) (at number : ℕ) (r : HeldRecord) → AreNumbered 0 records → slice_get records at ≡ Some r → HasNumber r number
    → slice_get (lends records) number ≡ slice_get (lent r) (number - r.place.first)
text_lent records at number r are is has =
    let there = placed 0 records at r are is in
    let e : number ≡ r.place.first - 0 + (number - r.place.first) = omega (arith, has.low) in
    ap (λ (n : ℕ). slice_get (lends records) n) e ∙ there.texts (number - r.place.first) (omega (arith, has.low, has.high))

-- the same of what was found, if it was
pub lent_found : {X : Type 0} (now : X → List ℕ) (o : Option X) (records : List HeldRecord) (at number : ℕ) (r : HeldRecord) → AreNumbered 0 records → slice_get records at ≡ Some r → HasNumber r number
    → MatchOption o (length (lent r) ≤ number - r.place.first) (λ t. slice_get (lent r) (number - r.place.first) ≡ Some (now t))
    → MatchOption o (length (lends records) ≤ number) (λ t. slice_get (lends records) number ≡ Some (now t))
lent_found now None records at number r are is has none = omega (arith, none, has.low, has.high, (placed 0 records at r are is).many)
lent_found now (Some t) records at number r are is has found = text_lent records at number r are is has ∙ found

pub numbers_small : (records : List HeldRecord) (at : ℕ) (r : HeldRecord) → AreNumbered 0 records → slice_get records at ≡ Some r → r.place.first + length (lent r) ≤ 2 ^ 32
numbers_small records at r are is =
    let there = placed 0 records at r are is in omega (arith, there.high, there.many, lent_count 0 records are)

pub text_found : (records : List HeldRecord) (at number : ℕ) (text : List ℕ) (r : HeldRecord) → AreNumbered 0 records → slice_get records at ≡ Some r → r.place.first ≤ number
    → slice_get (lent r) (number - r.place.first) ≡ Some text → slice_get (lends records) number ≡ Some text
text_found records at number text r are is low got =
    let there = placed 0 records at r are is in
    let within : number - r.place.first < length (lent r) = slice_get_within (lent r) (number - r.place.first) text got in
    let e : number ≡ r.place.first - 0 + (number - r.place.first) = omega (arith, low) in
    ap (λ (n : ℕ). slice_get (lends records) n) e ∙ there.texts (number - r.place.first) (omega (arith, within, there.many)) ∙ got

-- a text that is new in each record is no word
pub new_in_all : (text : List ℕ) (records : List HeldRecord) → ((at : ℕ) (r : HeldRecord) → slice_get records at ≡ Some r → IsNew (lent r) text) → IsNew (lends records) text
new_in_all text [] none = λ i is. absurd (cc (is))
new_in_all text (r ∷ records) none = λ i is.
    ⊎_elim
    (λ here. none 0 r refl i (sym (get_left (lent r) (lends records) i here) ∙ is))
    (λ there.
    let e : i ≡ length (lent r) + (i - length (lent r)) = omega (arith, there) in
    new_in_all text records (λ at s got. none (suc at) s got) (i - length (lent r)) (sym (get_behind (lent r) (lends records) i (i - length (lent r)) e) ∙ is))
    (cases_lt i (length (lent r)))

-- ---- records that are not read

pub lent_unread : (p : WordsPlace) → length (lent (unread p)) ≡ p.count
lent_unread p = length-replicate p.count []

pub unread_numbered : (from : ℕ) (places : List WordsPlace) → AreInOrder from places → AreNumbered from (map unread places)
unread_numbered from [] order = order
unread_numbered from (p ∷ places) order = (order.0, lent_unread p, unread_numbered (from + p.count) places order.1)

abbrev pub no_text : List ℕ
no_text = []

pub empty_lent : (n i : ℕ) → i < n → slice_get (replicate n no_text) i ≡ Some no_text
empty_lent zero i lt = absurd (omega (arith, lt))
empty_lent (suc n) zero lt = refl
empty_lent (suc n) (suc i) lt = empty_lent n i (omega (arith, lt))

pub empty_is : (n i : ℕ) (text : List ℕ) → slice_get (replicate n no_text) i ≡ Some text → text ≡ []
empty_is zero i text is = absurd (cc (is))
empty_is (suc n) zero text is = cc (is)
empty_is (suc n) (suc i) text is = empty_is n i text is
