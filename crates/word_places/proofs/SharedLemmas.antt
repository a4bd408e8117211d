-- Words of a share that are taken in.
use Rattle.std.proofs.Common.{◌≡◌, ℕ, zero, suc, ◌+◌, ◌<◌, ◌≤◌, List, [], ◌∷◌, length, set, refl, sym, ap, subst, ◌∙◌, arith}
use Rattle.std.specs.Prelude.{Option, Some, None, is_some, slice_get, true}
use Rattle.std.proofs.lemmas.List.Elements.{All-cons, All-head, All-tail}
use Rattle.word_places.specs.declared.place.WordsPlace.{WordsPlace}
use Rattle.word_places.specs.declared.held.HeldRecord.{HeldRecord}
use Rattle.word_places.specs.Held.{AreNumbered, Grow, IsHeld, IsRight, RightTold, places_of, unread, words_or}
use Rattle.word_places.specs.Shared.{taken_each, with_words, words_first}

-- ---- so many records were taken in

abbrev pub taken_to : ℕ → List HeldRecord → List HeldRecord → List HeldRecord
taken_to zero old others = old
taken_to (suc at) [] others = []
taken_to (suc at) (r ∷ old) [] = r ∷ old
taken_to (suc at) (r ∷ old) (s ∷ others) = with_words r s.words ∷ taken_to at old others

abbrev pub left_to : ℕ → List HeldRecord → List HeldRecord
left_to zero others = others
left_to (suc at) [] = []
left_to (suc at) (s ∷ others) = unread s.place ∷ left_to at others

-- the records are these, and the others have no words up to there
pub record AreTakenTo (at : ℕ) (old others new left : List HeldRecord) : Type 0 where
  pub taken : new ≡ taken_to at old others
  pub rest : left ≡ left_to at others
  pub long : length new ≡ length old
  pub beside : length left ≡ length others

got : (xs : List HeldRecord) (at : ℕ) → at < length xs → (x : HeldRecord) × (slice_get xs at ≡ Some x)
got [] at lt = absurd (omega (arith, lt))
got (x ∷ xs) zero lt = (x, refl)
got (x ∷ xs) (suc at) lt = got xs at (omega (arith, lt))

set_long : (xs : List HeldRecord) (at : ℕ) (x : HeldRecord) → length (set xs at x) ≡ length xs
set_long [] at x = refl
set_long (y ∷ xs) zero x = refl
set_long (y ∷ xs) (suc at) x = ap suc (set_long xs at x)

taken_at : (at : ℕ) (old others : List HeldRecord) → slice_get (taken_to at old others) at ≡ slice_get old at
taken_at zero old others = refl
taken_at (suc at) [] others = refl
taken_at (suc at) (r ∷ old) [] = refl
taken_at (suc at) (r ∷ old) (s ∷ others) = taken_at at old others

left_at : (at : ℕ) (others : List HeldRecord) → slice_get (left_to at others) at ≡ slice_get others at
left_at zero others = refl
left_at (suc at) [] = refl
left_at (suc at) (s ∷ others) = left_at at others

taken_set : (at : ℕ) (old others : List HeldRecord) (r s : HeldRecord) → slice_get old at ≡ Some r → slice_get others at ≡ Some s
    → set (taken_to at old others) at (with_words r s.words) ≡ taken_to (suc at) old others
taken_set at [] others r s is theirs = absurd (cc (is))
taken_set at (q ∷ old) [] r s is theirs = absurd (cc (theirs))
taken_set zero (q ∷ old) (t ∷ others) r s is theirs =
    let one : r ≡ q = cc (is) in
    let two : s ≡ t = cc (theirs) in
    (λ i. with_words (one i) (two i).words ∷ old)
taken_set (suc at) (q ∷ old) (t ∷ others) r s is theirs = ap (λ (l : List HeldRecord). with_words q t.words ∷ l) (taken_set at old others r s is theirs)

left_set : (at : ℕ) (others : List HeldRecord) (s : HeldRecord) → slice_get others at ≡ Some s → set (left_to at others) at (unread s.place) ≡ left_to (suc at) others
left_set at [] s is = absurd (cc (is))
left_set zero (t ∷ others) s is =
    let one : s ≡ t = cc (is) in
    (λ i. unread (one i).place ∷ others)
left_set (suc at) (t ∷ others) s is = ap (λ (l : List HeldRecord). unread t.place ∷ l) (left_set at others s is)

-- a record that has words keeps them
pub set_kept : (records : List HeldRecord) (at : ℕ) (r : HeldRecord) (words : Option (List (List ℕ))) → slice_get records at ≡ Some r → is_some r.words ≡ true → records ≡ set records at (with_words r words)
set_kept [] at r words is some = absurd (cc (is))
set_kept (q ∷ records) zero r words is some =
    let one : q ≡ r = cc (is) in
    ap (λ (x : HeldRecord). x ∷ records) (one ∙ kept r.place r.words some)
  where
    kept : (place : WordsPlace) (mine : Option (List (List ℕ))) → is_some mine ≡ true → record { place = place; words = mine } ≡ with_words (record { place = place; words = mine }) words
    kept place None some = absurd (cc (some))
    kept place (Some ws) some = refl
set_kept (q ∷ records) (suc at) r words is some = ap (λ (l : List HeldRecord). q ∷ l) (set_kept records at r words is some)

-- one more
pub taken_next : (at : ℕ) (old others now left new behind : List HeldRecord) (words : Option (List (List ℕ))) → AreTakenTo at old others now left → at < length old → length others ≡ length old
    → ((s : HeldRecord) → slice_get left at ≡ Some s → words ≡ s.words) → ((s : HeldRecord) → slice_get left at ≡ Some s → behind ≡ set left at (unread s.place))
    → ((r : HeldRecord) → slice_get now at ≡ Some r → new ≡ set now at (with_words r words)) → AreTakenTo (at + 1) old others new behind
taken_next at old others now left new behind words to lt same told leaves puts =
    let r = got old at lt in
    let s = got others at (omega (arith, lt, same)) in
    let here : slice_get now at ≡ Some r.0 = ap (λ (l : List HeldRecord). slice_get l at) to.taken ∙ taken_at at old others ∙ r.1 in
    let there : slice_get left at ≡ Some s.0 = ap (λ (l : List HeldRecord). slice_get l at) to.rest ∙ left_at at others ∙ s.1 in
    let next : suc at ≡ at + 1 = omega arith in
    let mine : new ≡ set now at (with_words r.0 s.0.words) = puts r.0 here ∙ ap (λ (w : Option (List (List ℕ))). set now at (with_words r.0 w)) (told s.0 there) in
    record {
      taken = mine ∙ ap (λ (l : List HeldRecord). set l at (with_words r.0 s.0.words)) to.taken ∙ taken_set at old others r.0 s.0 r.1 s.1 ∙ ap (λ (n : ℕ). taken_to n old others) next;
      rest = leaves s.0 there ∙ ap (λ (l : List HeldRecord). set l at (unread s.0.place)) to.rest ∙ left_set at others s.0 s.1 ∙ ap (λ (n : ℕ). left_to n others) next;
      long = ap (λ (l : List HeldRecord). length l) mine ∙ set_long now at (with_words r.0 s.0.words) ∙ to.long;
      beside = ap (λ (l : List HeldRecord). length l) (leaves s.0 there) ∙ set_long left at (unread s.0.place) ∙ to.beside;
    }

taken_all : (old others : List HeldRecord) → taken_to (length old) old others ≡ taken_each old others
taken_all [] others = refl
taken_all (r ∷ old) [] = refl
taken_all (r ∷ old) (s ∷ others) = ap (λ (l : List HeldRecord). with_words r s.words ∷ l) (taken_all old others)

-- all of them
pub taken_end : (at : ℕ) (old others now left : List HeldRecord) → AreTakenTo at old others now left → at ≡ length old → now ≡ taken_each old others
taken_end at old others now left to end = to.taken ∙ ap (λ (n : ℕ). taken_to n old others) end ∙ taken_all old others

-- ---- what holds of all

-- as many as the places
pub places_long : (old others : List HeldRecord) → places_of others ≡ places_of old → length others ≡ length old
places_long [] [] same = refl
places_long [] (s ∷ others) same = absurd (cc (same))
places_long (r ∷ old) [] same = absurd (cc (same))
places_long (r ∷ old) (s ∷ others) same = let rest : places_of others ≡ places_of old = cc (same) in ap suc (places_long old others rest)

pub taken_grow : (old others : List HeldRecord) → Grow old (taken_each old others)
taken_grow [] others = tt
taken_grow (r ∷ old) [] = (record { place = refl; words = λ words is. is }, same old)
  where
    same : (records : List HeldRecord) → Grow records records
    same [] = tt
    same (q ∷ records) = (record { place = refl; words = λ words is. is }, same records)
taken_grow (r ∷ old) (s ∷ others) = (record { place = refl; words = λ words is. ap (λ (w : Option (List (List ℕ))). words_first w s.words) is }, taken_grow old others)

count_first : (count : ℕ) (mine theirs : Option (List (List ℕ))) → length (words_or count mine) ≡ count → length (words_or count theirs) ≡ count → length (words_or count (words_first mine theirs)) ≡ count
count_first count None theirs one two = two
count_first count (Some words) theirs one two = one

pub taken_numbered : (from : ℕ) (old others : List HeldRecord) → places_of others ≡ places_of old → AreNumbered from old → AreNumbered from others → AreNumbered from (taken_each old others)
taken_numbered from [] others same are they = are
taken_numbered from (r ∷ old) [] same are they = are
taken_numbered from (r ∷ old) (s ∷ others) same are they =
    let place : s.place ≡ r.place = cc (same) in
    let rest : places_of others ≡ places_of old = cc (same) in
    let theirs : length (words_or r.place.count s.words) ≡ r.place.count = subst (λ (p : WordsPlace). length (words_or p.count s.words) ≡ p.count) place they.1 in
    (are.0, count_first r.place.count r.words s.words are.1 theirs, taken_numbered (from + r.place.count) old others rest are.2 (subst (λ (p : WordsPlace). AreNumbered (from + p.count) others) place they.2))

right_first : (bytes : List ℕ) (place : WordsPlace) (mine theirs : Option (List (List ℕ))) → IsRight bytes (record { place = place; words = mine }) → IsRight bytes (record { place = place; words = theirs })
    → IsRight bytes (record { place = place; words = words_first mine theirs })
right_first bytes place None theirs one two = two
right_first bytes place (Some words) theirs one two = one

pub taken_right : (told : Option (List ℕ)) (old others : List HeldRecord) → places_of others ≡ places_of old → RightTold told old → RightTold told others → RightTold told (taken_each old others)
taken_right None old others same are they = tt
taken_right (Some bytes) [] others same are they = are
taken_right (Some bytes) (r ∷ old) [] same are they = are
taken_right (Some bytes) (r ∷ old) (s ∷ others) same are they =
    let place : s.place ≡ r.place = cc (same) in
    let rest : places_of others ≡ places_of old = cc (same) in
    let theirs : IsRight bytes (record { place = r.place; words = s.words }) = subst (λ (p : WordsPlace). IsRight bytes (record { place = p; words = s.words })) place (All-head (IsRight bytes) s others they) in
    All-cons (IsRight bytes) (with_words r s.words) (taken_each old others) (right_first bytes r.place r.words s.words (All-head (IsRight bytes) r old are) theirs)
    (taken_right (Some bytes) old others rest (All-tail (IsRight bytes) r old are) (All-tail (IsRight bytes) s others they))

-- what stands where the other one stood
taken_got : (old others : List HeldRecord) (at : ℕ) (s : HeldRecord) → places_of others ≡ places_of old → slice_get others at ≡ Some s
    → (r : HeldRecord) × (slice_get (taken_each old others) at ≡ Some (with_words r s.words)) × (s.place ≡ r.place)
taken_got old [] at s same is = absurd (cc (is))
taken_got [] (t ∷ others) at s same is = absurd (cc (same))
taken_got (r ∷ old) (t ∷ others) zero s same is =
    let one : t ≡ s = cc (is) in
    let place : t.place ≡ r.place = cc (same) in
    (r, ap (λ (x : HeldRecord). Some (with_words r x.words)) one, ap (λ (x : HeldRecord). x.place) (sym one) ∙ place)
taken_got (r ∷ old) (t ∷ others) (suc at) s same is =
    let rest : places_of others ≡ places_of old = cc (same) in
    taken_got old others at s rest is

first_held : (records : List HeldRecord) (at number : ℕ) (place : WordsPlace) (mine : Option (List (List ℕ))) (words : List (List ℕ))
    → slice_get records at ≡ Some (record { place = place; words = words_first mine (Some words) }) → place.first ≤ number → number < place.first + place.count → IsHeld records number
first_held records at number place None words is low high = record { at = at; place = place; words = words; stands = is; has = record { low = low; high = high } }
first_held records at number place (Some ws) words is low high = record { at = at; place = place; words = ws; stands = is; has = record { low = low; high = high } }

-- what the other one has is held
pub taken_held : (old others : List HeldRecord) (number : ℕ) → places_of others ≡ places_of old → IsHeld others number → IsHeld (taken_each old others) number
taken_held old others number same held =
    let there = taken_got old others held.at (record { place = held.place; words = Some held.words }) same held.stands in
    let first : held.place.first ≡ there.0.place.first = ap (λ (p : WordsPlace). p.first) there.2 in
    let count : held.place.count ≡ there.0.place.count = ap (λ (p : WordsPlace). p.count) there.2 in
    first_held (taken_each old others) held.at number there.0.place there.0.words held.words there.1 (omega (arith, held.has.low, first)) (omega (arith, held.has.high, first, count))

-- all of it
pub record IsTakenIn (old others new : List HeldRecord) : Type 0 where
  pub numbered : AreNumbered 0 new
  pub grow : Grow old new
  pub held : (number : ℕ) → IsHeld others number → IsHeld new number
  pub right : (told : Option (List ℕ)) → RightTold told old → RightTold told others → RightTold told new

pub taken_in : (old others mine theirs new : List HeldRecord) → mine ≡ old → theirs ≡ others → places_of others ≡ places_of old → AreNumbered 0 mine → AreNumbered 0 theirs → new ≡ taken_each mine theirs
    → IsTakenIn old others new
taken_in old others mine theirs new is_old is_others same are they taken =
    let all : taken_each old others ≡ new = sym (taken ∙ (λ i. taken_each (is_old i) (is_others i))) in
    subst (λ (l : List HeldRecord). IsTakenIn old others l) all (record {
      numbered = taken_numbered 0 old others same (subst (AreNumbered 0) is_old are) (subst (AreNumbered 0) is_others they);
      grow = taken_grow old others;
      held = λ number held. taken_held old others number same held;
      right = λ told one two. taken_right told old others same one two;
    })
