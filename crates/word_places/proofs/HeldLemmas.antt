-- Records that are held.
use Rattle.std.proofs.Common.{◌≡◌, ℕ, zero, suc, ◌+◌, ◌-◌, ◌<◌, ◌≤◌, List, [], ◌∷◌, length, get_or, set, All, refl, sym, ap, subst, ◌∙◌, arith, length-append, ⊎_elim}
use Rattle.std.specs.Prelude.{Option, Some, None, IfSome, slice_get, Contains, is_some, true, false}
use Rattle.std.proofs.lemmas.Bool.{cases_lt}
use Rattle.std.proofs.lemmas.Option.{get_or_from_slice_get, same_Some, slice_get_past, slice_get_within}
use Rattle.std.proofs.lemmas.List.Elements.{All-set, All-head, All-tail}
use Rattle.logtype_text.specs.declared.symbols.Kind.{Kind}
use Rattle.logtype_text.specs.declared.symbols.Kind.TheVariants.{Whole, Word, Decimal}
use Rattle.record_format.proofs.ListLemmas.{one_texts}
use Rattle.row_codec.specs.Numbers.{word_numbers}
use Rattle.word_places.specs.declared.place.WordsPlace.{WordsPlace}
use Rattle.word_places.specs.declared.held.HeldRecord.{HeldRecord}
use Rattle.word_places.specs.Places.{AreWords, OfTexts, OfWords, Spells, payload_in}
use Rattle.word_places.specs.Held.{AreHeld, AreNumbered, Grow, Grows, HasNumber, IsHeld, IsRight, RightTold, lent, lends, places_of}
use Rattle.word_places.specs.Laws.{HeldAgree, HeldStay}
use Rattle.word_places.specs.Local.{Agree}
use Rattle.word_places.specs.StepsHeld.{AreReadTo, Puts, TellsRead}
use Rattle.word_places.proofs.OrderLemmas.{get_behind, get_left, placed, text_lent}

-- ---- growth

grows_same : (r : HeldRecord) → Grows r r
grows_same r = record { place = refl; words = λ words is. is }

pub grow_same : (records : List HeldRecord) → Grow records records
grow_same [] = tt
grow_same (r ∷ records) = (grows_same r, grow_same records)

pub grow_on : (old mid new : List HeldRecord) → Grow old mid → Grow mid new → Grow old new
grow_on [] [] [] one two = tt
grow_on [] [] (s ∷ new) one two = absurd two
grow_on [] (s ∷ mid) new one two = absurd one
grow_on (r ∷ old) [] new one two = absurd one
grow_on (r ∷ old) (s ∷ mid) [] one two = absurd two
grow_on (r ∷ old) (s ∷ mid) (t ∷ new) one two =
    (record { place = two.0.place ∙ one.0.place; words = λ words is. two.0.words words (one.0.words words is) }, grow_on old mid new one.1 two.1)

pub grow_places : (old new : List HeldRecord) → Grow old new → places_of new ≡ places_of old
grow_places [] [] grow = refl
grow_places [] (s ∷ new) grow = absurd grow
grow_places (r ∷ old) [] grow = absurd grow
grow_places (r ∷ old) (s ∷ new) grow = (λ i. grow.0.place i ∷ grow_places old new grow.1 i)

pub grow_count : (from : ℕ) (old new : List HeldRecord) → AreNumbered from old → AreNumbered from new → Grow old new → length (lends new) ≡ length (lends old)
grow_count from [] [] are_old are_new grow = refl
grow_count from [] (s ∷ new) are_old are_new grow = absurd grow
grow_count from (r ∷ old) [] are_old are_new grow = absurd grow
grow_count from (r ∷ old) (s ∷ new) are_old are_new grow =
    let same : s.place.count ≡ r.place.count = ap (λ (p : WordsPlace). p.count) grow.0.place in
    let rest = grow_count (from + r.place.count) old new are_old.2 (subst (λ (n : ℕ). AreNumbered (from + n) new) same are_new.2) grow.1 in
    omega (arith, rest, same, are_old.1, are_new.1, length-append (lent r) (lends old), length-append (lent s) (lends new))

grow_at : (old new : List HeldRecord) (at : ℕ) (r : HeldRecord) → Grow old new → slice_get old at ≡ Some r → (s : HeldRecord) × (slice_get new at ≡ Some s) × Grows r s
grow_at [] [] at r grow is = absurd (cc (is))
grow_at [] (s ∷ new) at r grow is = absurd grow
grow_at (q ∷ old) [] at r grow is = absurd grow
grow_at (q ∷ old) (s ∷ new) zero r grow is =
    let same : q ≡ r = cc (is) in
    (s, refl, subst (λ (x : HeldRecord). Grows x s) same grow.0)
grow_at (q ∷ old) (s ∷ new) (suc at) r grow is = grow_at old new at r grow.1 is

pub grow_held : (old new : List HeldRecord) (number : ℕ) → Grow old new → IsHeld old number → IsHeld new number
grow_held old new number grow held =
    let there = grow_at old new held.at (record { place = held.place; words = Some held.words }) grow held.stands in
    let words : there.0.words ≡ Some held.words = there.2.words held.words refl in
    record {
      at = held.at;
      place = held.place;
      words = held.words;
      stands = there.1 ∙ (λ i. Some (record { place = there.2.place i; words = words i }));
      has = held.has;
    }

pub grow_all_held : (old new : List HeldRecord) (numbers : List ℕ) → AreNumbered 0 old → AreNumbered 0 new → Grow old new → AreHeld old numbers → AreHeld new numbers
grow_all_held old new numbers are_old are_new grow held = λ n at within.
    grow_held old new n grow (held n at (omega (arith, within, grow_count 0 old new are_old are_new grow)))

-- the word of a number that is held
pub held_word : (records : List HeldRecord) (number : ℕ) → AreNumbered 0 records → (held : IsHeld records number)
    → slice_get (lends records) number ≡ slice_get held.words (number - held.place.first)
held_word records number are held = text_lent records held.at number (record { place = held.place; words = Some held.words }) are held.stands held.has

pub held_stays : HeldStay
unfolding grow_held
held_stays old new number are_old are_new grow held =
    (grow_held old new number grow held, held_word new number are_new (grow_held old new number grow held) ∙ sym (held_word old number are_old held))

-- ---- a record that is read

set_at_same : (records : List HeldRecord) (at : ℕ) (r x : HeldRecord) → slice_get records at ≡ Some r → slice_get (set records at x) at ≡ Some x
set_at_same [] at r x is = absurd (cc (is))
set_at_same (q ∷ records) zero r x is = refl
set_at_same (q ∷ records) (suc at) r x is = set_at_same records at r x is

grow_set : (records : List HeldRecord) (at : ℕ) (r x : HeldRecord) → slice_get records at ≡ Some r → Grows r x → Grow records (set records at x)
grow_set [] at r x is grows = absurd (cc (is))
grow_set (q ∷ records) zero r x is grows =
    let same : r ≡ q = cc (is) in
    (subst (λ (y : HeldRecord). Grows y x) same grows, grow_same records)
grow_set (q ∷ records) (suc at) r x is grows = (grows_same q, grow_set records at r x is grows)

numbered_set : (from : ℕ) (records : List HeldRecord) (at : ℕ) (r x : HeldRecord) → AreNumbered from records → slice_get records at ≡ Some r → x.place ≡ r.place
    → length (lent x) ≡ r.place.count → AreNumbered from (set records at x)
numbered_set from [] at r x are is place many = absurd (cc (is))
numbered_set from (q ∷ records) zero r x are is place many =
    let same : r ≡ q = cc (is) in
    let first : x.place.first ≡ from = ap (λ (p : WordsPlace). p.first) place ∙ ap (λ (y : HeldRecord). y.place.first) same ∙ are.0 in
    let count : q.place.count ≡ x.place.count = ap (λ (y : HeldRecord). y.place.count) (sym same) ∙ ap (λ (p : WordsPlace). p.count) (sym place) in
    (first, many ∙ ap (λ (p : WordsPlace). p.count) (sym place), subst (λ (n : ℕ). AreNumbered (from + n) records) count are.2)
numbered_set from (q ∷ records) (suc at) r x are is place many = (are.0, are.1, numbered_set (from + q.place.count) records at r x are.2 is place many)

-- a record that was put into its place
pub record HasPut (told : Option (List ℕ)) (old : List HeldRecord) (at number : ℕ) (new : List HeldRecord) : Type 0 where
  pub numbered : AreNumbered 0 new
  pub grow : Grow old new
  pub right : RightTold told old → RightTold told new
  pub held : IsHeld new number

right_set : (told : Option (List ℕ)) (records : List HeldRecord) (at : ℕ) (place : WordsPlace) (words : List (List ℕ)) → IfSome told (λ bytes. Spells place (payload_in place bytes) words)
    → RightTold told records → RightTold told (set records at (record { place = place; words = Some words }))
right_set None records at place words spells right = tt
right_set (Some bytes) records at place words spells right =
    All-set (IsRight bytes) records at (record { place = place; words = Some words })
    (λ others is. let same : words ≡ others = cc (is) in subst (λ (ws : List (List ℕ)). Spells place (payload_in place bytes) ws) same spells) right

pub put_in : (told : Option (List ℕ)) (old new : List HeldRecord) (at number : ℕ) (r : HeldRecord) (words : List (List ℕ)) → AreNumbered 0 old → slice_get old at ≡ Some r
    → HasNumber r number → r.words ≡ None → length words ≡ r.place.count → IfSome told (λ bytes. Spells r.place (payload_in r.place bytes) words) → Puts old at words new
    → HasPut told old at number new
put_in told old new at number r words are is has none many spells puts =
    let x : HeldRecord = record { place = r.place; words = Some words } in
    subst (λ (records : List HeldRecord). HasPut told old at number records) (sym (puts r is)) (record {
      numbered = numbered_set 0 old at r x are is refl many;
      grow = grow_set old at r x is (record { place = refl; words = λ others was. absurd (cc (none, was)) });
      right = λ right. right_set told old at r.place words spells right;
      held = record { at = at; place = r.place; words = words; stands = set_at_same old at r x is; has = record { low = has.low; high = has.high } };
    })

-- a record that was read already
pub read_is_held : (records : List HeldRecord) (at number : ℕ) (r : HeldRecord) → slice_get records at ≡ Some r → HasNumber r number → TellsRead records at true → IsHeld records number
read_is_held records at number r is has tells = read r.place r.words is has (tells r is)
  where
    read : (place : WordsPlace) (words : Option (List (List ℕ))) → slice_get records at ≡ Some (record { place = place; words = words })
        → HasNumber (record { place = place; words = words }) number → true ≡ is_some words → IsHeld records number
    read place None stands has is_read = absurd (cc (is_read))
    read place (Some words) stands has is_read = record { at = at; place = place; words = words; stands = stands; has = has }

pub not_read : (records : List HeldRecord) (at : ℕ) (r : HeldRecord) → slice_get records at ≡ Some r → TellsRead records at false → r.words ≡ None
not_read records at r is tells = none r.words (tells r is)
  where
    none : (words : Option (List (List ℕ))) → false ≡ is_some words → words ≡ None
    none None is_not = refl
    none (Some words) is_not = absurd (cc (is_not))

-- ---- places

pub place_got : (records : List HeldRecord) (at : ℕ) (r : HeldRecord) → slice_get records at ≡ Some r → slice_get (places_of records) at ≡ Some r.place
place_got [] at r is = absurd (cc (is))
place_got (q ∷ records) zero r is = let same : q ≡ r = cc (is) in ap (λ (x : HeldRecord). Some x.place) same
place_got (q ∷ records) (suc at) r is = place_got records at r is

pub contained : {X : Type 0} (xs : List X) (at : ℕ) (x : X) → slice_get xs at ≡ Some x → Contains xs x
contained xs at x is = (at, slice_get_within xs at x is, get_or_from_slice_get xs at x x is)

pub place_listed : (records : List HeldRecord) (at : ℕ) (place : WordsPlace) → ((r : HeldRecord) × (slice_get records at ≡ Some r) × (place ≡ r.place)) → slice_get (places_of records) at ≡ Some place
place_listed records at place r = place_got records at r.0 r.1 ∙ ap Some (sym r.2)

-- a record is put into its place
pub put_place : (told : Option (List ℕ)) (old new : List HeldRecord) (at number : ℕ) (place : WordsPlace) (words : List (List ℕ)) → AreNumbered 0 old
    → ((r : HeldRecord) × (slice_get old at ≡ Some r) × HasNumber r number × (r.words ≡ None)) → ((r : HeldRecord) × (slice_get old at ≡ Some r) × (place ≡ r.place))
    → length words ≡ place.count → IfSome told (λ bytes. Spells place (payload_in place bytes) words) → Puts old at words new → HasPut told old at number new
put_place told old new at number place words are r s many spells puts =
    let one : s.0 ≡ r.0 = same_Some s.0 r.0 (sym s.1 ∙ r.1) in
    let same : place ≡ r.0.place = s.2 ∙ ap (λ (x : HeldRecord). x.place) one in
    put_in told old new at number r.0 words are r.1 r.2 r.3 (many ∙ ap (λ (p : WordsPlace). p.count) same)
    (subst (λ (p : WordsPlace). IfSome told (λ bytes. Spells p (payload_in p bytes) words)) same spells) puts

-- the words of all records have those of each
spells_at : (from : ℕ) (places : List WordsPlace) (bytes : List ℕ) (words : List (List ℕ)) (at : ℕ) (p : WordsPlace) → AreWords from places bytes words → slice_get places at ≡ Some p
    → (texts : List (List ℕ)) × Spells p (payload_in p bytes) texts
spells_at from [] bytes words at p are is = absurd (cc (is))
spells_at from (q ∷ places) bytes words zero p are is =
    let same : q ≡ p = cc (is) in
    (are.0, subst (λ (x : WordsPlace). Spells x (payload_in x bytes) are.0) same are.3)
spells_at from (q ∷ places) bytes words (suc at) p are is = spells_at (from + q.count) places bytes are.1 at p are.4 is

-- where one record has none, there are none at all
pub none_at : (told : Option (List ℕ)) (places : List WordsPlace) (at : ℕ) (p : WordsPlace) → slice_get places at ≡ Some p → OfTexts told p (λ _. ⊥) → OfWords told places (λ _. ⊥)
none_at None places at p is none = tt
none_at (Some bytes) places at p is none = λ words are.
    let there = spells_at 0 places bytes words at p are is in none there.0 there.1

-- ---- the words of the bytes

pub one_payload : (p : WordsPlace) (payload : List ℕ) (a b : List (List ℕ)) → Spells p payload a → Spells p payload b → a ≡ b
one_payload p payload a b one two = (one_texts p.first p.first a b one.first one.first one.are two.are (sym one.spelled ∙ two.spelled)).1

-- as many as are lent
pub words_count : (from : ℕ) (records : List HeldRecord) (bytes : List ℕ) (words : List (List ℕ)) → AreNumbered from records → AreWords from (places_of records) bytes words
    → length words ≡ length (lends records)
words_count from [] bytes words are spelled = ap (λ (l : List (List ℕ)). length l) spelled
words_count from (r ∷ records) bytes words are spelled =
    let rest = words_count (from + r.place.count) records bytes spelled.1 are.2 spelled.4 in
    omega (arith, ap (λ (l : List (List ℕ)). length l) spelled.5, length-append spelled.0 spelled.1, spelled.3.count, are.1, length-append (lent r) (lends records), rest)

agrees_at : (from : ℕ) (records : List HeldRecord) (bytes : List ℕ) (words : List (List ℕ)) (at i : ℕ) (place : WordsPlace) (ws : List (List ℕ)) → AreNumbered from records → All (IsRight bytes) records
    → AreWords from (places_of records) bytes words → slice_get records at ≡ Some (record { place = place; words = Some ws }) → i < place.count
    → slice_get words (place.first - from + i) ≡ slice_get (lends records) (place.first - from + i)
agrees_at from [] bytes words at i place ws are right spelled is within = absurd (cc (is))
agrees_at from (q ∷ records) bytes words zero i place ws are right spelled is within =
    let same : q ≡ record { place = place; words = Some ws } = cc (is) in
    let count : q.place.count ≡ place.count = ap (λ (x : HeldRecord). x.place.count) same in
    let here : i < length spelled.0 = omega (arith, within, spelled.3.count, count) in
    let lent_here : i < length (lent q) = omega (arith, within, are.1, count) in
    let e : place.first - from + i ≡ i = omega (arith, are.0, ap (λ (x : HeldRecord). x.place.first) same) in
    let read : lent q ≡ ws = ap lent same in
    let mine : Spells q.place (payload_in q.place bytes) ws = All-head (IsRight bytes) q records right ws (ap (λ (x : HeldRecord). x.words) same) in
    let texts : spelled.0 ≡ lent q = one_payload q.place (payload_in q.place bytes) spelled.0 ws spelled.3 mine ∙ sym read in
    ap (λ (n : ℕ). slice_get words n) e ∙ ap (λ (l : List (List ℕ)). slice_get l i) spelled.5 ∙ get_left spelled.0 spelled.1 i here
    ∙ ap (λ (l : List (List ℕ)). slice_get l i) texts ∙ sym (get_left (lent q) (lends records) i lent_here) ∙ ap (λ (n : ℕ). slice_get (lends (q ∷ records)) n) (sym e)
agrees_at from (q ∷ records) bytes words (suc at) i place ws are right spelled is within =
    let r : HeldRecord = record { place = place; words = Some ws } in
    let low = (placed (from + q.place.count) records at r are.2 is).low in
    let n : ℕ = place.first - (from + q.place.count) + i in
    let mine : place.first - from + i ≡ length spelled.0 + n = omega (arith, low, spelled.3.count) in
    let theirs : place.first - from + i ≡ length (lent q) + n = omega (arith, low, are.1) in
    ap (λ (l : List (List ℕ)). slice_get l (place.first - from + i)) spelled.5 ∙ get_behind spelled.0 spelled.1 (place.first - from + i) n mine
    ∙ agrees_at (from + q.place.count) records bytes spelled.1 at i place ws are.2 (All-tail (IsRight bytes) q records right) spelled.4 is within
    ∙ sym (get_behind (lent q) (lends records) (place.first - from + i) n theirs)

pub held_agrees : HeldAgree
held_agrees bytes records words number are right spelled held =
    let e : held.place.first - 0 + (number - held.place.first) ≡ number = omega (arith, held.has.low) in
    let at = agrees_at 0 records bytes words held.at (number - held.place.first) held.place held.words are right spelled held.stands (omega (arith, held.has.low, held.has.high)) in
    ap (λ (n : ℕ). slice_get words n) (sym e) ∙ at ∙ ap (λ (n : ℕ). slice_get (lends records) n) e

-- at numbers that are held, the words agree
pub all_agree : (bytes : List ℕ) (records : List HeldRecord) (words : List (List ℕ)) (numbers : List ℕ) → AreNumbered 0 records → All (IsRight bytes) records
    → AreWords 0 (places_of records) bytes words → AreHeld records numbers → Agree numbers words (lends records)
all_agree bytes records words numbers are right spelled held = λ n at.
    ⊎_elim
    (λ within. held_agrees bytes records words n are right spelled (held n at within))
    (λ past. slice_get_past words n (omega (arith, past, words_count 0 records bytes words are spelled)) ∙ sym (slice_get_past (lends records) n past))
    (cases_lt n (length (lends records)))

pub agree_told : (told : Option (List ℕ)) (old new : List HeldRecord) (numbers : List ℕ) → AreNumbered 0 new → Grow old new → RightTold told new → AreHeld new numbers
    → OfWords told (places_of old) (λ words. Agree numbers words (lends new))
agree_told None old new numbers are grow right held = tt
agree_told (Some bytes) old new numbers are grow right held = λ words spelled.
    all_agree bytes new words numbers are right (subst (λ (ps : List WordsPlace). AreWords 0 ps bytes words) (sym (grow_places old new grow)) spelled) held

-- ---- the records at the front

-- a record whose words are there has them
some_words : (words : Option (List (List ℕ))) → is_some words ≡ true → (ws : List (List ℕ)) × (words ≡ Some ws)
some_words None is = absurd (cc (is))
some_words (Some ws) is = (ws, refl)

-- which record grew into one
grow_from : (old new : List HeldRecord) (at : ℕ) (s : HeldRecord) → Grow old new → slice_get new at ≡ Some s → (r : HeldRecord) × (slice_get old at ≡ Some r) × Grows r s
grow_from [] [] at s grow is = absurd (cc (is))
grow_from [] (t ∷ new) at s grow is = absurd grow
grow_from (q ∷ old) [] at s grow is = absurd grow
grow_from (q ∷ old) (t ∷ new) zero s grow is =
    let same : t ≡ s = cc (is) in
    (q, refl, subst (λ (x : HeldRecord). Grows q x) same grow.0)
grow_from (q ∷ old) (t ∷ new) (suc at) s grow is = grow_from old new at s grow.1 is

-- what was read stays so
pub read_grown : (count : ℕ) (old new : List HeldRecord) → Grow old new → AreReadTo count old → AreReadTo count new
read_grown count old new grow read at s lt is =
    let was = grow_from old new at s grow is in
    let words = some_words was.0.words (read at was.0 lt was.1) in
    ap is_some (was.2.words words.0 words.1)

-- the record that has a number
having : (from : ℕ) (records : List HeldRecord) (number : ℕ) → AreNumbered from records → from ≤ number → number < from + length (lends records)
    → (at : ℕ) × (r : HeldRecord) × (slice_get records at ≡ Some r) × HasNumber r number
having from [] number are low high = absurd (omega (arith, low, high))
having from (r ∷ records) number are low high =
    ⊎_elim
    (λ here. (0, r, refl, record { low = omega (arith, low, are.0); high = omega (arith, here, are.0) }))
    (λ there.
    let rest = having (from + r.place.count) records number are.2 (omega (arith, there)) (omega (arith, high, are.1, length-append (lent r) (lends records))) in
    (suc rest.0, rest.1, rest.2, rest.3))
    (cases_lt number (from + r.place.count))

-- where all records were read, each number is held
pub all_held : (count : ℕ) (records : List HeldRecord) (numbers : List ℕ) → AreNumbered 0 records → AreReadTo count records → length records ≤ count → AreHeld records numbers
all_held count records numbers are read whole n listed within =
    let r = having 0 records n are (omega arith) (omega (arith, within)) in
    read_is_held records r.0 n r.1 r.2 r.3 (λ s is. sym (read r.0 s (omega (arith, whole, slice_get_within records r.0 s is)) is))

-- a number that is below those of a record stands in one before it
before_next : (from : ℕ) (records : List HeldRecord) (at next number : ℕ) (r s : HeldRecord) → AreNumbered from records → slice_get records at ≡ Some r → slice_get records next ≡ Some s
    → r.place.first ≤ number → number < s.place.first → at < next
before_next from [] at next number r s are is behind low high = absurd (cc (is))
before_next from (q ∷ records) at zero number r s are is behind low high =
    let same : q ≡ s = cc (behind) in
    absurd (omega (arith, low, high, (placed from (q ∷ records) at r are is).low, are.0, ap (λ (x : HeldRecord). x.place.first) same))
before_next from (q ∷ records) zero (suc next) number r s are is behind low high = omega arith
before_next from (q ∷ records) (suc at) (suc next) number r s are is behind low high =
    let rest = before_next (from + q.place.count) records at next number r s are.2 is behind low high in
    omega (arith, rest)

-- so it is held, where those were read
pub held_before : (count number : ℕ) (records : List HeldRecord) (s : HeldRecord) → AreNumbered 0 records → AreReadTo count records → slice_get records count ≡ Some s → number < s.place.first
    → number < length (lends records) → IsHeld records number
held_before count number records s are read next below within =
    let r = having 0 records number are (omega arith) (omega (arith, within)) in
    let lt = before_next 0 records r.0 count number r.1 s are r.2 next r.3.low below in
    read_is_held records r.0 number r.1 r.2 r.3 (λ t got. sym (read r.0 t lt got))

-- the numbers of a row are among its words
contains_on : (x : ℕ) (xs : List ℕ) (n : ℕ) → Contains xs n → Contains (x ∷ xs) n
contains_on x xs n at = (suc at.0, omega (arith, at.1), at.2)

first_or_behind : (x : ℕ) (xs ys : List ℕ) (n : ℕ) → (Contains xs n → Contains ys n) → Contains (x ∷ xs) n → Contains (x ∷ ys) n
first_or_behind x xs ys n behind at = one at.0 at.1 at.2
  where
    one : (k : ℕ) → k < length (x ∷ xs) → get_or (x ∷ xs) k n ≡ n → Contains (x ∷ ys) n
    one zero lt is = (0, omega arith, is)
    one (suc k) lt is = contains_on x ys n (behind (k, omega (arith, lt), is))

numbers_within : (kinds : List Kind) (words : List ℕ) (n : ℕ) → Contains (word_numbers kinds words) n → Contains words n
numbers_within [] words n at = absurd (omega (arith, at.1))
numbers_within (kind ∷ kinds) [] n at = absurd (omega (arith, at.1))
numbers_within (Word ∷ kinds) (word ∷ words) n at = first_or_behind word (word_numbers kinds words) words n (numbers_within kinds words n) at
numbers_within (Whole ∷ kinds) (word ∷ words) n at = contains_on word words n (numbers_within kinds words n at)
numbers_within (Decimal ∷ kinds) (word ∷ words) n at = contains_on word words n (numbers_within kinds words n at)

pub held_numbers : (records : List HeldRecord) (kinds : List Kind) (words : List ℕ) → AreHeld records words → AreHeld records (word_numbers kinds words)
held_numbers records kinds words held = λ n at. held n (numbers_within kinds words n at)

-- one more
pub read_more : (count : ℕ) (records : List HeldRecord) → AreReadTo count records → TellsRead records count true → AreReadTo (count + 1) records
read_more count records read tells at r lt is =
    ⊎_elim
    (λ before. read at r before is)
    (λ last.
    let same : at ≡ count = omega (arith, lt, last) in
    sym (tells r (subst (λ (n : ℕ). slice_get records n ≡ Some r) same is)))
    (cases_lt at count)

-- more than that are not there
pub read_end : (count : ℕ) (records : List HeldRecord) → AreReadTo count records → length records ≤ count → AreReadTo (length records) records
read_end count records read end at r lt is = read at r (omega (arith, lt, end)) is
