-- The slots of log types, and what rows bring by them.
use Rattle.std.proofs.Common.{◌≡◌, ◌≢◌, ℕ, zero, suc, ◌+◌, ◌<◌, ◌≤◌, true, false, cond, List, [], ◌∷◌, ◌++◌, length, drop, refl, sym, ◌∙◌, ap, subst, arith, inl, inr, length-append}
use Rattle.std.specs.Prelude.{◌==◌, ◌⊎◌, ℤ, Option, None, Some, bit_and, bit_or, slice_get, slice_index_or}
use Rattle.std.proofs.lemmas.Bool.{cases_Bool, cases_lt}
use Rattle.column_store.specs.declared.row.Row.{Row}
use Rattle.row_codec.specs.Means.{HasStampText, HasWord}
use Rattle.logtype_text.specs.declared.symbols.Kind.{Kind}
use Rattle.logtype_text.specs.declared.symbols.Kind.TheVariants.{Whole, Word, Decimal}
use Rattle.logtype_text.specs.declared.symbols.Symbol.{Symbol}
use Rattle.logtype_text.specs.declared.symbols.Symbol.TheVariants.{Byte, Slot as SlotSymbol}
use Rattle.logtype_text.specs.TypeText.{is_escaped, text_of_symbol}
use Rattle.logtype_text.proofs.TextLemmas.{byte_symbol, plain_symbol, symbol_longer}
use Rattle.subquery_filter.specs.declared.filter.Filter.{Filter}
use Rattle.subquery_filter.specs.declared.slots.KindBits.{KindBits}
use Rattle.subquery_filter.specs.declared.slots.Slot.{Slot}
use Rattle.subquery_filter.specs.declared.slots.Sums.{Sums}
use Rattle.subquery_filter.specs.declared.slots.TypeTest.{TypeTest}
use Rattle.subquery_filter.specs.declared.token.Token.{Token}
use Rattle.subquery_filter.specs.Filter.{AreCoded, AreKindBits, AreMarks, AreNumberBits, AreSlots, AreStamps, AreSums, Covers, Finds, Has, IsSlot, StampMarks, MarksVariable, TellsSmall, marks_at, sum_at}
use Rattle.subquery_filter.specs.StepsFilter.{AreSummed, Brings, BringsWords, GivesAny, Lacks, ListedUpTo, SlotGives, SlotIs, Stays}
use Rattle.subquery_filter.specs.StepsLetters.{kind_at, kind_before, kinds_in}
use Rattle.subquery_filter.proofs.BitLemmas.{has_and, has_left, has_right, has_self, has_through}
use Rattle.subquery_filter.proofs.FilterLemmas.{push_got, push_last, slot_stays}
use Rattle.subquery_filter.proofs.LetterLemmas.{other_byte, same_byte}
use Rattle.subquery_filter.proofs.TokenLemmas.{kinds_byte, kinds_slot}

-- ---- a text that no symbol begins

stuck_escape : (text : List ℕ) → ((symbol : Symbol) (rest : List ℕ) → 0x5C ∷ text ≢ text_of_symbol symbol ++ rest) → kinds_in true text ≡ []
stuck_escape [] none = refl
stuck_escape (b ∷ text) none = elim (cases_Bool (is_escaped b)) [
  | inl is ↦ absurd (none (Byte b) text (sym (ap (λ t. cond t (0x5C ∷ b ∷ []) (b ∷ []) ++ text) is)))
  | inr other ↦ ap (λ t. cond t (kinds_in false text) []) other
]

kinds_stuck : (text : List ℕ) → ((symbol : Symbol) (rest : List ℕ) → text ≢ text_of_symbol symbol ++ rest) → kinds_in false text ≡ []
kinds_stuck [] none = refl
kinds_stuck (b ∷ text) none = elim (cases_Bool (b == 0x5C)) [
  | inl is ↦
      ap (λ t. cond t (kinds_in true text) (kind_before (kind_at b) (kinds_in false text))) is
      ∙ stuck_escape text (λ symbol rest same. none symbol rest (ap (λ x. x ∷ text) (same_byte b is) ∙ same))
  | inr other ↦ absurd (none (plain_symbol b) text (sym (ap (λ l. l ++ text) (byte_symbol b (other_byte b other)))))
]

-- ---- a slot is listed

pub slot_pushed : (tokens : List Token) (bits : KindBits) (old new : List Slot) (slot : Slot) (known place : ℕ) (kind : Kind) → new ≡ old ++ slot ∷ [] → slot.place ≡ place → slot.kind ≡ kind → Covers tokens kind slot.bits
    → (first : ℕ) → first ≤ length old → IsSlot tokens new first (length new) known place kind
slot_pushed tokens bits old new slot known place kind is same_place same_kind covers first le =
    inl (record {
      at = length old;
      from = le;
      to = omega (arith, ap length is, length-append old (slot ∷ []));
      slot = slot;
      is = subst (λ (l : List Slot). slice_get l (length old) ≡ Some slot) (sym is) (push_last old slot);
      same_place = same_place;
      same_kind = same_kind;
      covers = covers;
    })

pub slot_covered : (tokens : List Token) (slots : List Slot) (known bits place first end : ℕ) (kind : Kind) → Has known bits → Covers tokens kind bits → IsSlot tokens slots first end known place kind
slot_covered tokens slots known bits place first end kind has covers =
    inr (λ words variable word is j d lt m. has_through known bits _ has (covers words variable word is j d lt m))

pub stays_same : (slots : List Slot) → Stays slots slots
stays_same slots at slot is = is

pub stays_pushed : (old new : List Slot) (slot : Slot) → new ≡ old ++ slot ∷ [] → Stays old new
stays_pushed old new slot is at other there = subst (λ (l : List Slot). slice_get l at ≡ Some other) (sym is) (push_got old slot at other there)

pub stays_through : (a b c : List Slot) → Stays a b → Stays b c → Stays a c
stays_through a b c one two at slot is = two at slot (one at slot is)

-- ---- the loop over a log type's text

pub listed_none : (bits : KindBits) (text : List ℕ) (first known : ℕ) (slots : List Slot) → ListedUpTo bits text text 0 first known slots
listed_none bits text first known slots = record {
  left = refl;
  room = omega arith;
  listed = λ tokens are k kind lt at. absurd (omega (arith, lt));
}

drop_first : {X : Type 0} (xs : List X) (n : ℕ) (x : X) (rest : List X) → x ∷ rest ≡ drop n xs → (slice_get xs n ≡ Some x) × (rest ≡ drop (suc n) xs)
drop_first [] zero x rest is = absurd (cc is)
drop_first [] (suc n) x rest is = absurd (cc is)
drop_first (y ∷ xs) zero x rest is = let head : x ≡ y = cc (is) in let tail : rest ≡ xs = cc (is) in (ap Some (sym head), tail)
drop_first (y ∷ xs) (suc n) x rest is = drop_first xs n x rest is

drop_none : {X : Type 0} (xs : List X) (n k : ℕ) (x : X) → [] ≡ drop n xs → slice_get xs k ≡ Some x → k < n
drop_none [] n k x none at = absurd (cc at)
drop_none (y ∷ xs) zero k x none at = absurd (cc none)
drop_none (y ∷ xs) (suc n) zero x none at = omega arith
drop_none (y ∷ xs) (suc n) (suc k) x none at = let lt = drop_none xs n k x none at in omega (arith, lt)

pub listed_slot : (bits : KindBits) (text rest after : List ℕ) (place first known : ℕ) (kind : Kind) (symbol : Symbol) (old new : List Slot) → rest ≡ text_of_symbol symbol ++ after → symbol ≡ SlotSymbol kind
    → Stays old new → length old ≤ length new → first ≤ length old
    → ((tokens : List Token) → AreKindBits tokens bits → (n : ℕ) → n ≤ length old → IsSlot tokens new n (length new) known place kind)
    → ListedUpTo bits text rest place first known old → ListedUpTo bits text after (place + 1) first known new
listed_slot bits text rest after place first known kind symbol old new is same stays more le here h =
    let kinds : kind ∷ kinds_in false after ≡ drop place (kinds_in false text) =
    sym (kinds_slot kind after) ∙ ap (λ (s : Symbol). kinds_in false (text_of_symbol s ++ after)) (sym same) ∙ ap (kinds_in false) (sym is) ∙ h.left in
    let found = drop_first (kinds_in false text) place kind (kinds_in false after) kinds in
    let next : suc place ≡ place + 1 = omega arith in
    record {
      left = found.1 ∙ ap (λ n. drop n (kinds_in false text)) next;
      room = let longer = symbol_longer symbol after in omega (arith, ap length is, longer, h.room);
      listed = λ tokens are k other lt at. elim (cases_lt k place) [
        | inl less ↦ slot_stays tokens old new first (length old) known k other stays (length new) more (h.listed tokens are k other less at)
        | inr past ↦
            let e : place ≡ k = omega (arith, lt, past) in
            let there : slice_get (kinds_in false text) k ≡ Some kind = subst (λ n. slice_get (kinds_in false text) n ≡ Some kind) e found.0 in
            let kinds_same : kind ≡ other = same_kinds (slice_get (kinds_in false text) k) kind other there at in
            subst (λ n. IsSlot tokens new first (length new) known n other) e (subst (λ (x : Kind). IsSlot tokens new first (length new) known place x) kinds_same (here tokens are first le))
      ];
    }
  where
    same_kinds : (o : Option Kind) (a b : Kind) → o ≡ Some a → o ≡ Some b → a ≡ b
    same_kinds o a b one two = cc (one, two)

-- the same behind constants that stand there as they are
pub listed_past : (bits : KindBits) (text rest past : List ℕ) (place first known : ℕ) (slots : List Slot) → kinds_in false past ≡ kinds_in false rest → length past ≤ length rest
    → ListedUpTo bits text rest place first known slots → ListedUpTo bits text past place first known slots
listed_past bits text rest past place first known slots same shorter h =
    record { left = same ∙ h.left; room = omega (arith, shorter, h.room); listed = h.listed }

-- and behind a constant
pub listed_byte : (bits : KindBits) (text rest after : List ℕ) (place first known : ℕ) (symbol : Symbol) (slots : List Slot) → rest ≡ text_of_symbol symbol ++ after → ((kind : Kind) → symbol ≢ SlotSymbol kind)
    → ListedUpTo bits text rest place first known slots → ListedUpTo bits text after place first known slots
listed_byte bits text rest after place first known (Byte b) slots is other h = record {
  left = sym (kinds_byte b after) ∙ ap (kinds_in false) (sym is) ∙ h.left;
  room = let longer = symbol_longer (Byte b) after in omega (arith, ap length is, longer, h.room);
  listed = h.listed;
}
listed_byte bits text rest after place first known (SlotSymbol kind) slots is other h = absurd (other kind refl)

pub listed_all : (bits : KindBits) (text rest : List ℕ) (place first known : ℕ) (slots : List Slot) → ((symbol : Symbol) (after : List ℕ) → rest ≢ text_of_symbol symbol ++ after) → ListedUpTo bits text rest place first known slots
    → (tokens : List Token) → AreKindBits tokens bits → AreSlots tokens text slots first (length slots) known
listed_all bits text rest place first known slots none h tokens are k kind at =
    h.listed tokens are k kind (drop_none (kinds_in false text) place k kind (sym (kinds_stuck rest none) ∙ h.left) at) at

-- ---- what a row brings by its slots

pub gives_more : (f : Filter) (slot : Slot) (word bits more : ℕ) → Has more bits → SlotGives f slot word bits → SlotGives f slot word more
gives_more f slot word bits more has gives words variable marks brought small numbers coded is j d lt m own = has_through more bits _ has (gives words variable marks brought small numbers coded is j d lt m own)

pub is_more : (f : Filter) (at : ℕ) (row : List ℕ) (bits more : ℕ) → Has more bits → SlotIs f at row bits → SlotIs f at row more
is_more f at row bits more has is slot word there here = gives_more f slot word bits more has (is slot word there here)

-- the slots listed from the first up to a place
abbrev pub SlotsBefore : Filter → List ℕ → ℕ → ℕ → ℕ → Type 0
SlotsBefore f row first end bits = (at : ℕ) → first ≤ at → at < end → SlotIs f at row bits

pub slots_step : (f : Filter) (row : List ℕ) (first end bits more : ℕ) → Has (bit_or bits more) bits → SlotIs f end row (bit_or bits more) → SlotsBefore f row first end bits → SlotsBefore f row first (end + 1) (bit_or bits more)
slots_step f row first end bits more has here before at from to = elim (cases_lt at end) [
  | inl less ↦ is_more f at row bits (bit_or bits more) has (before at from less)
  | inr past ↦ subst (λ n. SlotIs f n row (bit_or bits more)) (omega (arith, to, past)) here
]

same_slots : (o : Option Slot) (a b : Slot) → o ≡ Some a → o ≡ Some b → a ≡ b
same_slots o a b one two = cc (one, two)

pub is_given : (f : Filter) (at : ℕ) (row : List ℕ) (all : ℕ) (mine : Slot) → Some mine ≡ slice_get f.slots.items at → ((word : ℕ) → slice_get row mine.place ≡ Some word → SlotGives f mine word all) → SlotIs f at row all
is_given f at row all mine got gives slot word there here =
    let same = same_slots (slice_get f.slots.items at) mine slot (sym got) there in
    subst (λ (x : Slot). SlotGives f x word all) same (gives word (subst (λ (x : Slot). slice_get row x.place ≡ Some word) (sym same) here))

pub gives_short : (f : Filter) (slot : Slot) (row : List ℕ) (all : ℕ) → None ≡ slice_get row slot.place → (word : ℕ) → slice_get row slot.place ≡ Some word → SlotGives f slot word all
gives_short f slot row all none word here = absurd (let e : None ≡ Some word = none ∙ here in cc)

pub gives_brought : (f : Filter) (slot : Slot) (row : List ℕ) (all bits w : ℕ) → Some w ≡ slice_get row slot.place → Has all bits
    → ((words : List (List ℕ)) (variable : List ℕ) → (slot.kind ≡ Word → AreMarks f.tokens.items words f.marks) → TellsSmall f.tokens.items f.small → AreCoded f.tokens.items → HasWord words slot.kind variable w → MarksVariable f.tokens.items variable bits)
    → (word : ℕ) → slice_get row slot.place ≡ Some word → SlotGives f slot word all
gives_brought f slot row all bits w got more brings word here words variable marks brought small numbers coded is j d lt m own =
    let word_same : w ≡ word = same_words (slice_get row slot.place) w word (sym got) here in
    has_through all bits _ more (brings words variable marks small coded (subst (λ n. HasWord words slot.kind variable n) (sym word_same) is) j d lt m)
  where
    same_words : (o : Option ℕ) (a b : ℕ) → o ≡ Some a → o ≡ Some b → a ≡ b
    same_words o a b one two = cc (one, two)

-- a slot of a word brings no more than words do
pub word_brings : (f : Filter) (slot : Slot) (all : ℕ) → slot.kind ≡ Word → Has all (bit_and slot.bits f.brought) → (word : ℕ) → SlotGives f slot word all
word_brings f slot all kind more word words variable marks brought small numbers coded is j d lt m own =
    let k : Token = slice_index_or f.tokens.items j d in
    let there : HasWord words Word variable word = subst (λ (x : Kind). HasWord words x variable word) kind is in
    let marked : Has f.brought k.bit = has_through f.brought (marks_at f.marks word) k.bit (brought word) (marks kind word variable there.1 j d lt m.0) in
    has_through all (bit_and slot.bits f.brought) k.bit more (has_and slot.bits f.brought k.bit own marked)

-- no slot brings more than its own bits
pub own_brings : (f : Filter) (slot : Slot) (all : ℕ) → Has all slot.bits → (word : ℕ) → SlotGives f slot word all
own_brings f slot all more word words variable marks brought small numbers coded is j d lt m own = has_through all slot.bits _ more own

-- ---- what a row brings by its words, whatever slots they are in

-- the bits are those of the text of this word, where it is a variable of a kind
abbrev pub Told : Filter → Kind → ℕ → ℕ → Type 0
Told f kind word bits =
    (words : List (List ℕ)) (variable : List ℕ) → (kind ≡ Word → AreMarks f.tokens.items words f.marks) → TellsSmall f.tokens.items f.small → AreCoded f.tokens.items → HasWord words kind variable word
    → MarksVariable f.tokens.items variable bits

gives_told : (f : Filter) (kind : Kind) (word bits all : ℕ) → Told f kind word bits → Has all bits → (slot : Slot) → slot.kind ≡ kind → SlotGives f slot word all
gives_told f kind word bits all told more slot same words variable marks brought small numbers coded is j d lt m own =
    has_through all bits _ more (told words variable (λ e. marks (same ∙ e)) small coded (subst (λ (k : Kind). HasWord words k variable word) same is) j d lt m)

-- a number brings no more than numbers may
gives_number : (f : Filter) (kind : Kind) (word all : ℕ) → Has all f.numbers → kind ≢ Word → (slot : Slot) → slot.kind ≡ kind → SlotGives f slot word all
gives_number f kind word all more other slot same words variable marks brought small numbers coded is j d lt m own =
    has_through all f.numbers _ more (numbers kind other words variable word (subst (λ (k : Kind). HasWord words k variable word) same is) j d lt m)

one_word : (row : List ℕ) (place mine word : ℕ) → Some mine ≡ slice_get row place → slice_get row place ≡ Some word → mine ≡ word
one_word row place mine word got there = let e : Some mine ≡ Some word = got ∙ there in cc (e)

pub gives_any : (f : Filter) (row : List ℕ) (place word all by_word by_whole by_decimal : ℕ) → Some word ≡ slice_get row place → Told f Word word by_word → Told f Whole word by_whole → Told f Decimal word by_decimal
    → Has all by_word → Has all by_whole → Has all by_decimal → GivesAny f row place all
gives_any f row place word all by_word by_whole by_decimal got words wholes decimals one two three other there slot =
    subst (λ (n : ℕ). SlotGives f slot n all) (one_word row place word other got there) (by_kind slot.kind refl)
  where
    by_kind : (kind : Kind) → slot.kind ≡ kind → SlotGives f slot word all
    by_kind Word same = gives_told f Word word by_word all words one slot same
    by_kind Whole same = gives_told f Whole word by_whole all wholes two slot same
    by_kind Decimal same = gives_told f Decimal word by_decimal all decimals three slot same

pub gives_word : (f : Filter) (row : List ℕ) (place word all by_word : ℕ) → Some word ≡ slice_get row place → Told f Word word by_word → Has all by_word → Has all f.numbers → GivesAny f row place all
gives_word f row place word all by_word got words one by_numbers other there slot =
    subst (λ (n : ℕ). SlotGives f slot n all) (one_word row place word other got there) (by_kind slot.kind refl)
  where
    by_kind : (kind : Kind) → slot.kind ≡ kind → SlotGives f slot word all
    by_kind Word same = gives_told f Word word by_word all words one slot same
    by_kind Whole same = gives_number f Whole word all by_numbers (λ e. cc (e)) slot same
    by_kind Decimal same = gives_number f Decimal word all by_numbers (λ e. cc (e)) slot same

any_more : (f : Filter) (row : List ℕ) (place bits more : ℕ) → Has more bits → GivesAny f row place bits → GivesAny f row place more
any_more f row place bits more has gives word there slot = gives_more f slot word bits more has (gives word there slot)

-- the words of a row up to a place
abbrev pub GivenBefore : Filter → List ℕ → ℕ → ℕ → Type 0
GivenBefore f row end bits = (place : ℕ) → place < end → GivesAny f row place bits

pub given_step : (f : Filter) (row : List ℕ) (end bits more : ℕ) → Has (bit_or bits more) bits → GivesAny f row end (bit_or bits more) → GivenBefore f row end bits → GivenBefore f row (end + 1) (bit_or bits more)
given_step f row end bits more has here before place to = elim (cases_lt place end) [
  | inl less ↦ any_more f row place bits (bit_or bits more) has (before place less)
  | inr past ↦ subst (λ n. GivesAny f row n (bit_or bits more)) (omega (arith, to, past)) here
]

pub brings_more : (f : Filter) (test : TypeTest) (row : List ℕ) (bits more : ℕ) → Has more bits → Brings f test row bits → Brings f test row more
brings_more f test row bits more has b = record {
  slots = λ listed at from to. is_more f at row bits more has (b.slots listed at from to);
  unlisted = λ left place. any_more f row place bits more has (b.unlisted left place);
}

-- ---- what slots may bring in sum

abbrev pub with_words : Sums → ℕ → Sums
with_words sums bits = record { numbers = sums.numbers; words = bit_or sums.words bits }

abbrev pub with_numbers : Sums → ℕ → Sums
with_numbers sums bits = record { numbers = bit_or sums.numbers bits; words = sums.words }

pub words_more : (sums : Sums) (bits : ℕ) (kind : Kind) → Has (sum_at kind (with_words sums bits)) (sum_at kind sums)
words_more sums bits Whole = has_self sums.numbers
words_more sums bits Decimal = has_self sums.numbers
words_more sums bits Word = has_left sums.words bits sums.words (has_self sums.words)

pub numbers_more : (sums : Sums) (bits : ℕ) (kind : Kind) → Has (sum_at kind (with_numbers sums bits)) (sum_at kind sums)
numbers_more sums bits Whole = has_left sums.numbers bits sums.numbers (has_self sums.numbers)
numbers_more sums bits Decimal = has_left sums.numbers bits sums.numbers (has_self sums.numbers)
numbers_more sums bits Word = has_self sums.words

pub words_summed : (sums : Sums) (bits : ℕ) (kind : Kind) → kind ≡ Word → Has (sum_at kind (with_words sums bits)) bits
words_summed sums bits kind is = subst (λ (k : Kind). Has (sum_at k (with_words sums bits)) bits) (sym is) (has_right sums.words bits)

pub numbers_summed : (sums : Sums) (bits : ℕ) (kind : Kind) → kind ≢ Word → Has (sum_at kind (with_numbers sums bits)) bits
numbers_summed sums bits Whole other = has_right sums.numbers bits
numbers_summed sums bits Decimal other = has_right sums.numbers bits
numbers_summed sums bits Word other = absurd (other refl)

pub summed_step : (slots : List Slot) (first end : ℕ) (old new : Sums) (slot : Slot) → slice_get slots end ≡ Some slot → ((kind : Kind) → Has (sum_at kind new) (sum_at kind old)) → Has (sum_at slot.kind new) slot.bits
    → AreSummed slots first end old → AreSummed slots first (end + 1) new
summed_step slots first end old new slot is more here before at other from to there = elim (cases_lt at end) [
  | inl less ↦ has_through (sum_at other.kind new) (sum_at other.kind old) other.bits (more other.kind) (before at other from less there)
  | inr past ↦
      let e : end ≡ at = omega (arith, to, past) in
      let same : slot ≡ other = same_slots (slice_get slots at) slot other (subst (λ n. slice_get slots n ≡ Some slot) e is) there in
      subst (λ (x : Slot). Has (sum_at x.kind new) x.bits) same here
]

-- so no slot of the log type brings more
pub sums_listed : (tokens : List Token) (text : List ℕ) (slots : List Slot) (first end known : ℕ) (sums : Sums) → AreSlots tokens text slots first end known → AreSummed slots first end sums → AreSums tokens text known sums
sums_listed tokens text slots first end known sums are summed place kind at = elim (are place kind at) [
  | inl l ↦ λ words variable word is j d lt m.
      let all : ℕ = bit_or known (sum_at kind sums) in
      let own : Has (sum_at kind sums) l.slot.bits = subst (λ (k : Kind). Has (sum_at k sums) l.slot.bits) l.same_kind (summed l.at l.slot l.from l.to l.is) in
      has_through all l.slot.bits _ (has_through all (sum_at kind sums) l.slot.bits (has_right known (sum_at kind sums)) own) (l.covers words variable word is j d lt m)
  | inr covers ↦ λ words variable word is j d lt m. has_left known (sum_at kind sums) _ (covers words variable word is j d lt m)
]

-- ---- what a row lacks

pub lacks_by : (f : Filter) (test : TypeTest) (row : Row) (bits all : ℕ) → Has bits test.has → Brings f test row.words bits → Has all bits
    → (AreStamps f.tokens.items f.stamps.items → (s : List ℕ) → HasStampText row.pattern row.moment s → StampMarks f.tokens.items s all) → ¬ Has all f.wanted → Lacks f test row
lacks_by f test row bits all has brings more stamp lacks = record {
  bits = all;
  has = has_through all bits test.has more has;
  brings = brings_more f test row.words bits all more brings;
  stamp = stamp;
  lacks = lacks;
}

pub stamp_more : (tokens : List Token) (s : List ℕ) (bits more : ℕ) → StampMarks tokens s more → StampMarks tokens s (bit_or bits more)
stamp_more tokens s bits more marks j d lt m = has_through (bit_or bits more) more _ (has_right bits more) (marks j d lt m)

pub stamp_brings : (tokens looked : List Token) (may bits brought pattern : ℕ) (moment : ℤ) (s : List ℕ) → looked ≡ tokens
    → (HasStampText pattern moment s → StampMarks tokens s may)
    → ((s : List ℕ) → (HasStampText pattern moment s → StampMarks looked s may) → HasStampText pattern moment s → StampMarks looked s brought)
    → HasStampText pattern moment s → StampMarks tokens s (bit_or bits brought)
stamp_brings tokens looked may bits brought pattern moment s same marks tells stamped =
    stamp_more tokens s bits brought
    (subst (λ (l : List Token). StampMarks l s brought) same
    (tells s (λ h. subst (λ (l : List Token). StampMarks l s may) (sym same) (marks h)) stamped))

-- ---- what a row lacks without its numbers and its stamp

-- the slots of words listed from the first up to a place
abbrev pub WordsBefore : Filter → List ℕ → ℕ → ℕ → ℕ → Type 0
WordsBefore f row first end bits = (at : ℕ) → first ≤ at → at < end → (slot : Slot) → slice_get f.slots.items at ≡ Some slot → slot.kind ≡ Word → SlotIs f at row bits

pub words_step : (f : Filter) (row : List ℕ) (first end bits more : ℕ) → Has (bit_or bits more) bits → ((slot : Slot) → slice_get f.slots.items end ≡ Some slot → slot.kind ≡ Word → SlotIs f end row (bit_or bits more))
    → WordsBefore f row first end bits → WordsBefore f row first (end + 1) (bit_or bits more)
words_step f row first end bits more has here before at from to slot there w = elim (cases_lt at end) [
  | inl less ↦ is_more f at row bits (bit_or bits more) has (before at from less slot there w)
  | inr past ↦
      let e : end ≡ at = omega (arith, to, past) in
      subst (λ n. SlotIs f n row (bit_or bits more)) e (here slot (subst (λ n. slice_get f.slots.items n ≡ Some slot) (sym e) there) w)
]

word_kind : (kind : Kind) → (kind ≡ Word) ⊎ (kind ≢ Word)
word_kind Word = inl refl
word_kind Whole = inr (λ e. cc (e))
word_kind Decimal = inr (λ e. cc (e))

pub lacks_numbers : (f : Filter) (test : TypeTest) (row : Row) (may bits : ℕ) → Has bits (bit_or (bit_or test.has f.numbers) may)
    → BringsWords f test row.words bits → (AreStamps f.tokens.items f.stamps.items → (s : List ℕ) → HasStampText row.pattern row.moment s → StampMarks f.tokens.items s may)
    → ¬ Has bits f.wanted → Lacks f test row
lacks_numbers f test row may bits more dictionary marks lacks =
    let others : ℕ = bit_or test.has f.numbers in
    let own : Has bits others = has_through bits (bit_or others may) others more (has_left others may others (has_self others)) in
    let known : Has bits test.has = has_through bits others test.has own (has_left test.has f.numbers test.has (has_self test.has)) in
    let by_numbers : Has bits f.numbers = has_through bits others f.numbers own (has_right test.has f.numbers) in
    let by_stamp : Has bits may = has_through bits (bit_or others may) may more (has_right others may) in
    record {
      bits = bits;
      has = known;
      brings = record {
        slots = λ listed at from to slot word there here words variable marks brought small numbers coded is j d lt m own.
            by_kind by_numbers slot words variable word (slice_index_or f.tokens.items j d).bit numbers is
            (λ w. dictionary.slots listed at from to slot there w slot word there here words variable marks brought small numbers coded is j d lt m own) j d lt m refl;
        unlisted = dictionary.unlisted;
      };
      stamp = λ stamps s stamped j d lt lies.
          has_through bits may (slice_index_or f.tokens.items j d).bit by_stamp (marks stamps s stamped j d lt lies);
      lacks = lacks;
    }
  where
    by_kind : Has bits f.numbers → (slot : Slot) (words : List (List ℕ)) (variable : List ℕ) (word bit : ℕ) → AreNumberBits f.tokens.items f.numbers → HasWord words slot.kind variable word → (slot.kind ≡ Word → Has bits bit)
        → (j : ℕ) (d : Token) → j < length f.tokens.items → Finds (slice_index_or f.tokens.items j d) variable → bit ≡ (slice_index_or f.tokens.items j d).bit → Has bits bit
    by_kind more slot words variable word bit numbers is dictionary j d lt finds same = elim (word_kind slot.kind) [
      | inl w ↦ dictionary w
      | inr other ↦ subst (Has bits) (sym same) (has_through bits f.numbers (slice_index_or f.tokens.items j d).bit more (numbers slot.kind other words variable word is j d lt finds))
    ]

-- the bits of whole numbers and of decimals are those of numbers
pub number_bits : (tokens : List Token) (kinds : KindBits) → AreKindBits tokens kinds → AreNumberBits tokens (bit_or kinds.whole kinds.decimal)
number_bits tokens kinds are Word other words variable word is j d lt finds = absurd (other refl)
number_bits tokens kinds are Whole other words variable word is j d lt finds = has_left kinds.whole kinds.decimal _ (are.whole words variable word is j d lt finds)
number_bits tokens kinds are Decimal other words variable word is j d lt finds =
    has_through (bit_or kinds.whole kinds.decimal) kinds.decimal _ (has_right kinds.whole kinds.decimal) (are.decimal words variable word is j d lt finds)

abbrev pub sums_by : KindBits → Sums
sums_by kinds = record { numbers = bit_or kinds.whole kinds.decimal; words = kinds.word }

pub kinds_summed : (tokens : List Token) (kinds : KindBits) → AreKindBits tokens kinds → (kind : Kind) → Covers tokens kind (sum_at kind (sums_by kinds))
kinds_summed tokens kinds are Word = are.word
kinds_summed tokens kinds are Whole = number_bits tokens kinds are Whole (λ e. cc (e))
kinds_summed tokens kinds are Decimal = number_bits tokens kinds are Decimal (λ e. cc (e))
