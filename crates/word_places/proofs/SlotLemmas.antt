-- The words in the slots of a text, one by one.
use Rattle.std.proofs.Common.{◌≡◌, ⊎_elim, ℕ, zero, suc, ◌+◌, ◌-◌, ◌<◌, ◌≤◌, List, [], ◌∷◌, ◌++◌, length, get_or, take, drop, refl, sym, ◌∙◌, ap, subst, arith, append_assoc, length-append}
use Rattle.std.specs.Prelude.{Bool, Option, Some, None, false, true, slice_index_or}
use Rattle.std.proofs.lemmas.List.{append-nil, drop_all, drop_more, get_or_append_left, take_rest}
use Rattle.std.proofs.lemmas.Bool.{cases_lt}
use Rattle.std.proofs.lemmas.List.Elements.{Contains-append_cases}
use Rattle.std.proofs.Math.Seq.{get_or-append_seam}
use Rattle.logtype_text.specs.declared.symbols.Kind.{Kind}
use Rattle.logtype_text.specs.declared.symbols.Kind.TheVariants.{Whole, Word, Decimal}
use Rattle.row_codec.specs.Numbers.{kinds_from, word_numbers}
use Rattle.word_places.specs.declared.held.HeldRecord.{HeldRecord}
use Rattle.log_seams.specs.Disk.{DiskState}
use Rattle.word_places.specs.declared.place.WordsPlace.{WordsPlace}
use Rattle.word_places.specs.Held.{AreHeld, AreNumbered, Grow, IsHeld, RightTold, lends, places_of}
use Rattle.word_places.specs.Local.{Agree}
use Rattle.word_places.specs.Places.{OfWords}
use Rattle.word_places.specs.Reads.{ReadsOneOf, ReadsWords}
use Rattle.word_places.specs.StepsHeld.{HaveSlots, with_kind}
use Rattle.word_places.proofs.HeldLemmas.{agree_told, grow_all_held, grow_count, grow_on, grow_places, grow_same}
use Rattle.word_places.proofs.ReadLemmas.{words_of_one, words_on}

-- the words of the slots before a place of the text are held
pub record IsHeldTo (old now : List HeldRecord) (text words : List ℕ) (escaped : Bool) (at : ℕ) (left : List ℕ) : Type 0 where
  pub done : List ℕ
  pub numbers : word_numbers (kinds_from false text) words ≡ done ++ word_numbers (kinds_from escaped (drop at text)) left
  pub numbered : AreNumbered 0 now
  pub grow : Grow old now
  pub held : AreHeld now done

pub held_none : (records : List HeldRecord) (text words : List ℕ) → AreNumbered 0 records → IsHeldTo records records text words false 0 words
held_none records text words are = record { done = []; numbers = refl; numbered = are; grow = grow_same records; held = λ n at. absurd (omega (arith, at.1)) }

-- the kinds from a byte on
kinds_on : (escaped next : Bool) (text : List ℕ) (at byte : ℕ) (slot : Option Kind) → at < length text → byte ≡ get_or text at 0
    → ((rest : List ℕ) → kinds_from escaped (byte ∷ rest) ≡ with_kind slot (kinds_from next rest))
    → kinds_from escaped (drop at text) ≡ with_kind slot (kinds_from next (drop (at + 1) text))
kinds_on escaped next text at byte slot within is step =
    ap (λ (l : List ℕ). kinds_from escaped l) (drop_more text at 0 within) ∙ ap (λ (b : ℕ). kinds_from escaped (b ∷ drop (at + 1) text)) (sym is) ∙ step (drop (at + 1) text)

-- a byte that is no slot
pub held_pass : (old now : List HeldRecord) (text words : List ℕ) (escaped next : Bool) (at byte : ℕ) (slot : Option Kind) (left : List ℕ) → IsHeldTo old now text words escaped at left
    → at < length text → byte ≡ get_or text at 0 → ((rest : List ℕ) → kinds_from escaped (byte ∷ rest) ≡ with_kind slot (kinds_from next rest)) → slot ≡ None
    → IsHeldTo old now text words next (at + 1) left
held_pass old now text words escaped next at byte slot left so_far within is step none = record {
  done = so_far.done;
  numbers = so_far.numbers
      ∙ ap (λ (kinds : List Kind). so_far.done ++ word_numbers kinds left) (kinds_on escaped next text at byte slot within is step ∙ ap (λ (s : Option Kind). with_kind s (kinds_from next (drop (at + 1) text))) none);
  numbered = so_far.numbered;
  grow = so_far.grow;
  held = so_far.held;
}

-- the number that a slot adds
abbrev pub slot_number : Kind → ℕ → List ℕ
slot_number Whole word = []
slot_number Word word = word ∷ []
slot_number Decimal word = []

slot_first : (kind : Kind) (kinds : List Kind) (word : ℕ) (words : List ℕ) → word_numbers (kind ∷ kinds) (word ∷ words) ≡ slot_number kind word ++ word_numbers kinds words
slot_first Whole kinds word words = refl
slot_first Word kinds word words = refl
slot_first Decimal kinds word words = refl

slot_held : (records : List HeldRecord) (kind : Kind) (word : ℕ) → (kind ≡ Word → word < length (lends records) → IsHeld records word) → AreHeld records (slot_number kind word)
slot_held records Whole word held = λ n at. absurd (omega (arith, at.1))
slot_held records Decimal word held = λ n at. absurd (omega (arith, at.1))
slot_held records Word word held = λ n at within. one n at.0 at.1 at.2 within
  where
    one : (n k : ℕ) → k < length (word ∷ []) → get_or (word ∷ []) k n ≡ n → n < length (lends records) → IsHeld records n
    one n zero lt is within = subst (IsHeld records) is (held refl (subst (λ (m : ℕ). m < length (lends records)) (sym is) within))
    one n (suc k) lt is within = absurd (omega (arith, lt))

-- a slot, whose word is held
pub held_slot : (old now new : List HeldRecord) (text words : List ℕ) (escaped next : Bool) (at byte word : ℕ) (slot : Option Kind) (kind : Kind) (left behind : List ℕ)
    → IsHeldTo old now text words escaped at left → at < length text → byte ≡ get_or text at 0
    → ((rest : List ℕ) → kinds_from escaped (byte ∷ rest) ≡ with_kind slot (kinds_from next rest)) → slot ≡ Some kind → left ≡ word ∷ behind
    → AreNumbered 0 new → Grow now new → (kind ≡ Word → word < length (lends now) → IsHeld new word)
    → IsHeldTo old new text words next (at + 1) behind
held_slot old now new text words escaped next at byte word slot kind left behind so_far within is step some parts are grow held =
    let kinds : List Kind = kinds_from next (drop (at + 1) text) in
    let here : kinds_from escaped (drop at text) ≡ kind ∷ kinds = kinds_on escaped next text at byte slot within is step ∙ ap (λ (s : Option Kind). with_kind s kinds) some in
    let count = grow_count 0 now new so_far.numbered are grow in
    let one : AreHeld new (slot_number kind word) = slot_held new kind word (λ same lt. held same (omega (arith, lt, count))) in
    let before = grow_all_held now new so_far.done so_far.numbered are grow so_far.held in
    record {
      done = so_far.done ++ slot_number kind word;
      numbers = so_far.numbers ∙ (λ i. so_far.done ++ word_numbers (here i) (parts i)) ∙ ap (λ (l : List ℕ). so_far.done ++ l) (slot_first kind kinds word behind)
          ∙ sym (append_assoc so_far.done (slot_number kind word) (word_numbers kinds behind));
      numbered = are;
      grow = grow_on old now new so_far.grow grow;
      held = λ n at_n lt. ⊎_elim (λ first. before n first lt) (λ last. one n last lt) (Contains-append_cases so_far.done (slot_number kind word) n at_n);
    }

no_numbers : (kinds : List Kind) → word_numbers kinds [] ≡ []
no_numbers [] = refl
no_numbers (kind ∷ kinds) = refl

-- there are no more words
pub held_short : (old now : List HeldRecord) (text words : List ℕ) (escaped : Bool) (at : ℕ) (left : List ℕ) → IsHeldTo old now text words escaped at left → left ≡ []
    → AreHeld now (word_numbers (kinds_from false text) words)
held_short old now text words escaped at left so_far none =
    let rest : word_numbers (kinds_from escaped (drop at text)) left ≡ [] = ap (λ (l : List ℕ). word_numbers (kinds_from escaped (drop at text)) l) none ∙ no_numbers (kinds_from escaped (drop at text)) in
    subst (AreHeld now) (sym (so_far.numbers ∙ ap (λ (l : List ℕ). so_far.done ++ l) rest ∙ append-nil so_far.done)) so_far.held

-- there is no more text
pub held_all : (old now : List HeldRecord) (text words : List ℕ) (escaped : Bool) (at : ℕ) (left : List ℕ) → IsHeldTo old now text words escaped at left → length text ≤ at
    → AreHeld now (word_numbers (kinds_from false text) words)
held_all old now text words escaped at left so_far all =
    let rest : word_numbers (kinds_from escaped (drop at text)) left ≡ [] = ap (λ (l : List ℕ). word_numbers (kinds_from escaped l) left) (drop_all at text all) ∙ none escaped in
    subst (AreHeld now) (sym (so_far.numbers ∙ ap (λ (l : List ℕ). so_far.done ++ l) rest ∙ append-nil so_far.done)) so_far.held
  where
    none : (escaped : Bool) → word_numbers (kinds_from escaped []) left ≡ []
    none true = refl
    none false = refl

-- ---- reading on

pub reads_next : (old now : List HeldRecord) (first mid last : DiskState) → Grow old now → ReadsWords (places_of old) first mid → ReadsOneOf (places_of now) mid last → ReadsWords (places_of old) first last
reads_next old now first mid last grow reads one =
    words_on (places_of old) first mid last reads (words_of_one (places_of old) mid last (subst (λ (ps : List WordsPlace). ReadsOneOf ps mid last) (grow_places old now grow) one))

pub none_before : (old now : List HeldRecord) (told later : Option (List ℕ)) → Grow old now → later ≡ told → OfWords later (places_of now) (λ _. ⊥) → OfWords told (places_of old) (λ _. ⊥)
none_before old now told later grow same none =
    subst (λ (t : Option (List ℕ)). OfWords t (places_of old) (λ _. ⊥)) same (subst (λ (ps : List WordsPlace). OfWords later ps (λ _. ⊥)) (grow_places old now grow) none)

pub right_next : (told later : Option (List ℕ)) (old now new : List HeldRecord) → later ≡ told → (RightTold told old → RightTold told now) → (RightTold later now → RightTold later new)
    → RightTold told old → RightTold told new
right_next told later old now new same first second right =
    subst (λ (t : Option (List ℕ)). RightTold t new) same (second (subst (λ (t : Option (List ℕ)). RightTold t now) (sym same) (first right)))

-- the first word, and those behind it
pub cut_first : (left : List ℕ) → 0 < length left → left ≡ get_or left 0 0 ∷ take (length left - 1) (drop 1 left)
cut_first left some = drop_more left 0 0 some ∙ ap (λ (l : List ℕ). get_or left 0 0 ∷ l) (sym (take_rest left 1))

-- ---- the slots of a log type alone

-- a buffer of slots, of which the text from a place on is left
pub record AreSlotsTo (slots text : List ℕ) (escaped : Bool) (at : ℕ) : Type 0 where
  pub front : List Kind
  pub kinds : (rest : List ℕ) → kinds_from false (slots ++ rest) ≡ front ++ kinds_from false rest
  pub left : kinds_from false text ≡ front ++ kinds_from escaped (drop at text)

pub slots_none : (slots text : List ℕ) → slots ≡ [] → AreSlotsTo slots text false 0
slots_none slots text none = record { front = []; kinds = λ rest. ap (λ (l : List ℕ). kinds_from false (l ++ rest)) none; left = refl }

-- a byte that is no slot
pub slots_pass : (slots text : List ℕ) (escaped next : Bool) (at byte : ℕ) (slot : Option Kind) → AreSlotsTo slots text escaped at → at < length text → byte ≡ get_or text at 0
    → ((rest : List ℕ) → kinds_from escaped (byte ∷ rest) ≡ with_kind slot (kinds_from next rest)) → slot ≡ None → AreSlotsTo slots text next (at + 1)
slots_pass slots text escaped next at byte slot so_far within is step none = record {
  front = so_far.front;
  kinds = so_far.kinds;
  left = so_far.left ∙ ap (λ (ks : List Kind). so_far.front ++ ks) (kinds_on escaped next text at byte slot within is step ∙ ap (λ (s : Option Kind). with_kind s (kinds_from next (drop (at + 1) text))) none);
}

-- a slot, which is put behind those before
pub slots_next : (slots more text : List ℕ) (escaped next : Bool) (at byte : ℕ) (slot : Option Kind) (kind : Kind) → AreSlotsTo slots text escaped at → at < length text → byte ≡ get_or text at 0
    → ((rest : List ℕ) → kinds_from escaped (byte ∷ rest) ≡ with_kind slot (kinds_from next rest)) → slot ≡ Some kind → escaped ≡ false → next ≡ false → more ≡ slots ++ byte ∷ []
    → AreSlotsTo more text next (at + 1)
slots_next slots more text escaped next at byte slot kind so_far within is step some first behind pushed = record {
  front = so_far.front ++ kind ∷ [];
  kinds = λ rest. ap (λ (l : List ℕ). kinds_from false (l ++ rest)) pushed ∙ ap (λ (l : List ℕ). kinds_from false l) (append_assoc slots (byte ∷ []) rest) ∙ so_far.kinds (byte ∷ rest)
      ∙ ap (λ (ks : List Kind). so_far.front ++ ks) (one rest) ∙ sym (append_assoc so_far.front (kind ∷ []) (kinds_from false rest));
  left = so_far.left ∙ ap (λ (ks : List Kind). so_far.front ++ ks) (kinds_on escaped next text at byte slot within is step ∙ ap (λ (s : Option Kind). with_kind s (kinds_from next (drop (at + 1) text))) some)
      ∙ sym (append_assoc so_far.front (kind ∷ []) (kinds_from next (drop (at + 1) text)));
}
  where
    one : (rest : List ℕ) → kinds_from false (byte ∷ rest) ≡ kind ∷ kinds_from false rest
    one rest = ap (λ (e : Bool). kinds_from e (byte ∷ rest)) (sym first) ∙ step rest ∙ (λ i. with_kind (some i) (kinds_from (behind i) rest))

-- there is no more text
pub slots_all : (slots text : List ℕ) (escaped : Bool) (at : ℕ) → AreSlotsTo slots text escaped at → length text ≤ at → kinds_from false slots ≡ kinds_from false text
slots_all slots text escaped at so_far all =
    ap (λ (l : List ℕ). kinds_from false l) (sym (append-nil slots)) ∙ so_far.kinds [] ∙ ap (λ (ks : List Kind). so_far.front ++ ks) (sym (none escaped) ∙ ap (λ (l : List ℕ). kinds_from escaped l) (sym (drop_all at text all)))
    ∙ sym so_far.left
  where
    none : (escaped : Bool) → kinds_from escaped [] ≡ []
    none true = refl
    none false = refl

-- the slots of so many log types
pub record HaveSlotsTo (types slots : List (List ℕ)) (count : ℕ) : Type 0 where
  pub many : length slots ≡ count
  pub same : (number : ℕ) → number < count → kinds_from false (get_or slots number []) ≡ kinds_from false (get_or types number [])

pub have_none : (types : List (List ℕ)) → HaveSlotsTo types [] 0
have_none types = record { many = refl; same = λ number lt. absurd (omega (arith, lt)) }

pub have_next : (types slots more : List (List ℕ)) (count : ℕ) (text one : List ℕ) → HaveSlotsTo types slots count → text ≡ get_or types count [] → kinds_from false one ≡ kinds_from false text
    → more ≡ slots ++ one ∷ [] → HaveSlotsTo types more (count + 1)
have_next types slots more count text one so_far is same pushed = record {
  many = ap (λ (l : List (List ℕ)). length l) pushed ∙ length-append slots (one ∷ []) ∙ ap (λ (n : ℕ). n + 1) so_far.many;
  same = λ number lt. ap (λ (l : List (List ℕ)). kinds_from false (get_or l number [])) pushed ∙ ⊎_elim (λ before. older number before) (λ last. newest number (omega (arith, lt, last))) (cases_lt number count);
}
  where
    older : (number : ℕ) → number < count → kinds_from false (get_or (slots ++ one ∷ []) number []) ≡ kinds_from false (get_or types number [])
    older number before = ap (λ (l : List ℕ). kinds_from false l) (get_or_append_left slots (one ∷ []) [] number (omega (arith, before, so_far.many))) ∙ so_far.same number before

    newest : (number : ℕ) → number ≡ count → kinds_from false (get_or (slots ++ one ∷ []) number []) ≡ kinds_from false (get_or types number [])
    newest number last =
        ap (λ (l : List ℕ). kinds_from false l) (ap (λ (n : ℕ). get_or (slots ++ one ∷ []) n []) (last ∙ sym so_far.many) ∙ get_or-append_seam slots one [] [])
        ∙ same ∙ ap (λ (l : List ℕ). kinds_from false l) (is ∙ ap (λ (n : ℕ). get_or types n []) (sym last))

pub have_all : (types slots : List (List ℕ)) (count : ℕ) → HaveSlotsTo types slots count → HaveSlots types slots
have_all types slots count so_far = λ number lt. so_far.same number (omega (arith, lt, so_far.many))

-- ---- a row

-- the words of a row by the slots of its log type
pub numbers_by_slots : (types others : List (List ℕ)) (number : ℕ) (text words : List ℕ) → types ≡ others → kinds_from false text ≡ kinds_from false (slice_index_or types number [])
    → word_numbers (kinds_from false text) words ≡ word_numbers (kinds_from false (slice_index_or others number [])) words
numbers_by_slots types others number text words same kinds =
    ap (λ (ks : List Kind). word_numbers ks words) (kinds ∙ ap (λ (l : List (List ℕ)). kinds_from false (slice_index_or l number [])) same)

pub agree_row : (told : Option (List ℕ)) (names old new : List HeldRecord) (numbers others : List ℕ) → old ≡ names → numbers ≡ others → AreNumbered 0 new → Grow old new
    → (RightTold told old → RightTold told new) → AreHeld new numbers → RightTold told names → OfWords told (places_of names) (λ words. Agree others words (lends new))
agree_row told names old new numbers others same one are grow right held first =
    subst (λ (rs : List HeldRecord). OfWords told (places_of rs) (λ words. Agree others words (lends new))) same
    (agree_told told old new others are grow (right (subst (λ (rs : List HeldRecord). RightTold told rs) (sym same) first)) (subst (AreHeld new) one held))
