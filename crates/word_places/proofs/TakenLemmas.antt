-- Texts that are taken one after the other.
use Rattle.std.proofs.Common.{◌≡◌, ◌≢◌, ℕ, zero, suc, ◌+◌, ◌^◌, ◌<◌, ◌≤◌, List, [], ◌∷◌, ◌++◌, Option, Some, None, length, take, refl, sym, ◌∙◌, ap, subst, arith, append_assoc, append-nil, length-append}
use Rattle.std.specs.Prelude.{IfSome, false, slice_get}
use Rattle.std.specs.List.{flat_map}
use Rattle.std.proofs.lemmas.List.{append_cancel_left, take_all}
use Rattle.std.proofs.lemmas.Option.{none-some, same_Some}
use Rattle.record_format.specs.Lists.{AreTexts, four_bytes, list_bytes, text_bytes}
use Rattle.record_format.proofs.ListLemmas.{IsReadTo, read_all, read_more, read_none}
use Rattle.word_places.specs.declared.place.WordsPlace.{WordsPlace}
use Rattle.word_places.specs.Kept.{KeepsTexts, KeptTypes}
use Rattle.word_places.specs.Laws.{WordsAreOne}
use Rattle.word_places.specs.Places.{AreInOrder, AreWords, OfWords, SomeTexts, SomeWords, Spells, payload_in}
use Rattle.word_places.specs.Taken.{TakesBoth, Took}
use Rattle.word_places.proofs.HeldLemmas.{one_payload}

-- ---- one record

-- so many texts were taken, which the bytes spell in front of a rest
pub record TookTo {W : Type 0} (took : List (List ℕ) → W → Type 0) (count : ℕ) (bytes : List ℕ) (at : ℕ) (rest : List ℕ) (now : W) : Type 0 where
  pub texts : List (List ℕ)
  pub read : IsReadTo (four_bytes count ++ bytes) count texts rest
  pub many : length texts ≡ at
  pub taken : took texts now

pub took_none : {W : Type 0} (took : List (List ℕ) → W → Type 0) (count : ℕ) (bytes : List ℕ) (now : W) → took [] now → TookTo took count bytes 0 bytes now
took_none took count bytes now none = record { texts = []; read = read_none (four_bytes count ++ bytes) count bytes refl; many = refl; taken = none }

pub took_more : {W : Type 0} (took : W → List (List ℕ) → W → Type 0) (a b c : W) (count : ℕ) (bytes text rest after : List ℕ) (at : ℕ) → TakesBoth took → TookTo (took a) count bytes at rest b
    → length text < 2 ^ 32 → rest ≡ text_bytes text ++ after → took b (text ∷ []) c → TookTo (took a) count bytes (at + 1) after c
took_more took a b c count bytes text rest after at both so_far fits is took_one = record {
  texts = so_far.texts ++ text ∷ [];
  read = read_more (four_bytes count ++ bytes) count so_far.texts rest text after so_far.read fits is;
  many = omega (arith, so_far.many, length-append so_far.texts (text ∷ []));
  taken = both a b c so_far.texts (text ∷ []) so_far.taken took_one;
}

pub took_all : {W : Type 0} (took : List (List ℕ) → W → Type 0) (count : ℕ) (bytes : List ℕ) (at : ℕ) (rest : List ℕ) (now : W) → count < 2 ^ 32 → TookTo took count bytes at rest now → at ≡ count
    → rest ≡ [] → Took took count bytes now
took_all took count bytes at rest now lt so_far all none =
    let len : length so_far.texts ≡ count = so_far.many ∙ all in
    record {
      texts = so_far.texts;
      are = record { count = omega (arith, len, lt); lengths = so_far.read.lengths };
      count_is = len;
      spelled = append_cancel_left (four_bytes count) bytes (flat_map text_bytes so_far.texts)
          (read_all (four_bytes count ++ bytes) count so_far.texts rest so_far.read len none ∙ ap (λ (n : ℕ). four_bytes n ++ flat_map text_bytes so_far.texts) len);
      taken = so_far.taken;
    }

-- what spells no list behind its count spells no texts
pub not_spelled : (count : ℕ) (bytes : List ℕ) → ((all : List (List ℕ)) → AreTexts all → four_bytes count ++ bytes ≢ list_bytes all)
    → (texts : List (List ℕ)) → AreTexts texts → length texts ≡ count → bytes ≢ flat_map text_bytes texts
not_spelled count bytes none texts are len is =
    none texts are (ap (λ (l : List ℕ). four_bytes count ++ l) is ∙ ap (λ (n : ℕ). four_bytes n ++ flat_map text_bytes texts) (sym len))

-- the texts of a payload that was loaded are those of the record
pub some_loaded : {W : Type 0} (told : Option (List ℕ)) (p : WordsPlace) (payload rest : List ℕ) (took : List (List ℕ) → W → Type 0) (now : W)
    → IfSome told (λ bytes. payload ≡ payload_in p bytes) → length payload ≡ p.length → p.first < 2 ^ 32
    → payload ≡ four_bytes p.first ++ (four_bytes p.count ++ rest) → Took took p.count rest now → SomeTexts told p (λ texts. took texts now)
some_loaded told p payload rest took now loaded size lt parts all =
    let spells : Spells p payload all.texts = record {
      size = size;
      are = all.are;
      first = lt;
      count = all.count_is;
      spelled = parts
          ∙ ap (λ (l : List ℕ). four_bytes p.first ++ l) (ap (λ (l : List ℕ). four_bytes p.count ++ l) all.spelled ∙ ap (λ (n : ℕ). four_bytes n ++ flat_map text_bytes all.texts) (sym all.count_is));
    } in
    (all.texts, spells_there told p payload all.texts loaded spells, all.taken)
  where
    spells_there : (told : Option (List ℕ)) (p : WordsPlace) (payload : List ℕ) (texts : List (List ℕ)) → IfSome told (λ bytes. payload ≡ payload_in p bytes) → Spells p payload texts
        → IfSome told (λ bytes. Spells p (payload_in p bytes) texts)
    spells_there None p payload texts loaded spells = tt
    spells_there (Some bytes) p payload texts loaded spells = subst (λ (l : List ℕ). Spells p l texts) loaded spells

-- ---- all records

-- the texts at the first so many places were taken
pub record TakenTo {W : Type 0} (took : List (List ℕ) → W → Type 0) (told : Option (List ℕ)) (places : List WordsPlace) (at : ℕ) (now : W) : Type 0 where
  pub texts : List (List ℕ)
  pub stand : IfSome told (λ bytes. AreWords 0 (take at places) bytes texts)
  pub taken : took texts now

words_none : (told : Option (List ℕ)) (places : List WordsPlace) → IfSome told (λ bytes. AreWords 0 (take 0 places) bytes [])
words_none None places = tt
words_none (Some bytes) places = refl

pub taken_none : {W : Type 0} (took : List (List ℕ) → W → Type 0) (told : Option (List ℕ)) (places : List WordsPlace) (now : W) → took [] now → TakenTo took told places 0 now
taken_none took told places now none = record { texts = []; stand = words_none told places; taken = none }

-- the texts of one record more stand behind those before it
stand_more : (from : ℕ) (places : List WordsPlace) (at : ℕ) (p : WordsPlace) (bytes : List ℕ) (xs ys : List (List ℕ)) → AreInOrder from places → slice_get places at ≡ Some p
    → AreWords from (take at places) bytes xs → Spells p (payload_in p bytes) ys → AreWords from (take (suc at) places) bytes (xs ++ ys)
stand_more from [] at p bytes xs ys order is are spells = absurd (none-some p is)
stand_more from (q ∷ places) zero p bytes xs ys order is are spells =
    (ys, [], order.0, subst (λ (r : WordsPlace). Spells r (payload_in r bytes) ys) (sym (same_Some q p is)) spells, refl, ap (λ (l : List (List ℕ)). l ++ ys) are ∙ sym (append-nil ys))
stand_more from (q ∷ places) (suc at) p bytes xs ys order is are spells = (
  are.0,
  are.1 ++ ys,
  are.2,
  are.3,
  stand_more (from + q.count) places at p bytes are.1 ys order.1 is are.4 spells,
  ap (λ (l : List (List ℕ)). l ++ ys) are.5 ∙ append_assoc are.0 are.1 ys,
)

stand_told : (told later : Option (List ℕ)) (places : List WordsPlace) (at : ℕ) (p : WordsPlace) (xs ys : List (List ℕ)) → later ≡ told → AreInOrder 0 places → slice_get places at ≡ Some p
    → IfSome told (λ bytes. AreWords 0 (take at places) bytes xs) → IfSome later (λ bytes. Spells p (payload_in p bytes) ys)
    → IfSome told (λ bytes. AreWords 0 (take (at + 1) places) bytes (xs ++ ys))
stand_told told later places at p xs ys same order is are spells = go told are (subst (λ (t : Option (List ℕ)). IfSome t (λ bytes. Spells p (payload_in p bytes) ys)) same spells)
  where
    go : (told : Option (List ℕ)) → IfSome told (λ bytes. AreWords 0 (take at places) bytes xs) → IfSome told (λ bytes. Spells p (payload_in p bytes) ys)
        → IfSome told (λ bytes. AreWords 0 (take (at + 1) places) bytes (xs ++ ys))
    go None are spells = tt
    go (Some bytes) are spells =
        let next : suc at ≡ at + 1 = omega arith in
        subst (λ (n : ℕ). AreWords 0 (take n places) bytes (xs ++ ys)) next (stand_more 0 places at p bytes xs ys order is are spells)

pub taken_more : {W : Type 0} (took : W → List (List ℕ) → W → Type 0) (a b c : W) (told later : Option (List ℕ)) (places : List WordsPlace) (at : ℕ) (p : WordsPlace) → TakesBoth took → later ≡ told
    → AreInOrder 0 places → slice_get places at ≡ Some p → TakenTo (took a) told places at b → SomeTexts later p (λ texts. took b texts c) → TakenTo (took a) told places (at + 1) c
taken_more took a b c told later places at p both same order is so_far more = record {
  texts = so_far.texts ++ more.0;
  stand = stand_told told later places at p so_far.texts more.0 same order is so_far.stand more.1;
  taken = both a b c so_far.texts more.0 so_far.taken more.2;
}

pub taken_all : {W : Type 0} (took : List (List ℕ) → W → Type 0) (told : Option (List ℕ)) (places : List WordsPlace) (at : ℕ) (now : W) → TakenTo took told places at now → length places ≤ at
    → SomeWords told places (λ texts. took texts now)
taken_all took told places at now so_far all =
    (so_far.texts, subst (λ (ps : List WordsPlace). IfSome told (λ bytes. AreWords 0 ps bytes so_far.texts)) (take_all at places all) so_far.stand, so_far.taken)

-- ---- the texts of the bytes

pub words_are_one : WordsAreOne
words_are_one from [] bytes a b one two = one ∙ sym two
words_are_one from (p ∷ places) bytes a b one two =
    let here : one.0 ≡ two.0 = one_payload p (payload_in p bytes) one.0 two.0 one.3 two.3 in
    let rest : one.1 ≡ two.1 = words_are_one (from + p.count) places bytes one.1 two.1 one.4 two.4 in
    one.5 ∙ (λ i. here i ++ rest i) ∙ sym two.5

-- texts that were all kept are those of the bytes
pub kept_all : (told : Option (List ℕ)) (places : List WordsPlace) (begun kept : KeptTypes) → begun ≡ record { texts = []; left_out = false; places = places }
    → SomeWords told places (λ texts. KeepsTexts begun texts kept) → OfWords told places (λ texts. kept.texts ≡ texts)
unfolding words_are_one
kept_all None places begun kept begins some = tt
kept_all (Some bytes) places begun kept begins some = λ texts are.
    some.2.texts ∙ ap (λ (k : KeptTypes). k.texts ++ some.0) begins ∙ words_are_one 0 places bytes some.0 texts some.1 are
