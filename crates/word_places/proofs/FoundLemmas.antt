-- A pass for several needles.
use Rattle.std.proofs.Common.{◌≡◌, ◌≢◌, ℕ, zero, suc, ◌+◌, ◌<◌, ◌≤◌, List, [], ◌∷◌, Option, Some, None, length, set, get_or, replicate, refl, sym, ◌∙◌, ap, subst, arith}
use Rattle.std.specs.Prelude.{slice_get}
use mathlib.Core.Logic.{dite}
use native.Mathlib.Decide.{ℕ_discrete}
use Rattle.std.specs.List.{flat_map}
use Rattle.std.proofs.lemmas.List.{get_or-set_same, get_or-set_other}
use Rattle.std.proofs.lemmas.Option.{slice_get_within}
use Rattle.record_format.specs.Lists.{AreTexts, text_bytes}
use Rattle.word_places.specs.declared.place.WordsPlace.{WordsPlace}
use Rattle.word_places.specs.declared.needle.Needle.{Needle}
use Rattle.word_places.specs.Holders.{AddsHolders, FoundEach, Holders}
use Rattle.word_places.specs.Places.{OfTexts, OfWords}
use Rattle.word_places.specs.StepsFound.{AddsEach, AddsFor}
use Rattle.word_places.proofs.HolderLemmas.{Gone, gone_all, gone_more, gone_none}

-- ---- one record

less_of : (j at : ℕ) → j ≢ at → j < at + 1 → j < at
less_of zero zero other less = absurd (other refl)
less_of zero (suc at) other less = omega arith
less_of (suc j) zero other less = absurd (omega (arith, less))
less_of (suc j) (suc at) other less = let more = less_of j at (λ (e : j ≡ at). other (ap suc e)) (omega (arith, less)) in omega (arith, more)

-- the lists of the needles before a place have grown, and the others are as they were
pub record AddsBefore (needles : List Needle) (first : ℕ) (texts old new : List (List ℕ)) (at : ℕ) : Type 0 where
  pub done : (j : ℕ) → j < at → AddsFor needles j first texts old new
  pub left : (j : ℕ) → at ≤ j → get_or new j [] ≡ get_or old j []

-- so it is whatever texts the bytes are
abbrev pub AddsSoFar : List Needle → List ℕ → ℕ → ℕ → List (List ℕ) → List (List ℕ) → ℕ → Type 0
AddsSoFar needles bytes first count old new at =
    (texts : List (List ℕ)) → AreTexts texts → length texts ≡ count → bytes ≡ flat_map text_bytes texts → AddsBefore needles first texts old new at

pub adds_none : (needles : List Needle) (bytes : List ℕ) (first count : ℕ) (old : List (List ℕ)) → AddsSoFar needles bytes first count old old 0
adds_none needles bytes first count old = λ texts are len is. record { done = λ j less. absurd (omega (arith, less)); left = λ j _. refl }

-- a list that was taken out and put back
set_twice : (lists : List (List ℕ)) (at : ℕ) (a b : List ℕ) → set (set lists at a) at b ≡ set lists at b
set_twice [] at a b = refl
set_twice (l ∷ lists) zero a b = refl
set_twice (l ∷ lists) (suc at) a b = ap (λ (ls : List (List ℕ)). l ∷ ls) (set_twice lists at a b)

adds_here : (needles : List Needle) (first at : ℕ) (texts old now : List (List ℕ)) (needle : Needle) (numbers : List ℕ) → AddsBefore needles first texts old now at
    → slice_get needles at ≡ Some needle → at < length now → AddsHolders needle.fit needle.finder first texts (get_or now at []) numbers
    → AddsFor needles at first texts old (set now at numbers)
adds_here needles first at texts old now needle numbers so_far is within adds = λ other same.
    let one : needle ≡ other = cc (is, same) in
    subst (λ (x : Needle). AddsHolders x.fit x.finder first texts (get_or old at []) (get_or (set now at numbers) at [])) one
    (subst (λ (l : List ℕ). AddsHolders needle.fit needle.finder first texts (get_or old at []) l) (sym (get_or-set_same now at numbers [] within))
    (subst (λ (l : List ℕ). AddsHolders needle.fit needle.finder first texts l numbers) (so_far.left at (omega arith)) adds))

adds_set : (needles : List Needle) (first at : ℕ) (texts old now : List (List ℕ)) (needle : Needle) (numbers : List ℕ) → AddsBefore needles first texts old now at
    → slice_get needles at ≡ Some needle → at < length now → AddsHolders needle.fit needle.finder first texts (get_or now at []) numbers
    → AddsBefore needles first texts old (set now at numbers) (at + 1)
adds_set needles first at texts old now needle numbers so_far is within adds = record {
  done = λ j less. dite (ℕ_discrete j at)
      (λ (same : j ≡ at). subst (λ (k : ℕ). AddsFor needles k first texts old (set now at numbers)) (sym same) (adds_here needles first at texts old now needle numbers so_far is within adds))
      (λ (other : j ≢ at). behind j other (so_far.done j (below j other less)));
  left = λ j most. get_or-set_other now at j numbers [] (λ (same : j ≡ at). omega (arith, most, same)) ∙ so_far.left j (omega (arith, most));
}
  where
    behind : (j : ℕ) → j ≢ at → AddsFor needles j first texts old now → AddsFor needles j first texts old (set now at numbers)
    behind j other done = λ n here.
        subst (λ (l : List ℕ). AddsHolders n.fit n.finder first texts (get_or old j []) l) (sym (get_or-set_other now at j numbers [] other)) (done n here)

    below : (j : ℕ) → j ≢ at → j < at + 1 → j < at
    below j other less = less_of j at other less

pub adds_more : (needles : List Needle) (bytes : List ℕ) (first count at : ℕ) (old now mid new : List (List ℕ)) (needle : Needle) (taken numbers : List ℕ)
    → AddsSoFar needles bytes first count old now at → slice_get needles at ≡ Some needle → at < length now → taken ≡ get_or now at [] → mid ≡ set now at [] → new ≡ set mid at numbers
    → ((texts : List (List ℕ)) → AreTexts texts → length texts ≡ count → bytes ≡ flat_map text_bytes texts → AddsHolders needle.fit needle.finder first texts taken numbers)
    → AddsSoFar needles bytes first count old new (at + 1)
adds_more needles bytes first count at old now mid new needle taken numbers so_far is within took left put adds = λ texts are len spells.
    let same : new ≡ set now at numbers = put ∙ ap (λ (ls : List (List ℕ)). set ls at numbers) left ∙ set_twice now at [] numbers in
    let here = subst (λ (l : List ℕ). AddsHolders needle.fit needle.finder first texts l numbers) took (adds texts are len spells) in
    subst (λ (ls : List (List ℕ)). AddsBefore needles first texts old ls (at + 1)) (sym same) (adds_set needles first at texts old now needle numbers (so_far texts are len spells) is within here)

pub adds_all : (needles : List Needle) (bytes : List ℕ) (first count at : ℕ) (old now : List (List ℕ)) → AddsSoFar needles bytes first count old now at → length needles ≤ at
    → (texts : List (List ℕ)) → AreTexts texts → length texts ≡ count → bytes ≡ flat_map text_bytes texts → AddsEach needles first texts old now
adds_all needles bytes first count at old now so_far all = λ texts are len is j n here.
    (so_far texts are len is).done j (omega (arith, all, slice_get_within needles j n here)) n here

-- ---- all records

-- each needle's list is that of the records before a place
abbrev pub GoneEach : Option (List ℕ) → List WordsPlace → List Needle → ℕ → List (List ℕ) → Type 0
GoneEach told places needles at lists = (j : ℕ) (needle : Needle) → slice_get needles j ≡ Some needle → Gone told places needle.fit needle.finder [] at (get_or lists j [])

empty_at : (n j : ℕ) → get_or {A = List ℕ} (replicate n []) j [] ≡ []
empty_at zero j = refl
empty_at (suc n) zero = refl
empty_at (suc n) (suc j) = empty_at n j

pub gone_first : (told : Option (List ℕ)) (places : List WordsPlace) (needles : List Needle) (lists : List (List ℕ)) (n : ℕ) → lists ≡ replicate n [] → GoneEach told places needles 0 lists
gone_first told places needles lists n is = λ j needle _.
    subst (λ (l : List ℕ). Gone told places needle.fit needle.finder [] 0 l) (sym (ap (λ (ls : List (List ℕ)). get_or ls j []) is ∙ empty_at n j)) (gone_none told places needle.fit needle.finder [])

-- what was added for all needles was added for each
added_for : (told : Option (List ℕ)) (p : WordsPlace) (needles : List Needle) (old new : List (List ℕ)) → OfTexts told p (λ texts. AddsEach needles p.first texts old new)
    → (j : ℕ) (needle : Needle) → slice_get needles j ≡ Some needle → OfTexts told p (λ texts. AddsHolders needle.fit needle.finder p.first texts (get_or old j []) (get_or new j []))
added_for None p needles old new adds j needle here = tt
added_for (Some bytes) p needles old new adds j needle here = λ texts spells. adds texts spells j needle here

pub gone_on : (told : Option (List ℕ)) (places : List WordsPlace) (needles : List Needle) (old new : List (List ℕ)) (at : ℕ) (p : WordsPlace) → GoneEach told places needles at old
    → slice_get places at ≡ Some p → OfTexts told p (λ texts. AddsEach needles p.first texts old new) → GoneEach told places needles (at + 1) new
gone_on told places needles old new at p gone is adds = λ j needle here.
    gone_more told places needle.fit needle.finder [] (get_or old j []) (get_or new j []) at p (gone j needle here) is (added_for told p needles old new adds j needle here)

-- numbers that were added to none
only_added : (needle : Needle) (words : List (List ℕ)) (numbers : List ℕ) → AddsHolders needle.fit needle.finder 0 words [] numbers → Holders needle.fit needle.finder 0 words numbers
only_added needle words numbers adds = subst (λ (l : List ℕ). Holders needle.fit needle.finder 0 words l) (sym adds.2) adds.1

pub gone_through : (told : Option (List ℕ)) (places : List WordsPlace) (needles : List Needle) (lists : List (List ℕ)) (at : ℕ) → GoneEach told places needles at lists → length places ≤ at
    → OfWords told places (λ words. FoundEach needles words lists)
gone_through None places needles lists at gone all = tt
gone_through (Some bytes) places needles lists at gone all = λ words are j needle here.
    only_added needle words (get_or lists j []) (gone_all (Some bytes) places needle.fit needle.finder [] (get_or lists j []) at (gone j needle here) all words are)
