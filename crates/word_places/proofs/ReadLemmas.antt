-- Which ranges are read, and what a read of too few bytes says.
use Rattle.std.proofs.Common.{◌≡◌, inl, inr, ℕ, ◌<◌, List, [], ◌∷◌, ◌++◌, Option, Some, None, option_map, length, take, drop, refl, sym, ◌∙◌, ap, subst, arith}
use Rattle.std.specs.Prelude.{Contains, IfSome}
use Rattle.std.proofs.lemmas.List.{append-nil, append_assoc, length-take, length-drop}
use Rattle.std.proofs.lemmas.List.Elements.{All-nil, All-cons, All-append}
use Rattle.log_seams.specs.Disk.{DiskState, Gave, ReadsOnly}
use Rattle.word_places.specs.declared.place.WordsPlace.{WordsPlace}
use Rattle.word_places.specs.Places.{OfTexts, Spells, payload_in}
use Rattle.word_places.specs.Reads.{IsOfWords, ReadsOneOf, ReadsWords}

abbrev pub Ranges : Type 0
Ranges = Option (List (ℕ × ℕ))

none_added : (old : Ranges) → old ≡ option_map (λ ranges. ranges ++ []) old
none_added None = refl
none_added (Some ranges) = ap Some (sym (append-nil ranges))

two_added : (old mid new : Ranges) (a b : List (ℕ × ℕ)) → mid ≡ option_map (λ ranges. ranges ++ a) old → new ≡ option_map (λ ranges. ranges ++ b) mid
    → new ≡ option_map (λ ranges. ranges ++ (a ++ b)) old
two_added None mid new a b one two = two ∙ ap (option_map (λ ranges. ranges ++ b)) one
two_added (Some ranges) mid new a b one two = two ∙ ap (option_map (λ ranges. ranges ++ b)) one ∙ ap Some (append_assoc ranges a b)

pub words_none : (places : List WordsPlace) (old new : DiskState) → new.ranges ≡ old.ranges → ReadsWords places old new
words_none places old new same = record { more = []; added = same ∙ none_added old.ranges; within = All-nil (λ r. IsOfWords places r.0 r.1) }

pub words_one : (places : List WordsPlace) (old new : DiskState) (p : WordsPlace) → Contains places p → ReadsOnly p.payload p.length old new → ReadsWords places old new
words_one places old new p one (inl same) = words_none places old new same
words_one places old new p one (inr more) = record {
  more = (p.payload, more.0) ∷ [];
  added = more.2;
  within = All-cons (λ r. IsOfWords places r.0 r.1) (p.payload, more.0) []
      (record { place = p; one = one; low = omega arith; high = omega (arith, more.1) }) (All-nil (λ r. IsOfWords places r.0 r.1));
}

pub words_of_one : (places : List WordsPlace) (old new : DiskState) → ReadsOneOf places old new → ReadsWords places old new
words_of_one places old new (inl same) = words_none places old new same
words_of_one places old new (inr read) = words_one places old new read.0 read.1 read.2

pub words_on : (places : List WordsPlace) (old mid new : DiskState) → ReadsWords places old mid → ReadsWords places mid new → ReadsWords places old new
words_on places old mid new one two = record {
  more = one.more ++ two.more;
  added = two_added old.ranges mid.ranges new.ranges one.more two.more one.added two.added;
  within = All-append (λ r. IsOfWords places r.0 r.1) one.more two.more one.within two.within;
}

-- a payload that the bytes end before spells nothing
pub short_none : (told : Option (List ℕ)) (p : WordsPlace) (n : ℕ) (old new : List ℕ) → Gave told p.payload n old new → length old ≡ p.length → n < length old → OfTexts told p (λ _. ⊥)
short_none None p n old new gave len less = tt
short_none (Some bytes) p n old new gave len less = λ texts spells.
    omega (arith, gave.all, len, less, spells.size, length-take p.length (drop p.payload bytes), length-drop p.payload bytes)

pub other_disk : (told now : Option (List ℕ)) (p : WordsPlace) (P : List (List ℕ) → Type 0) → now ≡ told → OfTexts now p P → OfTexts told p P
other_disk told now p P same of = subst (λ (t : Option (List ℕ)). OfTexts t p P) same of

-- where the buffer has a payload, what holds of what the buffer spells holds of the record
pub none_loaded : (told : Option (List ℕ)) (p : WordsPlace) (payload : List ℕ) → IfSome told (λ bytes. payload ≡ payload_in p bytes) → ((texts : List (List ℕ)) → ¬ Spells p payload texts)
    → OfTexts told p (λ _. ⊥)
none_loaded None p payload loaded none = tt
none_loaded (Some bytes) p payload loaded none = λ texts spells. none texts (subst (λ (l : List ℕ). Spells p l texts) (sym loaded) spells)

pub spells_loaded : (told : Option (List ℕ)) (p : WordsPlace) (payload : List ℕ) (words : List (List ℕ)) → IfSome told (λ bytes. payload ≡ payload_in p bytes) → Spells p payload words
    → IfSome told (λ bytes. Spells p (payload_in p bytes) words)
spells_loaded None p payload words loaded spells = tt
spells_loaded (Some bytes) p payload words loaded spells = subst (λ (l : List ℕ). Spells p l words) loaded spells

pub of_loaded : (told : Option (List ℕ)) (p : WordsPlace) (payload : List ℕ) (P : List (List ℕ) → Type 0) → IfSome told (λ bytes. payload ≡ payload_in p bytes) → ((texts : List (List ℕ)) → Spells p payload texts → P texts)
    → OfTexts told p P
of_loaded None p payload P loaded each = tt
of_loaded (Some bytes) p payload P loaded each = λ texts spells. each texts (subst (λ (l : List ℕ). Spells p l texts) (sym loaded) spells)

pub loaded_slice : (told : Option (List ℕ)) (p : WordsPlace) (items now front : List ℕ) → now ≡ items → front ≡ take p.length now → IfSome told (λ bytes. take p.length items ≡ payload_in p bytes)
    → IfSome told (λ bytes. front ≡ payload_in p bytes)
loaded_slice None p items now front same is loaded = tt
loaded_slice (Some bytes) p items now front same is loaded = is ∙ ap (λ (l : List ℕ). take p.length l) same ∙ loaded
