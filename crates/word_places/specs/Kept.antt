-- Log types that are kept in memory, each at its number.
use Rattle.std.specs.Prelude.{◌≡◌, ℕ, Bool, false, true, List, [], ◌∷◌, ◌++◌, length}
use Rattle.word_places.specs.declared.place.WordsPlace.{WordsPlace}

-- the texts of the log types, of which one that is left out is empty, whether any is, and where all of them stand
pub record KeptTypes : Type 0 where
  pub texts : List (List ℕ)
  pub left_out : Bool
  pub places : List WordsPlace

-- these and one text more
abbrev pub with_text : KeptTypes → List ℕ → KeptTypes
with_text kept text = record { texts = kept.texts ++ text ∷ []; left_out = kept.left_out; places = kept.places }

-- these and one more, which is left out
abbrev pub without_text : KeptTypes → KeptTypes
without_text kept = record { texts = kept.texts ++ [] ∷ []; left_out = true; places = kept.places }

-- these and more texts, all of which are kept
pub record KeepsTexts (old : KeptTypes) (more : List (List ℕ)) (new : KeptTypes) : Type 0 where
  pub texts : new.texts ≡ old.texts ++ more
  pub left_out : new.left_out ≡ old.left_out
  pub places : new.places ≡ old.places

-- as many as the log types, and the same if none was left out
pub record AreKeptOf (types : List (List ℕ)) (kept : KeptTypes) : Type 0 where
  pub count : length kept.texts ≡ length types
  pub whole : kept.left_out ≡ false → kept.texts ≡ types
