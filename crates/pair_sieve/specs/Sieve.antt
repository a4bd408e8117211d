-- What a sieve tells.
use Rattle.std.specs.Prelude.{◌≡◌, ◌≤◌, ℕ, Bool, true, List, [], ◌∷◌, length, Option, IfSome}
use Rattle.column_store.specs.declared.row.Row.{Row}
use Rattle.row_codec.specs.Means.{IsCanonical}
use Rattle.wild_match.specs.declared.pattern.Item.{Item}
use Rattle.wild_match.specs.Matches.{Match}
use Rattle.pair_sieve.specs.declared.pair.Pair.{Pair}
use Rattle.pair_sieve.specs.Pairs.{Supplies, HasPair, IsPairOf}

-- the pair, and a flag for each text that was looked at, of log types and of words
pub record SieveView : Type 0 where
  pub pair : Option Pair
  pub types : List Bool
  pub words : List Bool

-- flag by flag: it is set where P holds of the text with its number; further texts have no flag yet
abbrev pub Marks : (List ℕ → Type 0) → List (List ℕ) → List Bool → Type 0
Marks P texts [] = Unit {0}
Marks P [] (flag ∷ flags) = ⊥
Marks P (text ∷ texts) (flag ∷ flags) = (P text → flag ≡ true) × Marks P texts flags

-- the flags tell of the first texts which have this pair, or can supply it
pub record TellsOf (of_types of_words : List (List ℕ)) (s : SieveView) (p : Pair) : Type 0 where
  pub types : Marks (HasPair p.before p.after) of_types s.types
  pub words : Marks (Supplies p.before p.after) of_words s.words

-- the sieve is one for this pattern, and its flags tell of these texts
pub record Tells (pattern : List Item) (types words : List (List ℕ)) (s : SieveView) : Type 0 where
  pub pair : IfSome s.pair (λ p. IsPairOf pattern p.before p.after)
  pub flags : IfSome s.pair (TellsOf types words s)

-- and there is a flag for each word
pub record Knows (pattern : List Item) (types words : List (List ℕ)) (s : SieveView) : Type 0 where
  pub tells : Tells pattern types words s
  pub all : IfSome s.pair (λ p. length words ≤ length s.words)

-- a pattern that the sieve is for matches no message that the row is the encoding of, by texts that the sieve knows
abbrev pub HasNoMatch : SieveView → Row → Type 0
HasNoMatch s row =
    (pattern : List Item) (types words : List (List ℕ)) → Knows pattern types words s
    → (version : ℕ) (message : List ℕ) → IsCanonical version row types words message → ¬ Match pattern message
