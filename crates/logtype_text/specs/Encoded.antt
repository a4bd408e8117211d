-- What is stored of a body: the text of its log type, what its variables are coded as, and where the
-- words stand that go to a dictionary.
use Rattle.std.specs.Prelude.{◌≡◌, ℕ, ◌<◌, ◌≤◌, List, [], ◌∷◌, length, map, slice_range, All}
use Rattle.var_codec.specs.Codes.{Codes}
use Rattle.var_codec.specs.declared.Coded.{Coded}
use Rattle.logtype_text.specs.declared.symbols.Kind.TheVariants.{Whole, Word, Decimal}
use Rattle.logtype_text.specs.declared.spans.Span.{Span}
use Rattle.logtype_text.specs.Parts.{Part, Constant, Variable, AreParts, kind_of, symbol_of}
use Rattle.logtype_text.specs.TypeText.{type_text}

-- these are, in order, what the variables of the parts are coded as
abbrev pub AreCoded : List Part → List Coded → Type 0
AreCoded [] [] = Unit {0}
AreCoded [] (coded ∷ codes) = ⊥
AreCoded (Constant b ∷ parts) codes = AreCoded parts codes
AreCoded (Variable kind text ∷ parts) [] = ⊥
AreCoded (Variable kind text ∷ parts) (coded ∷ codes) =
    Codes text coded × (kind_of coded ≡ kind) × AreCoded parts codes

-- the texts of the words of a dictionary among the parts, in order
abbrev pub word_texts : List Part → List (List ℕ)
word_texts [] = []
word_texts (Constant b ∷ parts) = word_texts parts
word_texts (Variable Whole text ∷ parts) = word_texts parts
word_texts (Variable Decimal text ∷ parts) = word_texts parts
word_texts (Variable Word text ∷ parts) = text ∷ word_texts parts

-- the bytes at these places, one text for each
abbrev pub texts_at : List ℕ → List Span → List (List ℕ)
texts_at bytes spans = map (λ (span : Span). slice_range bytes span.start span.end) spans

-- each of the places is one of these bytes and has at least one of them
abbrev pub AreWithin : List ℕ → List Span → Type 0
AreWithin bytes spans = All (λ (span : Span). (span.start < span.end) × (span.end ≤ length bytes)) spans

-- The body is stored as this text of its log type and these codes of its variables, and its words of
-- a dictionary stand at these places.
pub record IsEncoded (body text : List ℕ) (codes : List Coded) (words : List Span) : Type 0 where
  pub parts : List Part
  pub are : AreParts body parts
  pub typed : text ≡ type_text (map symbol_of parts)
  pub coded : AreCoded parts codes
  pub words_are : texts_at body words ≡ word_texts parts
  pub within : AreWithin body words
