-- What is known of a dictionary, and how naming texts changes it.
use Rattle.std.specs.Prelude.{◌≡◌, ℕ, ◌<◌, List, [], ◌∷◌, ◌++◌, length, map, Option, None, Some, Result, Ok, Err, slice_get, All}
use Rattle.std.specs.List.{AllZip}
use mathlib.Core.List.{IsPrefix}
use Rattle.plain_list.specs.Texts.{IsNew}
use Rattle.logtype_text.specs.Parts.{Part, symbol_of}
use Rattle.logtype_text.specs.TypeText.{type_text}
use Rattle.logtype_text.specs.Encoded.{word_texts}
use Rattle.row_codec.specs.declared.namer.NameRefusal.{NameRefusal}
use Rattle.row_codec.specs.declared.namer.Which.{Which}
use Rattle.row_codec.specs.declared.namer.Which.TheVariants.{Types, Words}
use Rattle.row_codec.specs.Messages.{IsCutInto, IsTypeOf, IsWordOf}

-- these are the numbers of the texts, in order
abbrev pub AreNumbers : List (List ℕ) → List ℕ → List (List ℕ) → Type 0
AreNumbers known numbers texts = AllZip (λ number text. slice_get known number ≡ Some text) numbers texts

-- what a namer knows of one dictionary: texts by their numbers, those that it added itself, and how
-- many there may be
pub record Known : Type 0 where
  pub texts : List (List ℕ)
  pub added : List (List ℕ)
  pub limit : ℕ

-- more is known: what was known keeps its numbers, and all that the namer itself added is such a text
pub record HasGrown (P : List ℕ → Type 0) (old new : Known) : Type 0 where
  pub limit : new.limit ≡ old.limit
  pub front : IsPrefix old.texts new.texts
  pub more : List (List ℕ)
  pub added : new.added ≡ old.added ++ more
  pub allowed : All P more

-- Naming these texts in order came to one that has no number, while as many are known as there may
-- be. Those before it have numbers.
pub record MetLimit (known : Known) (texts : List (List ℕ)) (count : ℕ) : Type 0 where
  pub at : ℕ
  pub text : List ℕ
  pub here : slice_get texts at ≡ Some text
  pub new : IsNew known.texts text
  pub before : (k : ℕ) (t : List ℕ) → k < at → slice_get texts k ≡ Some t → (number : ℕ) × (slice_get known.texts number ≡ Some t)
  pub all : count ≡ length known.texts
  pub most : count ≡ known.limit

-- Naming the texts of a message, the log type first and then the words from left to right, met a
-- limit: that of the types, where no word was named, or that of the words, where the log type was.
abbrev pub MeetsLimit : ℕ → List ℕ → Which → ℕ → Known → Known → Known → Type 0
MeetsLimit version message Types count types words_before words =
    (parts : List Part) × IsCutInto version message parts
    × MetLimit types (type_text (map symbol_of parts) ∷ []) count × (words ≡ words_before)
MeetsLimit version message Words count types words_before words =
    (parts : List Part) × IsCutInto version message parts
    × ((number : ℕ) × (slice_get types.texts number ≡ Some (type_text (map symbol_of parts))))
    × MetLimit words (word_texts parts) count

-- why texts were not named, where they were not
abbrev pub refusal_of : {T : Type 0} → Result T NameRefusal → Option NameRefusal
refusal_of (Ok named) = None
refusal_of (Err refusal) = Some refusal

module _ {N : Type 0} (naming : Which → List (List ℕ) → Option NameRefusal → N → N → Type 0) (version : ℕ) (message : List ℕ)
    (answer : Option NameRefusal) where
  -- words of the message were named once, or one of them was refused, and the answer tells that
  pub record AsksForWords (old new : N) : Type 0 where
    pub texts : List (List ℕ)
    pub are : All (IsWordOf version message) texts
    pub refusal : Option NameRefusal
    pub named : naming Words texts refusal old new
    pub told : (r : NameRefusal) → refusal ≡ Some r → answer ≡ Some r

  -- that was done where the log type was named, and where it was refused nothing
  abbrev pub GoesOnWith : Option NameRefusal → N → N → Type 0
  GoesOnWith None old new = AsksForWords old new
  GoesOnWith (Some refusal) old new = (new ≡ old) × (answer ≡ Some refusal)

  -- The log type of the message was named once, and then its words. With a refusal it ends, and that is the answer.
  pub record AsksFor (old new : N) : Type 0 where
    pub text : List ℕ
    pub is_type : IsTypeOf version message text
    pub refusal : Option NameRefusal
    pub middle : N
    pub named : naming Types (text ∷ []) refusal old middle
    pub rest : GoesOnWith refusal middle new
