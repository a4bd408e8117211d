-- What holds of readings and of the pattern that a search is planned over.
use Rattle.std.specs.Prelude.{◌≡◌, ◌⊎◌, ◌↔◌, ◌≢◌, true, ℕ, ◌<◌, ◌≤◌, List, [], ◌∷◌, ◌++◌, length, IsTrue}
use Rattle.std.specs.List.{All, AllZip, Contains}
use Rattle.token_rules.specs.Tokens.{IsDelimiter}
use Rattle.time_patterns.specs.Laws.{is_stamp_byte}
use Rattle.logtype_text.specs.Parts.{Part, AreParts, joined}
use Rattle.query_plan.specs.declared.pieces.Piece.{Piece}
use Rattle.query_plan.specs.declared.pieces.Piece.TheVariants.{Gap, Mark, Word}
use Rattle.query_plan.specs.declared.pieces.TheConstants.{MAX_OPEN_TOKENS}
use Rattle.query_plan.specs.Needs.{skeleton_of, constants, marked, needed_variables_of, Brings, HeldIn, around, is_foreign}
use Rattle.query_plan.specs.Pieces.{Free, IsCut, flat, wide, wide_pieces, open_tokens, needed_of}
use Rattle.query_plan.specs.Readings.{SomeReads, IsBodyBehind}
use Rattle.wild_match.specs.Matches.{Match}
use Rattle.wild_match.specs.Reading.{IsSearchPattern}
use Rattle.wild_match.specs.declared.pattern.Item.{Item}
use Rattle.wild_match.specs.declared.pattern.Item.TheVariants.{Byte, One, Many}

abbrev pub NotNil : List Item → Type 0
NotNil [] = ⊥
NotNil (i ∷ q) = Unit {0}

-- no `?`, and no byte comes last
abbrev pub IsSmooth : List Item → Type 0
IsSmooth [] = Unit {0}
IsSmooth (Byte b ∷ q) = NotNil q × IsSmooth q
IsSmooth (One ∷ q) = ⊥
IsSmooth (Many ∷ q) = IsSmooth q

-- no `?`
abbrev pub NoOne : List Item → Type 0
NoOne [] = Unit {0}
NoOne (Byte b ∷ q) = NoOne q
NoOne (One ∷ q) = ⊥
NoOne (Many ∷ q) = NoOne q

-- no `?`, and no more open tokens than stay in the pattern that a search is planned over
abbrev pub IsPlain : List Item → Type 0
IsPlain p = NoOne p × (open_tokens p ≤ MAX_OPEN_TOKENS)

-- any bytes come last
abbrev pub EndsMany : List Item → Type 0
EndsMany [] = ⊥
EndsMany (Many ∷ []) = Unit {0}
EndsMany (Byte b ∷ []) = ⊥
EndsMany (One ∷ []) = ⊥
EndsMany (x ∷ y ∷ q) = EndsMany (y ∷ q)

-- the pattern begins with any bytes, has no `?` and no byte comes last
abbrev pub IsWidened : List Item → Type 0
IsWidened [] = ⊥
IsWidened (Byte b ∷ q) = ⊥
IsWidened (One ∷ q) = ⊥
IsWidened (Many ∷ q) = IsSmooth q

-- the pattern is one that is searched for: any bytes come first and last
abbrev pub IsSearched : List Item → Type 0
IsSearched [] = ⊥
IsSearched (Byte b ∷ q) = ⊥
IsSearched (One ∷ q) = ⊥
IsSearched (Many ∷ q) = EndsMany (Many ∷ q)

-- Some reading of some tail accepts a body's parts exactly where the pattern matches the stamp's text and
-- the body behind it.
abbrev pub ReadingsAreExact : Type 0
ReadingsAreExact =
    (p : List Item) (s body : List ℕ) (parts : List Part) → IsWidened p → IsBodyBehind s body → AreParts body parts
    → SomeReads p s parts ↔ Match p (s ++ body)

-- the pattern that a search is planned over matches each message that the pattern matches
abbrev pub WideIsWider : Type 0
WideIsWider = (p : List Item) (s : List ℕ) → Match p s → Match (wide p) s

-- and no other message, where the pattern has no `?` and at most four open tokens
abbrev pub WideIsExact : Type 0
WideIsExact = (p : List Item) (s : List ℕ) → NoOne p → open_tokens p ≤ MAX_OPEN_TOKENS → Match (wide p) s → Match p s

-- what a search's text spells is such a pattern
abbrev pub SearchesAreSearched : Type 0
SearchesAreSearched = (text : List ℕ) (p : List Item) → IsSearchPattern text p → IsSearched p

-- it begins with any bytes, has no `?`, and no byte comes last, so its readings are exact
abbrev pub WideIsWidened : Type 0
WideIsWidened = (p : List Item) → IsSearched p → IsWidened (wide p)

-- no item is this byte
abbrev pub HasNot : ℕ → List Item → Type 0
HasNot m [] = Unit {0}
HasNot m (Byte b ∷ q) = (b ≢ m) × HasNot m q
HasNot m (One ∷ q) = HasNot m q
HasNot m (Many ∷ q) = HasNot m q

-- A message that the pattern which a search is planned over matches has constant bytes that the skeleton
-- matches.
abbrev pub SkeletonIsNeeded : Type 0
SkeletonIsNeeded =
    (p : List Item) (s body : List ℕ) (parts : List Part) → IsSearched p → All (λ b. IsTrue (is_stamp_byte b)) s
    → IsBodyBehind s body → AreParts body parts → Match (wide p) (s ++ body)
    → Match (skeleton_of (wide_pieces p)) (constants parts)

-- Where the pattern matches the constant bytes with a byte of no item for each variable, it matches each
-- message with these constant bytes.
abbrev pub ConstantsSuffice : Type 0
ConstantsSuffice =
    (m : ℕ) (p : List Item) (s : List ℕ) (parts : List Part) → NoOne p → HasNot m p
    → Match (Many ∷ p) (marked m parts) → Match (Many ∷ p) (s ++ joined parts)

-- A message that the pattern which a search is planned over matches brings each needed word: as a
-- variable, where it is one, and among its constant bytes otherwise.
abbrev pub NeededWordsAreBrought : Type 0
NeededWordsAreBrought =
    (p : List Item) (s body : List ℕ) (parts : List Part) → IsSearched p → All (λ b. IsTrue (is_stamp_byte b)) s
    → IsBodyBehind s body → AreParts body parts → Match (wide p) (s ++ body)
    → AllZip (λ t v. Brings parts t v) (needed_of Free (wide_pieces p)) (needed_variables_of Free (wide_pieces p))

-- A message that pieces match has each of their tokens that can stand in no stamp: among its constant
-- bytes, where a newline stands for each variable, or in a variable.
abbrev pub TokensAreBrought : Type 0
TokensAreBrought =
    (ps : List Piece) (s body : List ℕ) (parts : List Part) (t : List ℕ) → IsCut ps → Contains ps (Word t) → is_foreign t ≡ true
    → All (λ b. IsTrue (is_stamp_byte b)) s → IsBodyBehind s body → AreParts body parts → Match (flat ps) (s ++ body)
    → Match (around t) (marked 10 parts) ⊎ HeldIn t parts

-- and such a token stands in no text that has bytes of stamps alone
abbrev pub ForeignStandsInNoStamp : Type 0
ForeignStandsInNoStamp =
    (ps : List Piece) (t s : List ℕ)
    → IsCut ps → Contains ps (Word t)
    → is_foreign t ≡ true → All (λ b. IsTrue (is_stamp_byte b)) s
    → ¬ Match (around t) s

-- A message that pieces match has each of their tokens: in the stamp's text, among its constant bytes,
-- where a newline stands for each variable, or in a variable.
abbrev pub TokensStand : Type 0
TokensStand =
    (ps : List Piece) (s body : List ℕ) (parts : List Part) (t : List ℕ) → IsCut ps → Contains ps (Word t)
    → IsBodyBehind s body → AreParts body parts → Match (flat ps) (s ++ body)
    → Match (around t) s ⊎ (Match (around t) (marked 10 parts) ⊎ HeldIn t parts)

-- no piece is a gap
abbrev pub NoGap : List Piece → Type 0
NoGap [] = Unit {0}
NoGap (Gap ∷ ps) = ⊥
NoGap (Mark d ∷ ps) = NoGap ps
NoGap (Word t ∷ ps) = NoGap ps

-- the bytes of pieces, where none is a gap
abbrev pub chunk_text : List Piece → List ℕ
chunk_text [] = []
chunk_text (Gap ∷ ps) = chunk_text ps
chunk_text (Mark d ∷ ps) = d ∷ chunk_text ps
chunk_text (Word t ∷ ps) = t ++ chunk_text ps

-- some of the pieces in a row, none of them a gap: what they match stands in a row too
pub record IsChunk (ps chunk : List Piece) : Type 0 where
  pub before : List Piece
  pub behind : List Piece
  pub stands : ps ≡ before ++ (chunk ++ behind)
  pub whole : NoGap chunk

-- a delimiter comes first
abbrev pub BeginsMark : List ℕ → Type 0
BeginsMark [] = ⊥
BeginsMark (b ∷ w) = IsDelimiter b

-- The text lies over the border of a stamp and a body: a front of it ends the stamp, and the body begins with
-- the rest of it, which begins with a delimiter.
pub record Across (text s body : List ℕ) : Type 0 where
  pub front : List ℕ
  pub back : List ℕ
  pub before : List ℕ
  pub behind : List ℕ
  pub joins : text ≡ front ++ back
  pub some : 0 < length front
  pub marks : BeginsMark back
  pub ends : s ≡ before ++ front
  pub begins : body ≡ back ++ behind

-- A message that pieces match has the text of each chunk of them: in the stamp's text, over the border of the
-- stamp and the body, or in the body, and then each token of the chunk as tokens stand in a body.
abbrev pub ChunksAreBrought : Type 0
ChunksAreBrought =
    (ps chunk : List Piece) (s body : List ℕ) (parts : List Part) → IsCut ps → IsChunk ps chunk
    → IsBodyBehind s body → AreParts body parts → Match (flat ps) (s ++ body)
    → Match (around (chunk_text chunk)) s
    ⊎ (Across (chunk_text chunk) s body
    ⊎ (Match (around (chunk_text chunk)) body
    × ((t : List ℕ) → Contains chunk (Word t) → Match (around t) (marked 10 parts) ⊎ HeldIn t parts)))
