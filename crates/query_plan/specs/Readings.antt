-- In which ways a pattern can be read against a body that is stored as constant bytes and variables.
use Rattle.std.specs.Prelude.{◌≡◌, ℕ, List, [], ◌∷◌, Bool, true, false, Some}
use Rattle.token_rules.specs.Tokens.{IsDelimiter, is_variable}
use Rattle.wild_match.specs.Matches.{Match}
use Rattle.wild_match.specs.declared.pattern.Item.{Item}
use Rattle.wild_match.specs.declared.pattern.Item.TheVariants.{Byte, One, Many}
use Rattle.logtype_text.specs.Parts.{Part, Constant, Variable}
use Rattle.query_plan.specs.declared.pieces.Piece.{Piece}
use Rattle.query_plan.specs.declared.pieces.Piece.TheVariants.{Gap, Mark, Word}
use Rattle.query_plan.specs.Pieces.{Side, Free, After, Inside, bytes, flat, IsCut}

-- what may be left of a pattern after it has matched a text
pub data Rest : List Item → List ℕ → List Item → Type 0 where
  now : {p : List Item} → Rest p [] p
  same : {b : ℕ} {p q : List Item} {s : List ℕ} → Rest p s q → Rest (Byte b ∷ p) (b ∷ s) q
  one : {b : ℕ} {p q : List Item} {s : List ℕ} → Rest p s q → Rest (One ∷ p) (b ∷ s) q
  past : {b : ℕ} {p q : List Item} {s : List ℕ} → Rest p (b ∷ s) q → Rest (Many ∷ p) (b ∷ s) q
  stay : {b : ℕ} {p q : List Item} {s : List ℕ} → Rest (Many ∷ p) s q → Rest (Many ∷ p) (b ∷ s) q

-- behind a stamp a body begins with a delimiter, so what is left of the pattern does not begin with a
-- byte of a token
abbrev pub BeginsBody : List ℕ → List Item → Type 0
BeginsBody [] q = Unit {0}
BeginsBody (a ∷ s) [] = Unit {0}
BeginsBody (a ∷ s) (Byte c ∷ q) = IsDelimiter c
BeginsBody (a ∷ s) (One ∷ q) = Unit {0}
BeginsBody (a ∷ s) (Many ∷ q) = Unit {0}

-- a tail of the pattern: what may be left of it for the body after it has matched the stamp's text
abbrev pub IsTail : List Item → List ℕ → List Item → Type 0
IsTail p s q = Rest p s q × BeginsBody s q

-- an element of a reading: a constant byte, any parts, or a variable whose text a pattern matches
pub data Term : Type 0 where
  Letter : ℕ → Term
  Star : Term
  Held : List Item → Term

-- the bytes as constants before further elements
abbrev pub letters : List ℕ → List Term → List Term
letters [] r = r
letters (b ∷ t) r = Letter b ∷ letters t r

-- a closed token is read as a variable exactly where it is one; an open one may be read either way
abbrev pub MayBe : Bool → Side → List ℕ → List Piece → Type 0
MayBe v (After d) t (Mark c ∷ ps) = is_variable (Some d) t ≡ v
MayBe v (After d) t [] = Unit {0}
MayBe v (After d) t (Gap ∷ ps) = Unit {0}
MayBe v (After d) t (Word w ∷ ps) = Unit {0}
MayBe v Free t ps = Unit {0}
MayBe v Inside t ps = Unit {0}

-- where a variable goes on: behind a token of the pattern, or behind a gap within it
pub data Place : Type 0 where
  AtWord : Place
  AtGap : Place

-- How a variable goes on behind a token or a gap of it: its further items, and the pieces that are left.
-- It ends before a delimiter, or with any bytes at the end of the pattern or before a gap that stays; or
-- another token comes in it, where only a gap lies between the two.
pub data Goes : Place → List Piece → List Item → List Piece → Type 0 where
  shut : {d : ℕ} {ps : List Piece} → Goes AtWord (Mark d ∷ ps) [] (Mark d ∷ ps)
  last : Goes AtWord [] (Many ∷ []) []
  wide : {ps : List Piece} → Goes AtWord (Gap ∷ ps) (Many ∷ []) (Gap ∷ ps)
  more : {ps qs : List Piece} {x : List Item} → Goes AtGap ps x qs → Goes AtWord (Gap ∷ ps) (Many ∷ x) qs
  skip : {ps qs : List Piece} {x : List Item} → Goes AtGap ps x qs → Goes AtGap (Gap ∷ ps) x qs
  word : {t : List ℕ} {ps qs : List Piece} {x : List Item} → Goes AtWord ps x qs → Goes AtGap (Word t ∷ ps) (bytes t x) qs

-- a variable may begin before a token that a gap or the front of the pattern stands before
abbrev pub lead : Side → List Item → List Item
lead Free x = Many ∷ x
lead (After d) x = x
lead Inside x = x

-- the readings of pieces
pub data Reads : Side → List Piece → List Term → Type 0 where
  finish : {e : Side} → Reads e [] []
  star : {e : Side} {ps : List Piece} {r : List Term} → Reads Free ps r → Reads e (Gap ∷ ps) (Star ∷ r)
  mark : {e : Side} {d : ℕ} {ps : List Piece} {r : List Term} → Reads (After d) ps r → Reads e (Mark d ∷ ps) (Letter d ∷ r)
  text : {e : Side} {t : List ℕ} {ps : List Piece} {r : List Term} → MayBe false e t ps
      → Reads Inside ps r → Reads e (Word t ∷ ps) (letters t r)
  held : {e : Side} {t : List ℕ} {ps qs : List Piece} {x : List Item} {r : List Term} → MayBe true e t ps
      → Goes AtWord ps x qs → Reads Inside qs r → Reads e (Word t ∷ ps) (Held (lead e (bytes t x)) ∷ r)

-- the reading is one of a tail
abbrev pub IsReading : List Item → List Term → Type 0
IsReading q r = (ps : List Piece) × (flat ps ≡ q) × IsCut ps × Reads Free ps r

-- a reading accepts the parts of a body
pub data Accepts : List Term → List Part → Type 0 where
  nothing : Accepts [] []
  letter : {b : ℕ} {r : List Term} {parts : List Part} → Accepts r parts → Accepts (Letter b ∷ r) (Constant b ∷ parts)
  pass : {r : List Term} {parts : List Part} → Accepts r parts → Accepts (Star ∷ r) parts
  eat : {a : Part} {r : List Term} {parts : List Part} → Accepts (Star ∷ r) parts → Accepts (Star ∷ r) (a ∷ parts)
  fill : {x : List Item} {kind : _} {w : List ℕ} {r : List Term} {parts : List Part} → Match x w
      → Accepts r parts → Accepts (Held x ∷ r) (Variable kind w ∷ parts)

-- some reading of some tail accepts the parts
pub record SomeReads (p : List Item) (s : List ℕ) (parts : List Part) : Type 0 where
  pub tail : List Item
  pub reading : List Term
  pub is_tail : IsTail p s tail
  pub is_reading : IsReading tail reading
  pub accepts : Accepts reading parts

-- behind a stamp a body is empty or begins with a delimiter
abbrev pub Breaks : List ℕ → Type 0
Breaks [] = Unit {0}
Breaks (b ∷ s) = IsDelimiter b

abbrev pub IsBodyBehind : List ℕ → List ℕ → Type 0
IsBodyBehind [] body = Unit {0}
IsBodyBehind (b ∷ s) body = Breaks body
