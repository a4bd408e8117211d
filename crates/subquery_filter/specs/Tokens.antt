-- What the tokens of a pattern tell of the rows that it may match: each of them stands in the row's
-- stamp, among the constant bytes of its log type, or in the text of one of its variables.
use Rattle.std.specs.Prelude.{◌≡◌, ◌⊎◌, ◌<◌, ◌++◌, ℕ, Bool, Some, List, [], ◌∷◌, drop, false, map, slice_get, take, true}
use Rattle.std.specs.List.{Contains, list_all}
use Rattle.token_rules.specs.Tokens.{is_token_byte, is_variable}
use Rattle.var_codec.specs.Codes.{Codes}
use Rattle.var_codec.specs.declared.Coded.{Coded}
use Rattle.column_store.specs.declared.row.Row.{Row}
use Rattle.logtype_text.specs.declared.symbols.Kind.{Kind}
use Rattle.logtype_text.specs.declared.symbols.Symbol.{Symbol}
use Rattle.logtype_text.specs.declared.symbols.Symbol.TheVariants.{Byte}
use Rattle.logtype_text.specs.TypeText.{type_text}
use Rattle.wild_match.specs.Matches.{Match}
use Rattle.wild_match.specs.declared.pattern.Item.{Item}
use Rattle.row_codec.specs.Means.{HasStampText, HasWord, IsCanonical}
use Rattle.query_plan.specs.declared.pieces.Piece.{Piece}
use Rattle.query_plan.specs.declared.pieces.Piece.TheVariants.{Mark, Word}
use Rattle.query_plan.specs.Laws.{BeginsMark, IsChunk, chunk_text}
use Rattle.query_plan.specs.Needs.{around}
use Rattle.query_plan.specs.Pieces.{IsCut, flat}
use Rattle.query_plan.specs.Slots.{MayBegin, MayStand}
use Rattle.subquery_filter.specs.StepsLetters.{kinds_in, marked_from}

-- what constant bytes are stored as in the text of a log type
abbrev pub stored : List ℕ → List ℕ
stored run = type_text (map Byte run)

-- no byte of the text is a delimiter
abbrev pub is_inner : List ℕ → Bool
is_inner t = list_all is_token_byte t

-- the items match what a token of the pieces stands in
abbrev pub IsTokenOf : List Piece → List Item → Type 0
IsTokenOf ps items = (t : List ℕ) × Contains ps (Word t) × (items ≡ around t)

-- the items match the text of the row's stamp
abbrev pub StandsInStamp : List Item → Row → Type 0
StandsInStamp items row = (s : List ℕ) × HasStampText row.pattern row.moment s × Match items s

-- the items match the constant bytes of a log type, with a newline for each variable
abbrev pub StandsInType : List Item → List ℕ → Type 0
StandsInType items text = Match items (marked_from false (10 ∷ []) text)

-- the items match the text of a variable: its kind is that of the log type's slot at this place, and the
-- row's word at the same place is that of its text
pub record StandsInSlot (items : List Item) (words : List (List ℕ)) (text row : List ℕ) : Type 0 where
  pub place : ℕ
  pub kind : Kind
  pub word : ℕ
  pub variable : List ℕ
  pub slot : slice_get (kinds_in false text) place ≡ Some kind
  pub at : slice_get row place ≡ Some word
  pub has : HasWord words kind variable word
  pub fits : Match items variable

-- a row whose message the pieces match brings each token
abbrev pub RowsBringTokens : Type 0
RowsBringTokens =
    (version : ℕ) (ps : List Piece) (row : Row) (types words : List (List ℕ)) (text message : List ℕ) (items : List Item)
    → IsCut ps → IsCanonical version row types words message → Match (flat ps) message → IsTokenOf ps items
    → slice_get types row.log_type ≡ Some text
    → StandsInStamp items row ⊎ (StandsInType items text ⊎ StandsInSlot items words text row.words)

-- a token of the pieces that stands between delimiters of them, and is a variable that is stored so
pub record IsClosed (ps : List Piece) (t : List ℕ) (code : Coded) : Type 0 where
  pub before : ℕ
  pub behind : ℕ
  pub chunk : IsChunk ps (Mark before ∷ Word t ∷ Mark behind ∷ [])
  pub variable : is_variable (Some before) t ≡ true
  pub coded : Codes t code

-- the text is that of a variable: its kind is that of the log type's slot at this place, and the row's word at the
-- same place is that of the text
pub record OwnsSlot (t : List ℕ) (words : List (List ℕ)) (text row : List ℕ) : Type 0 where
  pub place : ℕ
  pub kind : Kind
  pub word : ℕ
  pub slot : slice_get (kinds_in false text) place ≡ Some kind
  pub at : slice_get row place ≡ Some word
  pub has : HasWord words kind t word

-- a row whose message the pieces match brings each such token: in its stamp, or as the whole text of a variable
abbrev pub RowsBringClosed : Type 0
RowsBringClosed =
    (version : ℕ) (ps : List Piece) (row : Row) (types words : List (List ℕ)) (text message t : List ℕ) (code : Coded)
    → IsCut ps → IsCanonical version row types words message → Match (flat ps) message → IsClosed ps t code
    → slice_get types row.log_type ≡ Some text → StandsInStamp (around t) row ⊎ OwnsSlot t words text row.words

-- ---- with what stands around them in the pattern

-- so many bytes of the text end the stamp, and a delimiter of the text stands behind them
pub record EndsAt (w s : List ℕ) (n : ℕ) : Type 0 where
  pub some : 0 < n
  pub marks : BeginsMark (drop n w)
  pub before : List ℕ
  pub ends : s ≡ before ++ take n w

-- a front of the text ends the stamp, and a delimiter of the text stands behind it
abbrev pub LiesAcross : List ℕ → List ℕ → Type 0
LiesAcross w s = (n : ℕ) × EndsAt w s n

-- a token lies in the stamp with the text that stands around it in the pattern: all of that text stands there,
-- or a front of it at the stamp's end
abbrev pub LiesInStamp : List ℕ → List ℕ → List ℕ → Type 0
LiesInStamp w t s = Match (around w) s ⊎ (LiesAcross w s × Match (around t) s)

-- the text is that of some of the pieces in a row, none of them a gap, and the token is one of these
pub record IsInRun (ps : List Piece) (t w : List ℕ) : Type 0 where
  pub run : List Piece
  pub chunk : IsChunk ps run
  pub has : Contains run (Word t)
  pub text : w ≡ chunk_text run

-- the text is that of the token, which is closed, with the delimiters on both sides
abbrev pub IsClosedIn : List Piece → List ℕ → List ℕ → Coded → Type 0
IsClosedIn ps t w code = (h : IsClosed ps t code) × (w ≡ h.before ∷ (t ++ h.behind ∷ []))

-- the token lies in the stamp of the row
abbrev pub StampBrings : List ℕ → List ℕ → Row → Type 0
StampBrings w t row = (s : List ℕ) × HasStampText row.pattern row.moment s × LiesInStamp w t s

-- a row whose message the pieces match brings each token: in its stamp with what stands around it, or in its body
abbrev pub RowsBringRuns : Type 0
RowsBringRuns =
    (version : ℕ) (ps : List Piece) (row : Row) (types words : List (List ℕ)) (text message t w : List ℕ)
    → IsCut ps → IsCanonical version row types words message → Match (flat ps) message → IsInRun ps t w
    → slice_get types row.log_type ≡ Some text
    → StampBrings w t row ⊎ (StandsInType (around t) text ⊎ StandsInSlot (around t) words text row.words)

-- and so each closed one: in its stamp, or as the whole text of a variable
abbrev pub RowsBringClosedRuns : Type 0
RowsBringClosedRuns =
    (version : ℕ) (ps : List Piece) (row : Row) (types words : List (List ℕ)) (text message t w : List ℕ) (code : Coded)
    → IsCut ps → IsCanonical version row types words message → Match (flat ps) message → IsClosedIn ps t w code
    → slice_get types row.log_type ≡ Some text → StampBrings w t row ⊎ OwnsSlot t words text row.words

-- ---- as a whole

-- the text is that of some of the pieces in a row, none of them a gap
abbrev pub IsRunOf : List Piece → List ℕ → Type 0
IsRunOf ps w = (run : List Piece) × IsChunk ps run × (w ≡ chunk_text run)

-- the text may stand in the body of a message of the log type with this text
abbrev pub MayStandIn : List ℕ → List ℕ → Type 0
MayStandIn w text = (symbols : List Symbol) × (text ≡ type_text symbols) × MayStand w symbols

-- behind so many bytes of it the text goes on with a delimiter, and so such a body may begin
pub record GoesOnAt (w text : List ℕ) (n : ℕ) : Type 0 where
  pub some : 0 < n
  pub marks : BeginsMark (drop n w)
  pub symbols : List Symbol
  pub typed : text ≡ type_text symbols
  pub goes : MayBegin (drop n w) symbols

-- the text may go on from a stamp into such a body
abbrev pub MayGoOn : List ℕ → List ℕ → Type 0
MayGoOn w text = (n : ℕ) × GoesOnAt w text n

-- A row whose message the pieces match brings the text of each run of them in its stamp, where that may neither stand
-- in a body of its log type nor go on there.
abbrev pub RowsBringChunks : Type 0
RowsBringChunks =
    (version : ℕ) (ps : List Piece) (row : Row) (types words : List (List ℕ)) (text message w : List ℕ)
    → IsCut ps → IsCanonical version row types words message → Match (flat ps) message → IsRunOf ps w
    → slice_get types row.log_type ≡ Some text → ¬ MayStandIn w text → ¬ MayGoOn w text → StandsInStamp (around w) row

-- all of these
abbrev pub RowsBring : Type 0
RowsBring = RowsBringRuns × RowsBringClosedRuns × RowsBringChunks
