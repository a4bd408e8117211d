-- How log types are kept as runs of constants with slots behind them.
use Rattle.std.specs.Prelude.{◌≡◌, ℕ, ◌≤◌, List, [], ◌∷◌, ◌++◌, length, map, take, drop}
use Rattle.logtype_text.specs.declared.symbols.Symbol.{Symbol}
use Rattle.logtype_text.specs.declared.symbols.Symbol.TheVariants.{Byte, Slot}
use Rattle.logtype_text.specs.TypeText.{IsTypeText, text_of_symbol, type_text}
use Rattle.row_codec.specs.declared.layouts.Next.{Next}
use Rattle.row_codec.specs.declared.layouts.Next.TheVariants.{Slot as NextSlot, End, Misfit}
use Rattle.row_codec.specs.declared.layouts.Piece.{Piece}
use Rattle.row_codec.specs.declared.layouts.Start.{Start}

-- the text that constant bytes are stored as
abbrev pub constants : List ℕ → List ℕ
constants run = type_text (map Byte run)

-- the text of a run, of what stands behind it, and of what is left
abbrev pub run_text : List ℕ → Next → List ℕ → List ℕ
run_text run (NextSlot kind) more = constants run ++ (text_of_symbol (Slot kind) ++ more)
run_text run End more = constants run
run_text run Misfit more = run

-- the text that constants and pieces stand for
abbrev pub spelled : List ℕ → List Piece → List ℕ
spelled bytes [] = []
spelled bytes (piece ∷ pieces) = run_text (take piece.len bytes) piece.next (spelled (drop piece.len bytes) pieces)

-- what a run needs that has this behind it, where that is needed of what is left
abbrev pub Needs : List ℕ → Next → Type 0 → Type 0
Needs run (NextSlot kind) more = more
Needs run End more = Unit {0}
Needs run Misfit more = ¬ IsTypeText run

-- The pieces have an end, and the constants of those up to there are all there. A run without one is
-- the text of no log type.
abbrev pub IsClosed : List ℕ → List Piece → Type 0
IsClosed bytes [] = ⊥
IsClosed bytes (piece ∷ pieces) =
    (piece.len ≤ length bytes) × Needs (take piece.len bytes) piece.next (IsClosed (drop piece.len bytes) pieces)

-- the text of the log type that begins here
abbrev pub laid_text : List ℕ → List Piece → Start → List ℕ
laid_text bytes pieces start = spelled (drop start.byte bytes) (drop start.piece pieces)

-- a log type begins here
pub record IsLaidOut (bytes : List ℕ) (pieces : List Piece) (start : Start) : Type 0 where
  pub byte : start.byte ≤ length bytes
  pub piece : start.piece ≤ length pieces
  pub closed : IsClosed (drop start.byte bytes) (drop start.piece pieces)

-- the constants and pieces of a text were added
pub record LaysOut (text old new : List ℕ) (pieces_old pieces_new : List Piece) : Type 0 where
  pub bytes : List ℕ
  pub pieces : List Piece
  pub bytes_are : new ≡ old ++ bytes
  pub pieces_are : pieces_new ≡ pieces_old ++ pieces
  pub spells : spelled bytes pieces ≡ text
  pub closed : IsClosed bytes pieces

-- A text of a log type, of which `rest` is left, on the way. What was added is a closed front, which
-- goes on with whatever follows, and the constants of the run that is open.
pub record IsCutUpTo (text rest : List ℕ) (start : ℕ) (old new : List ℕ) (pieces_old pieces_new : List Piece) : Type 0 where
  pub front : List ℕ
  pub bytes : List ℕ
  pub pieces : List Piece
  pub open_run : List ℕ
  pub bytes_are : new ≡ old ++ (bytes ++ open_run)
  pub pieces_are : pieces_new ≡ pieces_old ++ pieces
  pub begins : start ≡ length (old ++ bytes)
  pub cut : text ≡ front ++ (constants open_run ++ rest)
  pub good : IsTypeText rest
  pub spells : (more : List ℕ) (others : List Piece) → spelled (bytes ++ more) (pieces ++ others) ≡ front ++ spelled more others
  pub closes : (more : List ℕ) (others : List Piece) → IsClosed more others → IsClosed (bytes ++ more) (pieces ++ others)

-- constants at the front of a text were added, and this follows them
pub record AddsRun (text rest old new : List ℕ) : Type 0 where
  pub run : List ℕ
  pub appended : new ≡ old ++ run
  pub cut : text ≡ constants run ++ rest

-- a symbol was added: what was cut up to it is cut up to what follows it
abbrev pub AddsSymbol : Symbol → ℕ → ℕ → List ℕ → List ℕ → List Piece → List Piece → Type 0
AddsSymbol symbol start end mid new pieces_mid pieces_new =
    (text rest after old : List ℕ) (pieces_old : List Piece) → rest ≡ text_of_symbol symbol ++ after
    → IsCutUpTo text rest start old mid pieces_old pieces_mid → IsCutUpTo text after end old new pieces_old pieces_new
