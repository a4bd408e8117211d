-- The framed record of an entry.
use Rattle.std.specs.Prelude.{◌≡◌, ℕ, ◌<◌, List, [], ◌∷◌, ◌++◌, Option, None, Some}
use Rattle.disk_journal.specs.Record.{IsFrame, saved_of}
use Rattle.archive_meaning.specs.declared.entry.JournalEntry.{JournalEntry}
use Rattle.archive_meaning.specs.Spelled.{record_of}
use Rattle.disk_seal.specs.declared.pieces.Piece.{Piece}
use Rattle.disk_seal.specs.Told.{entry_of}

-- the framed record of an entry that is spelled alike behind all log types; it saves so many texts of each book
pub record IsFramed (e : JournalEntry) (saves_types saves_words : ℕ) (p : Piece) : Type 0 where
  pub framed : IsFrame p.text
  pub saved : saved_of p.text ≡ record_of [] e
  pub is : entry_of (saved_of p.text) ≡ e
  pub types_is : p.types ≡ saves_types
  pub words_is : p.words ≡ saves_words

-- that of an entry with so many texts; none where there are none
abbrev pub IsFramedOrNone : JournalEntry → ℕ → ℕ → ℕ → Option Piece → Type 0
IsFramedOrNone e count saves_types saves_words None = count ≡ 0
IsFramedOrNone e count saves_types saves_words (Some p) = (0 < count) × IsFramed e saves_types saves_words p

abbrev pub one_or_none : Option Piece → List Piece
one_or_none None = []
one_or_none (Some p) = p ∷ []

abbrev pub in_order : Option Piece → Option Piece → Piece → List Piece
in_order types words segment = one_or_none types ++ (one_or_none words ++ segment ∷ [])
