-- What the entries of a journal hold, and the content of an archive.
use Rattle.std.specs.Prelude.{ℕ, ◌+◌, ◌==◌, ◌||◌, ◌&&◌, not, Bool, false, if◌then◌else◌, List, [], ◌∷◌, ◌++◌}

-- The messages of a segment: of which file, whether it is that file's last segment, and whether a newline
-- followed the last of them. One followed every message of a segment that is not the last.
pub record Piece : Type 0 where
  pub file : ℕ
  pub messages : List (List ℕ)
  pub last : Bool
  pub ended : Bool

-- the names of files, the texts of the two dictionaries, each at its number, and the segments in order
pub record Held : Type 0 where
  pub names : List (List ℕ)
  pub types : List (List ℕ)
  pub words : List (List ℕ)
  pub pieces : List Piece

abbrev pub nothing_held : Held
nothing_held = record { names = []; types = []; words = []; pieces = [] }

-- the messages of a file
abbrev pub messages_of : ℕ → List Piece → List (List ℕ)
messages_of file [] = []
messages_of file (p ∷ ps) = (if p.file == file then p.messages else []) ++ messages_of file ps

-- a file is whole where its last segment is there
abbrev pub is_whole : ℕ → List Piece → Bool
is_whole file [] = false
is_whole file (p ∷ ps) = (p.file == file && p.last) || is_whole file ps

-- and then a newline followed its last message, or none did
abbrev pub is_ended : ℕ → List Piece → Bool
is_ended file [] = false
is_ended file (p ∷ ps) = (p.file == file && p.last && p.ended) || is_ended file ps

-- a text that is not empty, and whose last byte is no newline
abbrev pub ends_open : List ℕ → Bool
ends_open [] = false
ends_open (b ∷ []) = not (b == 10)
ends_open (b ∷ c ∷ text) = ends_open (c ∷ text)

-- the last message may be a file's last line without newline
abbrev pub last_is_open : List (List ℕ) → Bool
last_is_open [] = false
last_is_open (m ∷ []) = ends_open m
last_is_open (m ∷ n ∷ messages) = last_is_open (n ∷ messages)

-- what an archive holds of a file
pub record File : Type 0 where
  pub name : List ℕ
  pub messages : List (List ℕ)
  pub whole : Bool
  pub ended : Bool

abbrev pub files_from : ℕ → List (List ℕ) → List Piece → List File
files_from file [] pieces = []
files_from file (name ∷ names) pieces =
    record {
      name = name;
      messages = messages_of file pieces;
      whole = is_whole file pieces;
      ended = is_ended file pieces;
    }
    ∷ files_from (file + 1) names pieces

-- the content of an archive: its files in order
abbrev pub content_of : Held → List File
content_of held = files_from 0 held.names held.pieces

-- the messages, each with a newline behind it, but for the last one of a whole file that ended without
abbrev pub text_from : Bool → List (List ℕ) → List ℕ
text_from open_end [] = []
text_from open_end (m ∷ []) = if open_end then m else m ++ 10 ∷ []
text_from open_end (m ∷ n ∷ messages) = m ++ (10 ∷ text_from open_end (n ∷ messages))

-- the bytes of a file
abbrev pub file_text : File → List ℕ
file_text f = text_from (f.whole && not f.ended) f.messages
