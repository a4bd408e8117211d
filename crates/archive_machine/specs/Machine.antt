-- The machine of one archive: its state, and what each event does to it, in whatever order workers come.
use Rattle.std.specs.Prelude.{◌≡◌, ◌⊎◌, ℕ, ◌+◌, ◌^◌, ◌<◌, ◌≤◌, ◌==◌, ◌||◌, ◌&&◌, Bool, true, false}
use Rattle.std.specs.Prelude.{if◌then◌else◌, List, [], ◌∷◌, ◌++◌, length, take, drop, All}
use Rattle.logtype_text.specs.Fair.{IsFairType, IsFairWord}
use Rattle.record_format.specs.declared.header.Header.{Header}
use Rattle.column_store.specs.declared.row.Row.{Row}
use Rattle.column_store.specs.Row.{IsRow, variable_count}
use Rattle.row_codec.specs.Means.{AreCanonical, IsCanonical}
use Rattle.row_codec.specs.Messages.{IsMessage}
use Rattle.plain_list.specs.Texts.{IsNew}
use Rattle.row_codec.specs.Numbers.{numbers_of_row}
use Rattle.row_codec.specs.declared.namer.Which.TheVariants.{Types as OfTypes, Words as OfWords}
use Rattle.archive_meaning.specs.declared.TheConstants.{MAX_ROWS, MAX_MESSAGES}
use Rattle.archive_meaning.specs.declared.entry.SegmentEntry.{SegmentEntry}
use Rattle.archive_meaning.specs.declared.entry.JournalEntry.{JournalEntry}
use Rattle.archive_meaning.specs.declared.entry.JournalEntry.TheVariants.{Files, Types, Words, Segment}
use Rattle.archive_meaning.specs.Held.{Held, nothing_held}
use Rattle.archive_meaning.specs.Legal.{IsBook, Run}
use Rattle.archive_machine.specs.declared.state.Core.{Core}
use Rattle.archive_machine.specs.declared.state.Hand.{Hand}
use Rattle.archive_machine.specs.declared.event.Event.{Event}
use Rattle.archive_machine.specs.declared.event.Event.TheVariants.{Name, Add, Save, Seal}

-- the state that every archive begins with
abbrev pub nothing_yet : Core
nothing_yet = record { types = []; words = []; saved_types = 0; saved_words = 0; journal = []; hands = [] }

-- the rows that a worker has in hand
abbrev pub rows_of : ℕ → List Hand → List Row
rows_of worker [] = []
rows_of worker (hand ∷ hands) = if hand.worker == worker then hand.rows else rows_of worker hands

-- and the hands where it has these
abbrev pub with_rows : ℕ → List Row → List Hand → List Hand
with_rows worker rows [] = record { worker = worker; rows = rows } ∷ []
with_rows worker rows (hand ∷ hands) =
    if hand.worker == worker then record { worker = hand.worker; rows = rows } ∷ hands
    else hand ∷ with_rows worker rows hands

-- how many messages of a file are in the journal
abbrev pub count_of : ℕ → List JournalEntry → ℕ
count_of file [] = 0
count_of file (Files names ∷ es) = count_of file es
count_of file (Types first texts ∷ es) = count_of file es
count_of file (Words first texts ∷ es) = count_of file es
count_of file (Segment s ∷ es) = (if s.file == file then length s.rows else 0) + count_of file es

-- whether a file's last segment is in the journal
abbrev pub is_closed : ℕ → List JournalEntry → Bool
is_closed file [] = false
is_closed file (Files names ∷ es) = is_closed file es
is_closed file (Types first texts ∷ es) = is_closed file es
is_closed file (Words first texts ∷ es) = is_closed file es
is_closed file (Segment s ∷ es) = (s.file == file && s.last) || is_closed file es

-- the dictionary may go on with the text
pub record CanName (IsFair : List ℕ → Type 0) (limit : ℕ) (texts : List (List ℕ)) (text : List ℕ) : Type 0 where
  pub fair : IsFair text
  pub new : IsNew texts text
  pub room : length texts < limit

-- The worker may add the message: its texts are in the dictionaries, so that it has a row, and the row still
-- fits the worker's hand and file.
pub record CanAdd (h : Header) (c : Core) (worker : ℕ) (message : List ℕ) (row : Row) : Type 0 where
  pub each : IsMessage h.version message
  pub canonical : IsCanonical h.version row c.types c.words message
  pub fits : IsRow row
  pub rows : length (rows_of worker c.hands) < MAX_ROWS
  pub goes_on : is_closed worker c.journal ≡ false
  pub most : count_of worker c.journal + length (rows_of worker c.hands) < MAX_MESSAGES
  pub variables : variable_count (rows_of worker c.hands ++ row ∷ []) < 2 ^ 32

-- all numbers in the row are of texts that are saved
pub record IsSaved (types : List (List ℕ)) (saved_types saved_words : ℕ) (row : Row) : Type 0 where
  pub log_type : row.log_type < saved_types
  pub words : All (λ n. n < saved_words) (numbers_of_row types row)

-- what the worker has in hand may go to the journal
pub record CanSeal (c : Core) (worker : ℕ) : Type 0 where
  pub goes_on : is_closed worker c.journal ≡ false
  pub saved : All (IsSaved c.types c.saved_types c.saved_words) (rows_of worker c.hands)

-- the segment of these rows; one without rows ends its file
abbrev pub sealed : ℕ → ℕ → List Row → SegmentEntry
sealed file first [] = record { file = file; first = first; last = true; ended = true; rows = [] }
sealed file first (row ∷ rows) = record { file = file; first = first; last = false; ended = false; rows = row ∷ rows }

-- the event is possible, and leads from one state to the other
abbrev pub Leads : Header → Core → Event → Core → Type 0
Leads h c (Name worker OfTypes text) d =
    CanName IsFairType h.types_limit c.types text
    × (d ≡ record c { types = c.types ++ text ∷ [] })
Leads h c (Name worker OfWords text) d =
    CanName IsFairWord h.words_limit c.words text
    × (d ≡ record c { words = c.words ++ text ∷ [] })
Leads h c (Add worker message) d =
    (row : Row) × CanAdd h c worker message row
    × (d ≡ record c { hands = with_rows worker (rows_of worker c.hands ++ row ∷ []) c.hands })
Leads h c (Save OfTypes) d =
    (c.saved_types < length c.types)
    × (d ≡ record c {
      saved_types = length c.types;
      journal = c.journal ++ Types c.saved_types (drop c.saved_types c.types) ∷ [];
    })
Leads h c (Save OfWords) d =
    (c.saved_words < length c.words)
    × (d ≡ record c {
      saved_words = length c.words;
      journal = c.journal ++ Words c.saved_words (drop c.saved_words c.words) ∷ [];
    })
Leads h c (Seal worker) d =
    CanSeal c worker
    × (d ≡ record c {
      journal = c.journal ++ Segment (sealed worker (count_of worker c.journal) (rows_of worker c.hands)) ∷ [];
      hands = with_rows worker [] c.hands;
    })

-- an event that is not possible leaves the state
abbrev pub Steps : Header → Core → Event → Core → Type 0
Steps h c event d = Leads h c event d ⊎ (((x : Core) → ¬ Leads h c event x) × (d ≡ c))

-- event by event
abbrev pub Runs : Header → Core → List Event → Core → Type 0
Runs h c [] d = d ≡ c
Runs h c (event ∷ events) d = (mid : Core) × Steps h c event mid × Runs h mid events d

-- The rows in hand are the encodings of messages, and may still become a segment. A file that has its last
-- segment has none in hand.
pub record IsHand (h : Header) (c : Core) (worker : ℕ) (rows : List Row) (messages : List (List ℕ)) : Type 0 where
  pub canonical : AreCanonical h.version rows c.types c.words messages
  pub each : All (IsMessage h.version) messages
  pub fit : All IsRow rows
  pub few : length rows ≤ MAX_ROWS
  pub variables : variable_count rows < 2 ^ 32
  pub most : count_of worker c.journal + length rows ≤ MAX_MESSAGES
  pub none : is_closed worker c.journal ≡ true → rows ≡ []

-- What every state keeps: both dictionaries are dictionaries, the journal is legal but for names and lengths and
-- holds the texts that are saved, and each hand is one.
pub record IsKept (h : Header) (c : Core) : Type 0 where
  pub types_book : IsBook IsFairType h.types_limit c.types
  pub words_book : IsBook IsFairWord h.words_limit c.words
  pub few_types : c.saved_types ≤ length c.types
  pub few_words : c.saved_words ≤ length c.words
  pub held : Held
  pub run : Run h nothing_held c.journal held
  pub held_types : held.types ≡ take c.saved_types c.types
  pub held_words : held.words ≡ take c.saved_words c.words
  pub hands : (worker : ℕ) → (messages : List (List ℕ)) × IsHand h c worker (rows_of worker c.hands) messages
