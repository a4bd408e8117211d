-- What holds of journals and of the bytes that stand for them.
use Rattle.std.specs.Prelude.{◌≡◌, ℕ, ◌≤◌, List, ◌++◌, length, map}
use Rattle.record_format.specs.declared.header.Header.{Header}
use Rattle.archive_meaning.specs.declared.entry.JournalEntry.{JournalEntry}
use Rattle.archive_meaning.specs.Held.{Held}
use Rattle.archive_meaning.specs.Legal.{Run}
use Rattle.record_format.specs.Header.{IsHeader}
use Rattle.archive_meaning.specs.Back.{entry_in}
use Rattle.archive_meaning.specs.Spelled.{front_of, records_of}
use Rattle.archive_meaning.specs.Stands.{IsLegal, StandsFor, Begins, IsFirstDamage}

-- a run over entries and further ones is a run over the first ones, and one that goes on from what they hold
abbrev pub RunsGoOn : Type 0
RunsGoOn =
    (h : Header) (old mid more : Held) (es fs : List JournalEntry) → Run h old es mid → Run h mid fs more
    → Run h old (es ++ fs) more

abbrev pub RunsSplit : Type 0
RunsSplit =
    (h : Header) (old more : Held) (es fs : List JournalEntry) → Run h old (es ++ fs) more
    → (mid : Held) × Run h old es mid × Run h mid fs more

-- entries hold one thing
abbrev pub OneHeld : Type 0
OneHeld =
    (h : Header) (old a b : Held) (es : List JournalEntry) → Run h old es a → Run h old es b → a ≡ b

-- bytes stand for one journal, under one header
abbrev pub OneJournal : Type 0
OneJournal =
    (bytes : List ℕ) (g h : Header) (es fs : List JournalEntry) → StandsFor bytes g es → StandsFor bytes h fs
    → (g ≡ h) × (es ≡ fs)

-- bytes have one first damage at most
abbrev pub OneDamage : Type 0
OneDamage = (bytes : List ℕ) (a b : ℕ) → IsFirstDamage bytes a → IsFirstDamage bytes b → a ≡ b

-- bytes that stand for a journal have no damage
abbrev pub JournalsAreWhole : Type 0
JournalsAreWhole =
    (bytes : List ℕ) (h : Header) (es : List JournalEntry) (at : ℕ) → StandsFor bytes h es → IsFirstDamage bytes at → ⊥

-- of two journals that the bytes begin with the shorter is the front of the longer
abbrev pub OneBeginning : Type 0
OneBeginning =
    (bytes : List ℕ) (g h : Header) (es fs : List JournalEntry) → Begins bytes g es → Begins bytes h fs
    → length es ≤ length fs
    → (g ≡ h) × ((rest : List JournalEntry) × (fs ≡ es ++ rest))

-- a journal that the bytes begin with, and that each one that they stand for begins with, ends not behind the first damage
abbrev pub DamageIsBehind : Type 0
DamageIsBehind =
    (bytes : List ℕ) (h : Header) (es : List JournalEntry) (at : ℕ) → Begins bytes h es → IsFirstDamage bytes at
    → length (front_of h es) ≤ at

-- a legal journal's entries are those that its records give back
abbrev pub EntriesReadBack : Type 0
EntriesReadBack = (h : Header) (es : List JournalEntry) → IsHeader h → IsLegal h es → map entry_in (records_of es) ≡ es
