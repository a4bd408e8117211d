-- How the texts and the files of an archive go on with a record.
use Rattle.std.specs.Prelude.{◌≡◌, ℕ, List, [], ◌∷◌, ◌++◌}
use Rattle.record_format.specs.declared.header.Header.{Header}
use Rattle.archive_meaning.specs.declared.entry.JournalEntry.{JournalEntry}
use Rattle.archive_meaning.specs.Held.{Held, nothing_held}
use Rattle.archive_meaning.specs.Legal.{Run}
use Rattle.archive_open.specs.declared.files.FileEntry.{FileEntry}
use Rattle.archive_open.specs.declared.grown.Grown.{Grown}
use Rattle.archive_open.specs.Kept.{Kept}
use Rattle.archive_open.specs.Shown.{files_of, kept_of}
use Rattle.archive_open.specs.Walk.{IsNext}

-- texts and files
pub record GrownView : Type 0 where
  pub kept : Kept
  pub files : List FileEntry

-- where this tells which texts are kept
abbrev pub grown_of : {K : Type 0} → (K → Kept) → Grown K → GrownView
grown_of kept g = record { kept = kept g.names; files = g.files.items }

-- they are what is held
pub record IsGrown (g : GrownView) (h : Header) (held : Held) : Type 0 where
  pub kept : g.kept ≡ kept_of h held
  pub files : g.files ≡ files_of held

-- they are what these entries hold
abbrev pub Grows : GrownView → Header → List JournalEntry → Type 0
Grows g h es = (held : Held) → Run h nothing_held es held → IsGrown g h held

-- whichever journal the record goes on with: what its entries held was grown to what they hold with it
abbrev pub GrowsNext : ℕ → List ℕ → GrownView → GrownView → Type 0
GrowsNext kind payload old new =
    (at : ℕ) (h : Header) (es : List JournalEntry) (e : JournalEntry) → IsNext at kind payload h es e
    → Grows old h es → Grows new h (es ++ e ∷ [])

-- the record goes on with no journal whose entries hold these
abbrev pub NoneGrows : ℕ → List ℕ → GrownView → Type 0
NoneGrows kind payload old =
    (at : ℕ) (h : Header) (es : List JournalEntry) (e : JournalEntry) → IsNext at kind payload h es e
    → Grows old h es → ⊥
