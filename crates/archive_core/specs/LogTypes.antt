-- What is known of log types.
use Rattle.std.specs.Prelude.{◌≡◌, ℕ, true, None, Some, List, slice_get}
use Rattle.std.specs.List.{AllZip}
use Rattle.column_store.specs.declared.row.Row.{Row}
use Rattle.row_codec.specs.StepsCut.{IsCutText}
use Rattle.archive_core.specs.declared.log_types.LogType.{LogType}
use Rattle.archive_core.specs.Slots.{IsWellCut, slots_of}

-- this is known of the log type with this text
pub record IsKnown (text : List ℕ) (known : LogType) : Type 0 where
  pub slots : known.slots.items ≡ slots_of text
  pub tested : known.tested ≡ true → IsWellCut text

-- and this of those with these texts, in order
abbrev pub AreKnown : List (List ℕ) → List LogType → Type 0
AreKnown texts known = AllZip IsKnown texts known

-- the row has a log type, and its parts are cut by the rule of tokens
abbrev pub IsCutRow : List (List ℕ) → List (List ℕ) → Row → Type 0
IsCutRow types words row = (text : List ℕ) × (slice_get types row.log_type ≡ Some text) × IsCutText words None text row.words
