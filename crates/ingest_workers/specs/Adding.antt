-- What comes of a message that is added to the open segment.
use Rattle.std.specs.Prelude.{◌≡◌, ℕ, List, [], ◌∷◌, ◌++◌, Result, IfErr, IsErrOf, OnOk}
use Rattle.turn_lock.specs.Words.{IsStill}
use Rattle.column_store.specs.declared.row.Row.{Row}
use Rattle.row_codec.specs.declared.namer.Which.{Which}
use Rattle.row_codec.specs.Messages.{IsTypeOf, IsWordOf}
use Rattle.row_codec.specs.Naming.{HasGrown, MeetsLimit}
use Rattle.dict_lock.specs.Shared.{BookPass}
use Rattle.ingest_workers.specs.declared.open_segment.OpenSegment.{OpenSegment}
use Rattle.ingest_workers.specs.declared.outcome.Cause.{Cause}
use Rattle.ingest_workers.specs.declared.outcome.Cause.TheVariants.{Full}
use Rattle.ingest_workers.specs.declared.file_end.FileEnd.{FileEnd}
use Rattle.ingest_workers.specs.declared.file_end.FileEnd.TheVariants.{Part}
use Rattle.ingest_workers.specs.Full.{Books}
use Rattle.ingest_workers.specs.OpenSegment.{HasMessages, SameMarks, SameRows}
use Rattle.ingest_workers.specs.FileEnd.{IsNameStop}

-- The open segment took the message, or it did not: the marks stay. At `Ok` it has one row more, the encoding of the message by
-- the texts of the two books then. A full book leaves the rows as they were, and has as many texts as it may, with one of the
-- message that is new.
pub record AddsMessage (version : ℕ) (line : List ℕ) (old new : Books) (segment segment' : OpenSegment)
    (result : Result (Unit {0}) FileEnd) : Type 0 where
  pub marks : SameMarks segment segment'
  pub taken : (messages : List (List ℕ)) → HasMessages version old.types.texts old.words.texts messages segment
      → OnOk result (HasMessages version new.types.texts new.words.texts (messages ++ line ∷ []) segment')
  pub pushed : OnOk result ((row : Row) × (segment'.draft.columns.rows ≡ segment.draft.columns.rows ++ row ∷ []))
  pub kept : (cause : Cause) → IsErrOf result (Part cause) → SameRows segment segment'
  pub causes : IfErr result IsNameStop
  pub full : (book : Which) (count : ℕ) → IsErrOf result (Part (Full book count))
      → MeetsLimit version line book count new.types old.words new.words

-- what is known more of the two books are texts of the encoding of the message
pub record KnowsMore (version : ℕ) (line : List ℕ) (old new : Books) : Type 0 where
  pub types : HasGrown (IsTypeOf version line) old.types new.types
  pub words : HasGrown (IsWordOf version line) old.words new.words

-- the passes over the two books are what they were
pub record BothStill (types types' words words' : BookPass) : Type 0 where
  pub of_types : IsStill types types'
  pub of_words : IsStill words words'
