-- What a filter is told of log types, which are asked one behind the other.
use Rattle.std.specs.Prelude.{◌≡◌, ◌↔◌, ◌++◌, ◌∷◌, ◌<◌, [], ℕ, Bool, List, Some, false, true, length, slice_get}
use Rattle.std.specs.List.{Contains}
use Rattle.barren_segments.specs.Barren.{HasConstants, IsNeeded}
use Rattle.query_plan.specs.declared.pieces.Piece.{Piece}
use Rattle.query_plan.specs.Needs.{skeleton_of}
use Rattle.query_plan.specs.Pieces.{flat}
use Rattle.subquery_filter.specs.declared.asking.AskedTypes.{AskedTypes}
use Rattle.subquery_filter.specs.declared.asking.Asking.{Asking}
use Rattle.subquery_filter.specs.declared.filter.Filter.{Filter}
use Rattle.subquery_filter.specs.declared.slots.Question.{Question}
use Rattle.subquery_filter.specs.declared.token.Token.{Token}
use Rattle.subquery_filter.specs.declared.verdicts.Verdict.{Verdict}
use Rattle.subquery_filter.specs.declared.verdicts.Verdict.TheVariants.{Rejected}
use Rattle.subquery_filter.specs.Filter.{AreAlone, AreKindBits, AreTests, AreToldBy, AsksTypes, IsFilter, others_of}
use Rattle.subquery_filter.specs.StepsFilter.{HasAll}

-- the words are the needed ones of the pieces that are no variables
abbrev pub AreNeeded : List Piece → List (List ℕ) → Type 0
AreNeeded ps constants = (word : List ℕ) → Contains constants word ↔ IsNeeded ps false word

-- for each log type it is told whether its constant bytes have all of these
abbrev pub AreConstants : List Piece → List (List ℕ) → List Bool → Type 0
AreConstants ps types constants = (t : ℕ) → (slice_get constants t ≡ Some true) ↔ HasConstants ps types t

-- what each log type is asked is that of these pieces, and of these tokens
pub record IsQuestion (ps : List Piece) (tokens : List Token) (question : Question) : Type 0 where
  pub wide : question.wide ≡ flat ps
  pub skeleton : question.skeleton ≡ skeleton_of ps
  pub all : HasAll tokens question.tokens
  pub kinds : AreKindBits tokens question.kinds

-- so many log types were asked
pub record HasCounts (asking : Asking) (count : ℕ) : Type 0 where
  pub of_tests : length asking.tests.items ≡ count
  pub of_alone : length asking.alone.items ≡ count
  pub of_verdicts : length asking.verdicts.items ≡ count
  pub of_constants : length asking.constants.items ≡ count

-- These log types were asked, in their order, by a filter that was begun with another one.
pub record HasAsked (ps : List Piece) (f : Filter) (types : List (List ℕ)) (asking : Asking) : Type 0 where
  pub begun : asking.filter ≡ f
  pub question : IsQuestion ps f.tokens.items asking.question
  pub others : asking.question.others ≡ others_of f
  pub needed : AreNeeded ps asking.question.constants.items
  pub tests : AreTests ps f.tokens.items (others_of f) types asking.slots.items asking.tests.items
  pub alone : AreAlone f.runs.items types asking.alone.items
  pub told : AreToldBy f asking.tests.items asking.alone.items asking.verdicts.items
  pub constants : AreConstants ps types asking.constants.items
  pub counts : HasCounts asking (length types)

-- the verdicts on the log types that were asked, by their numbers
abbrev pub verdicts_of : Asking → List Verdict
verdicts_of asking = asking.verdicts.items

-- one verdict more was told: it rejects the log type, where this is not left
abbrev pub TellsNext : List Verdict → List Verdict → Bool → Type 0
TellsNext old new left = (verdict : Verdict) × (new ≡ old ++ verdict ∷ []) × (left ≡ false → verdict ≡ Rejected)

-- the verdict of the filter on the log type with this number rejects all of its rows
abbrev pub HasRejected : Filter → ℕ → Type 0
HasRejected f t = slice_get f.verdicts.items t ≡ Some Rejected

-- the first ones of all log types are these
abbrev pub AreFirst : List (List ℕ) → List (List ℕ) → Type 0
AreFirst types all = (t : ℕ) → t < length types → slice_get all t ≡ slice_get types t

-- What was asked of these log types, by a filter that was begun with another one: of archives that begin with them it
-- is a filter as that one was.
pub record AreAsked (ps : List Piece) (f : Filter) (types : List (List ℕ)) (asked : AskedTypes) : Type 0 where
  pub asks : (all : List (List ℕ)) → AreFirst types all → AsksTypes ps all f → AsksTypes ps all asked.filter
  pub filter :
      (all words : List (List ℕ)) → AreFirst types all → IsFilter ps all words f → IsFilter ps all words asked.filter
  pub constants : AreConstants ps types asked.constants.items
