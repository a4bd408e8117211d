-- Log types that are asked as they are read, of which those that are left are kept.
use Rattle.std.proofs.Common.{◌≡◌, ◌⊎◌, ◌∙◌, ℕ, List, ◌++◌, Some, append_assoc, refl, subst, sym}
use Rattle.std.specs.Prelude.{slice_get}
use Rattle.std.proofs.lemmas.List.{append-nil}
use Rattle.query_plan.specs.declared.pieces.Piece.{Piece}
use Rattle.subquery_filter.specs.declared.filter.Filter.{Filter}
use Rattle.subquery_filter.specs.declared.verdicts.Verdict.{Verdict}
use Rattle.subquery_filter.specs.declared.verdicts.Verdict.TheVariants.{Rejected}
use Rattle.subquery_filter.specs.Asking.{AreAsked, HasAsked, verdicts_of}
use Rattle.subquery_filter.specs.Filter.{AsksTypes}
use Rattle.word_places.specs.Kept.{AreKeptOf}
use Rattle.word_places.specs.Taken.{TakesBoth, TakesNone}
use Rattle.search_walk.specs.declared.type_asking.PassedTypes.{PassedTypes}
use Rattle.search_walk.specs.declared.type_asking.TypePass.{TypePass}

-- each log type is kept as it is, or the verdict on it rejects all of its rows
abbrev pub AreKeptOrRejected : List (List ℕ) → List (List ℕ) → List Verdict → Type 0
AreKeptOrRejected types kept verdicts =
    (t : ℕ) → (slice_get kept t ≡ slice_get types t) ⊎ (slice_get verdicts t ≡ Some Rejected)

-- these log types were asked by a filter, and those that are left are kept
pub record HasPassed (ps : List Piece) (f : Filter) (types : List (List ℕ)) (pass : TypePass) : Type 0 where
  pub asked : HasAsked ps f types pass.asking
  pub kept : AreKeptOf types pass.texts
  pub each : AreKeptOrRejected types pass.texts.texts (verdicts_of pass.asking)

-- whatever log types were kept or had passed, these are or have behind them
pub record PassesOn (old : TypePass) (texts : List (List ℕ)) (new : TypePass) : Type 0 where
  pub places : new.texts.places ≡ old.texts.places
  pub kept : (types : List (List ℕ)) → AreKeptOf types old.texts → AreKeptOf (types ++ texts) new.texts
  pub passed :
      (ps : List Piece) (f : Filter) (types : List (List ℕ)) → HasPassed ps f types old → HasPassed ps f (types ++ texts) new

-- these are all log types; and if they were asked by a filter of these pieces, those that are left are kept
pub record ArePassed (ps : List Piece) (f : Filter) (types : List (List ℕ)) (passed : PassedTypes) : Type 0 where
  pub kept : AreKeptOf types passed.texts
  pub asked_are : (any : List (List ℕ)) → AsksTypes ps any f → AreAsked ps f types passed.asked
  pub each :
      (any : List (List ℕ)) → AsksTypes ps any f
      → AreKeptOrRejected types passed.texts.texts passed.asked.filter.verdicts.items

-- ---- what holds of passes

pub passes_none : TakesNone PassesOn
passes_none pass = record {
  places = refl;
  kept = λ types kept. subst (λ (l : List (List ℕ)). AreKeptOf l pass.texts) (sym (append-nil types)) kept;
  passed = λ ps f types passed. subst (λ (l : List (List ℕ)). HasPassed ps f l pass) (sym (append-nil types)) passed;
}

pub passes_both : TakesBoth PassesOn
passes_both a b c xs ys one two = record {
  places = two.places ∙ one.places;
  kept = λ types kept. subst (λ (l : List (List ℕ)). AreKeptOf l c.texts) (append_assoc types xs ys)
      (two.kept (types ++ xs) (one.kept types kept));
  passed = λ ps f types passed. subst (λ (l : List (List ℕ)). HasPassed ps f l c) (append_assoc types xs ys)
      (two.passed ps f (types ++ xs) (one.passed ps f types passed));
}
