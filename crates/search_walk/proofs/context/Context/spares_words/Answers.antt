use Rattle.std.proofs.Common.{◌≡◌, ℕ, List, Bool, subst, true}
use Rattle.std.specs.Prelude.{Some, slice_get}
use Rattle.query_plan.specs.Pieces.{wide_pieces}
use Rattle.subquery_filter.specs.ByTypes.{NeedsNoVariable}
use Rattle.search_walk.specs.StepsScope.{Scope}
use Rattle.search_walk.proofs.context.Context.spares_words.Goals as goal

pub returns : goal.returns
returns g c = λ spares.
    let none = c.has_variable.ensures c.if-has_variable.false in
    subst (λ (s : Scope). NeedsNoVariable (wide_pieces s.query.pattern)) c.self.view_is
    (subst NeedsNoVariable c.plan.ensures (subst (λ (l : List Bool). (k : ℕ) → ¬ (slice_get l k ≡ Some true)) c.needed_variables.ensures none))
