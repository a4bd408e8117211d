use Rattle.std.proofs.Common.{subst}
use Rattle.search_walk.specs.Held.{IsTold}
use Rattle.search_walk.specs.StepsScope.{IsFilterOf, Scope}
use Rattle.search_walk.proofs.context.Context.filter.Goals as goal

pub returns : goal.returns
returns g c =
    subst (λ (s : Scope). IsTold s.names → IsFilterOf s.names s.query c.self.inside.asked.now.filter) c.self.view_is c.self.invariant.filtered
