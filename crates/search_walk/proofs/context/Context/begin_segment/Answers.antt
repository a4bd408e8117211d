use Rattle.std.proofs.Common.{◌∷◌, [], ℕ, List, subst}
use Rattle.std.specs.Prelude.{IfSome, IsNone, Option}
use Rattle.search_walk.specs.Held.{Named}
use Rattle.search_walk.specs.Loaded.{OfLoaded}
use Rattle.search_walk.specs.Opened.{IsOpened, NoneTold}
use Rattle.search_walk.specs.StepsScope.{Scope}
use Rattle.search_walk.proofs.AnswerLemmas.{if_some_to}
use Rattle.search_walk.proofs.context.Context.begin_segment.Goals as goal

pub returns-clause-some : goal.returns-clause-some
returns-clause-some g c =
    let segment = c.args.segment.now in
    subst (λ (s : Scope). IfSome c.open_segment.result (λ r. OfLoaded s.query segment (λ p. IsOpened s.files p r.0.now r.1 c.args.opened.now c.open_segment.new.opened))) c.self.view_is
    (if_some_to c.open_segment.result _ _ (λ r opens. opens c.self.inside.query.now) c.open_segment.ensures.some)

pub returns-clause-none : goal.returns-clause-none
returns-clause-none g c =
    let segment = c.args.segment.now in
    subst (λ (s : Scope). IsNone c.open_segment.result → OfLoaded s.query segment (λ p. (seen : Option (List ℕ)) (n : Named) → NoneTold seen n s.files (p ∷ []))) c.self.view_is
    (λ none. c.open_segment.ensures.none none c.self.inside.query.now)
