use Rattle.std.proofs.Common.{◌≡◌, of_z, subst, to_z}
use Rattle.std.specs.Int.{w64}
use Rattle.std.proofs.lemmas.Int.{to_z-of_z}
use Rattle.std.specs.Prelude.{◌⊎◌}
use Rattle.column_store.specs.declared.range.Range.{Range}
use Rattle.query_plan.specs.Laws.{IsSearched}
use Rattle.barren_segments.specs.Barren.{IsBounded, LeavesOut}
use Rattle.search_walk.specs.StepsScope.{Scope}
use Rattle.search_walk.proofs.context.Context.is_outside.Goals as goal

pub returns-clause-told : goal.returns-clause-told
returns-clause-told g c = λ yes fixed.
    let f = c.args.front.now in
    let least = to_z-of_z w64 f.least fixed.least in
    let greatest = to_z-of_z w64 f.greatest fixed.greatest in
    let r = c.range.result.now in
    subst (λ (s : Scope). (f.rows ≡ 0) ⊎ (IsBounded s.query.range × LeavesOut s.query.range f.stamped f.least f.greatest)) c.self.view_is
    (subst (λ (r : Range). (f.rows ≡ 0) ⊎ (IsBounded r × LeavesOut r f.stamped f.least f.greatest)) c.range.ensures
    (subst (λ m. (f.rows ≡ 0) ⊎ (IsBounded r × LeavesOut r f.stamped f.least m)) greatest
    (subst (λ m. (f.rows ≡ 0) ⊎ (IsBounded r × LeavesOut r f.stamped m (to_z w64 (of_z w64 f.greatest)))) least (c.is_outside.ensures.0 yes))))

pub returns-clause-searched : goal.returns-clause-searched
returns-clause-searched g c = subst (λ (s : Scope). IsSearched s.query.pattern) c.self.view_is c.self.invariant.searched
