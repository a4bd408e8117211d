use Rattle.std.proofs.Common.{subst, List, ℕ, rules}
use Rattle.query_plan.specs.Pieces.{wide_pieces}
use Rattle.subquery_filter.specs.Filter.{HasNoMatch}
use Rattle.search_walk.specs.Held.{IsTold, Named, named}
use Rattle.search_walk.specs.Loaded.{OfLoaded}
use Rattle.search_walk.specs.StepsScope.{Scope}
use Rattle.search_walk.proofs.LoadedLemmas.{spared_unmatched, whole_unmatched}
use Rattle.search_walk.proofs.context.Context.may_match.Goals as goal

pub returns-then-segment-eq0 : goal.returns-then-segment-eq0
returns-then-segment-eq0 g c = λ no.
    let own = c.self.inside in
    let n : Named = named (g.D.Disk.state own.disk.value).seen own.held.value in
    let segment = c.args.segment.now in
    subst (λ (s : Scope). OfLoaded s.query segment (λ p. IsTold s.names → HasNoMatch (wide_pieces s.query.pattern) s.names.types s.names.words p.head)) c.self.view_is
    (λ p is told. whole_unmatched n own.query.now segment (search rules) (c.may_match.ensures no own.query.now.pattern n.types n.words c.self.invariant.searched (c.self.invariant.filtered told).is) p is)

pub returns : goal.returns
returns g c = λ no.
    let own = c.self.inside in
    let n : Named = named (g.D.Disk.state own.disk.value).seen own.held.value in
    let segment = c.args.segment.now in
    subst (λ (s : Scope). OfLoaded s.query segment (λ p. IsTold s.names → HasNoMatch (wide_pieces s.query.pattern) s.names.types s.names.words p.head)) c.self.view_is
    (λ p is told.
    spared_unmatched n own.query.now segment (search rules)
    (λ (words : List ℕ). c.may_match_types.ensures no own.query.now.pattern n.types n.words c.self.invariant.searched (c.self.invariant.filtered told).is words) p is)
