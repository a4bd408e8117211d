use Rattle.std.proofs.Common.{subst}
use Rattle.std.specs.Prelude.{All}
use Rattle.std.proofs.lemmas.List.Elements.{All-weaker}
use Rattle.query_plan.specs.Pieces.{wide_pieces}
use Rattle.subquery_filter.specs.Filter.{RejectsType}
use Rattle.search_walk.specs.Held.{IsTold, Named, named}
use Rattle.search_walk.specs.Ready.{IsRuledOut}
use Rattle.search_walk.specs.StepsScope.{Scope}
use Rattle.search_walk.proofs.PassLemmas.{ruled_out}
use Rattle.search_walk.proofs.context.Context.rules_out.Goals as goal

pub returns : goal.returns
returns g c = λ yes told.
    let own = c.self.inside in
    let n : Named = named (g.D.Disk.state own.disk.value).seen own.held.value in
    let q = own.query.now in
    subst (λ (s : Scope). IsTold s.names → All (IsRuledOut s.names s.query) c.args.types.now) c.self.view_is
    (λ is_told.
    All-weaker (RejectsType (wide_pieces q.pattern) n.types n.words) (IsRuledOut n q) (λ t rejects. ruled_out n q t rejects) c.args.types.now
    (c.rejects_all.ensures yes q.pattern n.types n.words c.self.invariant.searched (c.self.invariant.filtered is_told).is)) told
