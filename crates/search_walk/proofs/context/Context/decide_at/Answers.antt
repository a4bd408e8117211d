use Rattle.std.proofs.Common.{rules, subst}
use Rattle.std.specs.Prelude.{slice_get}
use Rattle.column_store.specs.declared.row.Row.{Row}
use Rattle.subquery_filter.specs.declared.verdicts.Verdict.TheVariants.{Rejected}
use Rattle.search_walk.specs.Held.{IsTold, Named, named}
use Rattle.search_walk.specs.Ready.{IsDecided}
use Rattle.search_walk.specs.StepsScope.{IsFilterOf, Scope}
use Rattle.search_walk.proofs.CountLemmas.{one_row}
use Rattle.search_walk.proofs.VerdictLemmas.{decided_known}
use Rattle.search_walk.proofs.context.Context.decide_at.Goals as goal

pub returns-then-known-clause-decided : goal.returns-then-known-clause-decided
returns-then-known-clause-decided g c = λ row here known page filtered told.
    let own = c.self.inside in
    let n : Named = named (g.D.Disk.state own.disk.value).seen own.held.value in
    subst (λ (s : Scope). (IsTold s.names → IsFilterOf s.names s.query c.args.filter.now) → IsTold s.names → IsDecided s.names s.query row Rejected) c.self.view_is
    (λ is_filter is_told. decided_known n own.query.now row c.args.filter.now (known (search rules)) c.self.invariant.searched (is_filter is_told).is) filtered told

pub returns-clause-decided : goal.returns-clause-decided
returns-clause-decided g c = λ row here known page filtered told.
    subst (λ (r : Row). IsDecided c.args.self.now.names c.args.self.now.query r c.decide_in.result) (one_row (slice_get c.args.rows.now.rows c.args.place) _ row c.row.ensures here) (c.decide_in.ensures.decided page filtered told)
