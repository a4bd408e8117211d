use Rattle.std.proofs.Common.{rules, subst}
use Rattle.column_store.specs.Range.{Holds}
use Rattle.column_store.specs.Row.{row_of}
use Rattle.column_store.specs.declared.range.Range.{Range}
use Rattle.subquery_filter.specs.declared.verdicts.Verdict.TheVariants.{Rejected}
use Rattle.search_walk.specs.Held.{IsTold, Named, named}
use Rattle.search_walk.specs.Ready.{IsDecided}
use Rattle.search_walk.specs.StepsScope.{IsFilterOf, Scope}
use Rattle.search_walk.proofs.VerdictLemmas.{decided_by, decided_outside}
use Rattle.search_walk.proofs.context.Context.decide_in.Goals as goal

pub returns-then-not-holds-clause-decided : goal.returns-then-not-holds-clause-decided
returns-then-not-holds-clause-decided g c = λ page filtered told.
    let own = c.self.inside in
    let n : Named = named (g.D.Disk.state own.disk.value).seen own.held.value in
    let row = row_of c.args.row in
    subst (λ (s : Scope). IsDecided s.names s.query row Rejected) c.self.view_is (decided_outside n own.query.now c.range.result.now row c.range.ensures (λ holds. search (rules, holds)))

pub returns-clause-decided : goal.returns-clause-decided
returns-clause-decided g c = λ page filtered told.
    let own = c.self.inside in
    let n : Named = named (g.D.Disk.state own.disk.value).seen own.held.value in
    let row = row_of c.args.row in
    let holds : Holds c.range.result.now c.args.row.pattern c.args.row.moment = search rules in
    subst (λ (s : Scope). (IsTold s.names → IsFilterOf s.names s.query c.args.filter.now) → IsTold s.names → IsDecided s.names s.query row c.verdict_in.result) c.self.view_is
    (λ is_filter is_told.
    decided_by n own.query.now row c.verdict_in.result (subst (λ (r : Range). Holds r c.args.row.pattern c.args.row.moment) c.range.ensures holds)
    (c.verdict_in.ensures.told page own.query.now.pattern n.types n.words c.self.invariant.searched (is_filter is_told).is)
    (λ left. (is_filter is_told).kept row.log_type (c.verdict_in.ensures.typed left))) filtered told
