use Rattle.std.proofs.Common.{◌≡◌, [], rules, subst, List, ◌∙◌}
use Rattle.log_sources.specs.declared.source.LogSource.{LogSource}
use Rattle.log_sources.proofs.CloseLemmas.{Closed, Told, all_unread, one_closed}
use Rattle.log_sources.proofs.logs.close_logs.Goals as goal

pub loop-source-preserved : goal.loop-source-preserved
loop-source-preserved g c =
    let before = c.loop-source.invariant in
    let one = c.close_one.ensures in
    record {
      content = λ n. one.content n ∙ before.content n;
      opens = λ n. one.opens n ∙ before.opens n;
      closed = one_closed g.H.Src.Source.left g.H.Src.Source.name g.H.Src.Source.faults _ _ _ c.args.sources.items c.loop-source.sources.items c.pop.new.self.items c.in-Some.source before.closed c.in-Some.ensures.items one.reads one.counted one.unread;
    }

pub returns-clause-unread : goal.returns-clause-unread
returns-clause-unread g c = λ n.
    let old : Told = record { reads = g.H.Shelf.read_faults c.args.shelf.now; unread = g.H.Shelf.unread c.args.shelf.now } in
    let new : Told = record { reads = g.H.Shelf.read_faults c.loop-source.shelf; unread = g.H.Shelf.unread c.loop-source.shelf } in
    let none : c.loop-source.sources.items ≡ [] = search rules in
    all_unread g.H.Src.Source.left g.H.Src.Source.name g.H.Src.Source.faults old new c.args.sources.items
    (subst (λ (ss : List (LogSource _)). Closed g.H.Src.Source.left g.H.Src.Source.name g.H.Src.Source.faults old new c.args.sources.items ss) none c.loop-source.invariant.closed) n
