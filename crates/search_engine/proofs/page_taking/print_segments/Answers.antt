use Rattle.std.proofs.Common.{rules}
use Rattle.search_walk.specs.Held.{Named}
use Rattle.search_walk.proofs.AnswerLemmas.{if_ok_to, on_err_to}
use Rattle.search_engine.proofs.PageLemmas.{searched_so, stopped_so}
use Rattle.search_engine.proofs.page_taking.print_segments.Goals as goal

pub returns-clause-done : goal.returns-clause-done
returns-clause-done g c =
    let n : Named = c.args.context.now.names in
    let q = c.args.context.now.query in
    let w = c.new-printing.result in
    let v = c.visit_segments.new.work in
    if_ok_to c.visit_segments.result _ _
    (λ count has. searched_so _ n c.args.context.now.files q c.args.fronts.now (g.K.Sink.written w.out.now) (g.K.Sink.written c.args.out.now) (g.K.Sink.written v.out.now) _ w.batch.now c.args.batch.now v.batch.now _
    w.expanded.now c.args.expanded.now v.expanded.now _ _ _ count (search rules) (search rules) (search rules) (search rules) (search rules) (search rules) has) c.visit_segments.ensures.done

pub returns-clause-stopped : goal.returns-clause-stopped
returns-clause-stopped g c =
    let n : Named = c.args.context.now.names in
    let q = c.args.context.now.query in
    let w = c.new-printing.result in
    let v = c.visit_segments.new.work in
    on_err_to c.visit_segments.result _ _
    (λ has. stopped_so _ n c.args.context.now.files q c.args.fronts.now (g.K.Sink.written w.out.now) (g.K.Sink.written c.args.out.now) (g.K.Sink.written v.out.now) _ w.batch.now c.args.batch.now
    w.expanded.now c.args.expanded.now v.expanded.now _ _ _ (search rules) (search rules) (search rules) (search rules) (search rules) has) c.visit_segments.ensures.stopped
