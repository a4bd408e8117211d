use Rattle.std.proofs.Common.{ap, subst, refl, []}
use Rattle.sink_pieces.specs.Output.{Grew, GrewByFront}
use Rattle.search_walk.specs.Held.{Named}
use Rattle.search_engine.specs.Waiting.{Pending, State, state}
use Rattle.search_walk.proofs.AnswerLemmas.{on_err}
use Rattle.search_engine.specs.StepsWaiting.{halts_behind, halts_here, reaches_flushed}
use Rattle.search_engine.proofs.page_batch.PageBatch.finish.Goals as goal

pub returns-in_err-flush-clause-stopped : goal.returns-in_err-flush-clause-stopped
returns-in_err-flush-clause-stopped g c =
    let n : Named = c.args.context.now.names in
    let b : State = state (g.K.Sink.written c.run.new.out) c.run.new.self c.run.new.expanded in
    on_err c.from_residual-in_err-flush.result _
    (halts_behind n c.args.context.now.query [] [] (state (g.K.Sink.written c.args.out.now) c.args.self.now c.args.expanded.now) b (g.K.Sink.written c.flush.new.out) c.run.new.expanded c.in_ok-run.ensures.done
    (halts_here n c.args.context.now.query [] b (g.K.Sink.written c.flush.new.out) c.run.new.expanded
    (subst (GrewByFront (g.K.Sink.written c.run.new.out) (g.K.Sink.written c.flush.new.out)) (ap (λ (e : Pending). e.gathered) c.self.view_is) c.in_err-flush.ensures.err) refl))

pub returns-clause-done : goal.returns-clause-done
returns-clause-done g c =
    let n : Named = c.args.context.now.names in
    let b : State = state (g.K.Sink.written c.run.new.out) c.run.new.self c.run.new.expanded in
    reaches_flushed n c.args.context.now.query (state (g.K.Sink.written c.args.out.now) c.args.self.now c.args.expanded.now) b _ c.in_ok-run.ensures.done
    (ap (λ (e : Pending). e.pages) c.self.view_is)
    (subst (Grew (g.K.Sink.written c.run.new.out) (g.K.Sink.written c.flush.new.out)) (ap (λ (e : Pending). e.gathered) c.self.view_is) c.in_ok-flush.ensures.ok)
    c.in_ok-flush.ensures.empty (ap (λ (e : Pending). e.counts) c.self.view_is) refl
