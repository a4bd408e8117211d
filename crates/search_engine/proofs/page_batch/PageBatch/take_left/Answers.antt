use Rattle.std.proofs.Common.{◌++◌, ap, rules, subst}
use Rattle.sink_pieces.specs.Output.{GrewByFront, Moves}
use Rattle.search_engine.specs.Waiting.{Pending}
use Rattle.search_walk.proofs.AnswerLemmas.{on_err}
use Rattle.search_engine.proofs.page_batch.PageBatch.take_left.Goals as goal

pub returns-in_err-put_text-clause-stopped : goal.returns-in_err-put_text-clause-stopped
returns-in_err-put_text-clause-stopped g c =
    on_err c.from_residual.result _ (subst (λ x. GrewByFront (g.K.Sink.written c.args.out.now) (g.K.Sink.written c.put_text.new.out) (x ++ c.args.text.now)) (ap (λ (e : Pending). e.gathered) c.self.view_is) c.in_err-put_text.ensures.stopped)

pub returns-clause-done : goal.returns-clause-done
returns-clause-done g c = record {
  moves = subst (λ x. Moves (g.K.Sink.written c.args.out.now) (g.K.Sink.written c.put_text.new.out) (x ++ c.args.text.now) c.put_text.new.gathered.items) (ap (λ (e : Pending). e.gathered) c.self.view_is) c.in_ok-put_text.ensures.done;
  pages = search rules;
  matched = λ fits. search (rules, fits);
  expanded = λ fits. search (rules, fits);
  ticks = search rules;
}
