use Rattle.std.proofs.Common.{◌++◌, ap, subst}
use Rattle.sink_pieces.specs.Output.{GrewByFront}
use Rattle.search_engine.specs.Waiting.{Pending}
use Rattle.search_engine.proofs.LaneLemmas.{sent_all, sent_part}
use Rattle.search_engine.proofs.page_batch.PageBatch.send_left.Goals as goal

pub returns-in_err-put_text-clause-front : goal.returns-in_err-put_text-clause-front
returns-in_err-put_text-clause-front g c =
    subst (λ x. GrewByFront (g.K.Sink.written c.args.out.now) (g.K.Sink.written c.put_text.new.out) (x ++ c.args.text.now)) (ap (λ (e : Pending). e.gathered) c.self.view_is) c.in_err-put_text.ensures.stopped

pub returns-in_err-flush-clause-front : goal.returns-in_err-flush-clause-front
returns-in_err-flush-clause-front g c =
    subst (λ x. GrewByFront (g.K.Sink.written c.args.out.now) (g.K.Sink.written c.flush.new.out) (x ++ c.args.text.now)) (ap (λ (e : Pending). e.gathered) c.self.view_is)
    (sent_part _ _ _ _ _ c.in_ok-put_text.ensures.done c.in_err-flush.ensures.err)

pub returns-clause-front : goal.returns-clause-front
returns-clause-front g c =
    subst (λ x. GrewByFront (g.K.Sink.written c.args.out.now) (g.K.Sink.written c.flush.new.out) (x ++ c.args.text.now)) (ap (λ (e : Pending). e.gathered) c.self.view_is)
    (sent_all _ _ _ _ _ c.in_ok-put_text.ensures.done c.in_ok-flush.ensures.ok)
