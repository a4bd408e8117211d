use Rattle.live_search.specs.declared.refusal.LiveRefusal.TheVariants.{SinkFault}
use Rattle.live_search.proofs.AnswerLemmas.{counts_none}
use Rattle.live_search.proofs.progress.handle.Goals as goal

pub returns-else-found-eq-SEGMENT_KIND-clause-handled : goal.returns-else-found-eq-SEGMENT_KIND-clause-handled
returns-else-found-eq-SEGMENT_KIND-clause-handled g c = c.handle_listed.ensures.handled (g.K.Sink.written c.args.out.now)

pub returns-else-found-eq-SEGMENT_KIND-clause-stopped : goal.returns-else-found-eq-SEGMENT_KIND-clause-stopped
returns-else-found-eq-SEGMENT_KIND-clause-stopped g c = c.handle_listed.ensures.stopped (g.K.Sink.written c.args.out.now)

pub returns-else-found-eq-SEGMENT_KIND-clause-counts : goal.returns-else-found-eq-SEGMENT_KIND-clause-counts
returns-else-found-eq-SEGMENT_KIND-clause-counts g c = counts_none SinkFault (g.K.Sink.faults c.args.out.now) c.handle_listed.result c.handle_listed.ensures.sink
