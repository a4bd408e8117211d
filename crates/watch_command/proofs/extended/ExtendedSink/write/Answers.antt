use Rattle.watch_command.proofs.ExtendedLemmas.{write_keeps}
use Rattle.watch_command.proofs.extended.ExtendedSink.write.Goals as goal

pub invariant_of-self-clause-more : goal.invariant_of-self-clause-more
invariant_of-self-clause-more g c = write_keeps g.L.LentOut.had (g.K.Sink.written c.args.self.now.out.now) _ c.args.bytes.now c.write.result c.args.self.now.more c.write.ensures.appended c.write.ensures.unwritten
