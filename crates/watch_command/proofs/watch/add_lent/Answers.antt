use Rattle.watch_command.proofs.ExtendedLemmas.{grew_since, lent_has}
use Rattle.watch_command.proofs.watch.add_lent.Goals as goal

pub invariant_of-extended : goal.invariant_of-extended
invariant_of-extended g c = record { same = c.requires.lent_out.0; more = lent_has g.O.LentOut.had (g.K.Sink.written c.args.out.now) c.requires.lent_out.1 }

pub returns-clause-more : goal.returns-clause-more
returns-clause-more g c = record {
  grew = grew_since (g.K.Sink.written c.args.out.now) g.O.LentOut.had _ c.requires.lent_out.1 c.add_watched-answer.new.out.more;
  later = c.add_watched-answer.ensures.later;
}
