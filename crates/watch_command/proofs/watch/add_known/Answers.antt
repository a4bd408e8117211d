use Rattle.file_outcomes.proofs.KnownLemmas.{are_archive}
use Rattle.watch_command.proofs.watch.add_known.Goals as goal

pub add_lent-answer-requires-clause-archive : goal.add_lent-answer-requires-clause-archive
add_lent-answer-requires-clause-archive g c κs within = λ are. are_archive g.B.Base.archive (g.D.Disk.state c.args.disk.now).seen are
