use Rattle.write_commands.proofs.LawLemmas.{rests_end_their_log}
use Rattle.write_commands.proofs.laws.rests_end_their_log.Goals as goal

pub returns : goal.returns
returns g c = λ disk. rests_end_their_log (g.D.Disk.state disk)
