use Rattle.std.specs.Prelude.{is_some}
use Rattle.command_answers.specs.Known.{are_of}
use Rattle.watch_command.proofs.watch.add_known.Given as goal

-- the disk that is lent, whose bytes are told where they are those of the archive that is known
abbrev pub ghosts-add_lent-L-Lent : goal.ghosts-add_lent-L-Lent
ghosts-add_lent-L-Lent g a = record { name = a.disk.ghost_name; told = is_some (g.D.Disk.state a.disk.now).seen; tells = are_of g.B.Base.archive (g.D.Disk.state a.disk.now).seen }

-- the output that is lent, and what it had taken
abbrev pub ghosts-add_lent-O-LentOut : goal.ghosts-add_lent-O-LentOut
ghosts-add_lent-O-LentOut g a = record { name = a.out.ghost_name; had = g.K.Sink.written a.out.now }
