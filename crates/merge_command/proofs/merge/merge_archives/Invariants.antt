use Rattle.std.specs.Prelude.{is_some}
use Rattle.command_answers.specs.Known.{are_of}
use Rattle.merge_command.proofs.merge.merge_archives.Given as goal

-- the disk that is lent, whose bytes are told where they are those of the archive that is known
abbrev pub ghosts-add_lent : goal.ghosts-add_lent
ghosts-add_lent g a = record { name = a.disk.ghost_name; told = is_some (g.D.Disk.state a.disk.now).seen; tells = are_of g.B.Base.archive (g.D.Disk.state a.disk.now).seen }
