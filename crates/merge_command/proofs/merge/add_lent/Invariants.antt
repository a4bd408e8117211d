use Rattle.std.specs.Prelude.{is_some}
use Rattle.merge_command.proofs.merge.add_lent.Given as goal

-- the disk that is lent, whose bytes are told where those of the call's disk are to be
abbrev pub ghosts-add_founded : goal.ghosts-add_founded
ghosts-add_founded g a = record { name = a.journal.disk.ghost_name; told = is_some (g.D.Disk.state a.journal.disk.now).seen; tells = g.L.Lent.tells }
