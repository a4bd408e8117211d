use Rattle.std.specs.Prelude.{is_some, true}
use Rattle.bench_command.proofs.bench_archive.add_logs.Given as goal

-- the disk that is lent, which was just made an archive
abbrev pub ghosts-add_lent : goal.ghosts-add_lent
ghosts-add_lent g a = record { name = a.disk.ghost_name; told = is_some (g.D.Disk.state a.disk.now).seen; tells = true }
