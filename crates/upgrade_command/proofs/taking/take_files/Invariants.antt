use Rattle.upgrade_command.proofs.taking.take_files.Given as goal

abbrev pub ghosts-take_lent : goal.ghosts-take_lent
ghosts-take_lent g a = record { lent = record { name = a.disk.ghost_name; disk = g.D.Disk.state a.disk.now; types = a.old.now.layouts } }
