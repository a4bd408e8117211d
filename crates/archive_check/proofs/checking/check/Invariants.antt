use Rattle.archive_check.proofs.checking.check.Given as goal

abbrev pub ghosts-check_with : goal.ghosts-check_with
ghosts-check_with g a = record { name = a.blank.name; parts = a.blank.parts }
