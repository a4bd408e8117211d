use Rattle.base_tests.proofs.turn_lock_tests.worker.Given as goal

abbrev pub ghosts-hundred : goal.ghosts-hundred
ghosts-hundred g a = record { name = a.blank.name; parts = a.blank.parts }
