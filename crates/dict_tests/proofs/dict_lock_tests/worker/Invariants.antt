use Rattle.dict_tests.proofs.dict_lock_tests.worker.Given as goal

abbrev pub ghosts-three : goal.ghosts-three
ghosts-three g a = record { name = a.blank.name; parts = a.blank.parts }
