use Rattle.dict_tests.proofs.dict_lock_tests.known_texts_are_numbered_by_the_cache.Given as goal

abbrev pub ghosts-cached : goal.ghosts-cached
ghosts-cached g a = record { name = a.blank.name; parts = a.blank.parts }
