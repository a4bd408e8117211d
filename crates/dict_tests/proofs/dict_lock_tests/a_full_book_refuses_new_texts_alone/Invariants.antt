use Rattle.dict_tests.proofs.dict_lock_tests.a_full_book_refuses_new_texts_alone.Given as goal

abbrev pub ghosts-full : goal.ghosts-full
ghosts-full g a = record { name = a.blank.name; parts = a.blank.parts }
