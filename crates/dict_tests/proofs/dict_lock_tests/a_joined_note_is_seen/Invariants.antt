use Rattle.dict_tests.proofs.dict_lock_tests.a_joined_note_is_seen.Given as goal

abbrev pub ghosts-noted : goal.ghosts-noted
ghosts-noted g a = record { name = a.blank.name; parts = a.blank.parts }
