use Rattle.base_tests.proofs.turn_lock_tests.a_note_shows_what_another_pass_saw.Given as goal

abbrev pub ghosts-told : goal.ghosts-told
ghosts-told g a = record { name = a.blank.name; parts = a.blank.parts }
