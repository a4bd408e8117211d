use Rattle.row_tests.proofs.messages.comes_back.Given as goal

abbrev pub ghosts-is_written : goal.ghosts-is_written
ghosts-is_written a = record { name = a.blank.name; parts = a.blank.parts }
