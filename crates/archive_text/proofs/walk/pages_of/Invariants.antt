use Rattle.archive_text.proofs.walk.pages_of.Given as goal

abbrev pub ghosts-pages_with : goal.ghosts-pages_with
ghosts-pages_with a = record { name = a.blank.name; parts = a.blank.parts }
