use Rattle.live_search.proofs.part.read_part.Given as goal

abbrev pub ghosts-read_with : goal.ghosts-read_with
ghosts-read_with a = record { name = a.blank.name; parts = a.blank.parts }
