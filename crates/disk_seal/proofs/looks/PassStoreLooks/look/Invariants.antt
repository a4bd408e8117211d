use Rattle.disk_seal.proofs.looks.PassStoreLooks.look.Given as goal

abbrev pub ghosts-look_with : goal.ghosts-look_with
ghosts-look_with g a = record { name = a.blank.name; parts = a.blank.parts }
