use Rattle.turn_lock.proofs.turn.Turn.put.Given as goal

abbrev pub ghosts-publish : goal.ghosts-publish
ghosts-publish g a = record { told = g.V.Grows.entries a.value.now }
