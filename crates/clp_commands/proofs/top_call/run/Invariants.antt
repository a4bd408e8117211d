use Rattle.clp_commands.proofs.top_call.run.Given as goal

abbrev pub ghosts-take_turns : goal.ghosts-take_turns
ghosts-take_turns g a = record { archive = g.known }
