use Rattle.merge_command.proofs.over.merge_into.Goals as goal

pub returns-clause-none : goal.returns-clause-none
returns-clause-none g c = λ is. (c.merge-journal.ensures.none is).0
