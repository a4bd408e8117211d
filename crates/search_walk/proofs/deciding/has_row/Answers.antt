use Rattle.search_walk.proofs.deciding.has_row.Goals as goal

pub returns : goal.returns
returns c = λ is not. c.has_row.ensures.held is
