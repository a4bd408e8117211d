use Rattle.word_places.proofs.HeldLemmas.{grow_same}
use Rattle.search_walk.proofs.deciding.decide_rows.Goals as goal

pub returns-in_err-reserve-clause-grow : goal.returns-in_err-reserve-clause-grow
returns-in_err-reserve-clause-grow g c = grow_same c.args.held.now.records
