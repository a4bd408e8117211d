use Rattle.ingest_fork.proofs.PickLemmas.{each_added}
use Rattle.ingest_fork.proofs.laws.each_was_added.Goals as goal

pub returns : goal.returns
returns g c = λ before ps owned joined none a j e is le at. each_added g.V.Grows.may_add c.args.maker.now before ps owned joined none a j e is le at
