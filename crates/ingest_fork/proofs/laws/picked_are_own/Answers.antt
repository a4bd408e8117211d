use Rattle.ingest_fork.proofs.PickLemmas.{picked_own}
use Rattle.ingest_fork.proofs.laws.picked_are_own.Goals as goal

pub returns : goal.returns
returns g c = λ f n a owned is alone past. picked_own g.V.Grows.may_add c.args.maker.now f n a owned is alone past
