use Rattle.ingest_fork.proofs.PassLemmas.{all_joined}
use Rattle.ingest_fork.proofs.laws.all_are_joined.Goals as goal

pub returns : goal.returns
returns g c = λ m m' later ps qs count f s o j. all_joined m m' later c.args.maker.now ps qs count f s o j
