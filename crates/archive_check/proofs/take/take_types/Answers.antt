use Rattle.archive_check.proofs.TakeLemmas.{not_types, on_ok, took_types}
use Rattle.archive_check.proofs.take.take_types.Goals as goal

pub returns-in-Ok-clause-taken : goal.returns-in-Ok-clause-taken
returns-in-Ok-clause-taken c =
    on_ok c.admit_types.result c.admit_types.ensures.admitted (took_types c.args.judge.now c.admit_types.new.self c.in-Ok.read.first c.in-Ok.read.texts c.args.payload.now c.in-Ok.ensures.spelled)

pub returns-in-Ok-clause-illegal : goal.returns-in-Ok-clause-illegal
returns-in-Ok-clause-illegal c = λ is.
    not_types c.args.judge.now c.args.payload.now c.in-Ok.read.first c.in-Ok.read.texts c.in-Ok.ensures.first c.in-Ok.ensures.fits c.in-Ok.ensures.spelled (c.admit_types.ensures.illegal is)
