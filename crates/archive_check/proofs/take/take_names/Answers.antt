use Rattle.archive_check.proofs.TakeLemmas.{not_names, on_ok, took_names}
use Rattle.archive_check.proofs.take.take_names.Goals as goal

pub returns-in-Ok-clause-taken : goal.returns-in-Ok-clause-taken
returns-in-Ok-clause-taken c = on_ok c.admit_names.result c.admit_names.ensures.admitted (took_names c.args.judge.now c.admit_names.new.self c.in-Ok.names c.args.payload.now c.in-Ok.ensures.spelled)

pub returns-in-Ok-clause-illegal : goal.returns-in-Ok-clause-illegal
returns-in-Ok-clause-illegal c = λ is. not_names c.args.judge.now c.args.payload.now c.in-Ok.names c.in-Ok.ensures.fits c.in-Ok.ensures.spelled (c.admit_names.ensures.illegal is)
