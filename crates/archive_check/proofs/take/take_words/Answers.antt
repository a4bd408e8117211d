use Rattle.archive_check.proofs.TakeLemmas.{not_words, on_ok, took_words}
use Rattle.archive_check.proofs.take.take_words.Goals as goal

pub returns-in-Ok-clause-taken : goal.returns-in-Ok-clause-taken
returns-in-Ok-clause-taken c =
    on_ok c.admit_words.result c.admit_words.ensures.admitted (took_words c.args.judge.now c.admit_words.new.self c.in-Ok.read.first c.in-Ok.read.texts c.args.payload.now c.in-Ok.ensures.spelled)

pub returns-in-Ok-clause-illegal : goal.returns-in-Ok-clause-illegal
returns-in-Ok-clause-illegal c = λ is.
    not_words c.args.judge.now c.args.payload.now c.in-Ok.read.first c.in-Ok.read.texts c.in-Ok.ensures.first c.in-Ok.ensures.fits c.in-Ok.ensures.spelled (c.admit_words.ensures.illegal is)
