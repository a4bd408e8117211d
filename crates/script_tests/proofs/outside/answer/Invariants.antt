use Rattle.std.specs.Prelude.{None}
use Rattle.script_tests.proofs.outside.answer.Given as goal

abbrev pub ghost-run : goal.ghost-run
ghost-run g a = None
