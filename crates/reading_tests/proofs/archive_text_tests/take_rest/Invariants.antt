use Rattle.std.proofs.Common.{◌≡◌}
use Rattle.reading_tests.proofs.archive_text_tests.take_rest.Given as goal

abbrev pub invariant-loop : goal.invariant-loop
invariant-loop g l = g.S.Source.name l.source ≡ g.S.Source.name l.initial.source
