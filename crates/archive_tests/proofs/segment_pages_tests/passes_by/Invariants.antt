use Rattle.archive_tests.proofs.segment_pages_tests.passes_by.Given as goal

abbrev pub ghosts-passes : goal.ghosts-passes
ghosts-passes a = record { name = a.blank.name; parts = a.blank.parts }
