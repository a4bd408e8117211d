use Rattle.archive_tests.proofs.segment_pages_tests.are_types_by.Given as goal

abbrev pub ghosts-types_of : goal.ghosts-types_of
ghosts-types_of a = record { name = a.blank.name; parts = a.blank.parts }
