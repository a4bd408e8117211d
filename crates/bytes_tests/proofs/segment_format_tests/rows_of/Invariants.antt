use Rattle.bytes_tests.proofs.segment_format_tests.rows_of.Given as goal

abbrev pub ghosts-columns_of : goal.ghosts-columns_of
ghosts-columns_of a = record { name = a.blank.name; parts = a.blank.parts }
