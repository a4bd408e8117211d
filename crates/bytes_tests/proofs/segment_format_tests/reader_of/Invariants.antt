use Rattle.bytes_tests.proofs.segment_format_tests.reader_of.Given as goal

abbrev pub ghosts-pages_of : goal.ghosts-pages_of
ghosts-pages_of a = record { name = a.blank.name; parts = a.blank.parts }
