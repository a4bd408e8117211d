use Rattle.archive_tests.proofs.segment_pages_tests.takes_reads.Given as goal

abbrev pub ghosts-page_of : goal.ghosts-page_of
ghosts-page_of a = record { name = a.blank.name; parts = a.blank.parts }
