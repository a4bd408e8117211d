use Rattle.base_tests.proofs.step_count_tests.a_caller_that_counts_nothing.Given as goal

abbrev pub ghosts-has_from : goal.ghosts-has_from
ghosts-has_from g a = record { name = a.blank.name; parts = a.blank.parts }
