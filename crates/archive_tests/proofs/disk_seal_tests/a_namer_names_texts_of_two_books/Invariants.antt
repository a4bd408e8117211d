use Rattle.archive_tests.proofs.disk_seal_tests.a_namer_names_texts_of_two_books.Given as goal

abbrev pub ghosts-named_in_two_books-A-Ledger : goal.ghosts-named_in_two_books-A-Ledger
ghosts-named_in_two_books-A-Ledger g a = record { name = a.a.name; parts = a.a.parts }

abbrev pub ghosts-named_in_two_books-B-Ledger : goal.ghosts-named_in_two_books-B-Ledger
ghosts-named_in_two_books-B-Ledger g a = record { name = a.b.name; parts = a.b.parts }

abbrev pub ghosts-named_in_two_books-C-Ledger : goal.ghosts-named_in_two_books-C-Ledger
ghosts-named_in_two_books-C-Ledger g a = record { name = a.c.name; parts = a.c.parts }
