use Rattle.journal_tests.proofs.disk_journal_tests.append_three.Goals as goal

pub returns : goal.returns
returns g c = c.in_ok-append-3.ensures.added.ends
