use Rattle.disk_journal.proofs.journal.Journal.next_place.Goals as goal

pub invariant_of-self-in-None-clause-below : goal.invariant_of-self-in-None-clause-below
invariant_of-self-in-None-clause-below g c = λ yes. rw c.in-None.is at c.in_ok-look.ensures.small
