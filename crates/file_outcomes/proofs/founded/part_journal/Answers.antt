use Rattle.file_outcomes.proofs.founded.part_journal.Goals as goal

pub invariant_of-founded : goal.invariant_of-founded
invariant_of-founded g c = record { same = c.requires.lent; told = c.requires.told }
