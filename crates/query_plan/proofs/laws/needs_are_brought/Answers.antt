use Rattle.query_plan.proofs.PartsLemmas.{symbols_of}
use Rattle.query_plan.proofs.TailLemmas.{needs}
use Rattle.query_plan.proofs.laws.needs_are_brought.Goals as goal

pub returns-clause-words : goal.returns-clause-words
returns-clause-words c p s body parts searched stamp behind are m =
    (needs p s body parts searched stamp behind (symbols_of c.parts_are_cut.ensures body parts are) m).words

pub returns-clause-skeleton : goal.returns-clause-skeleton
returns-clause-skeleton c p s body parts searched stamp behind are m =
    (needs p s body parts searched stamp behind (symbols_of c.parts_are_cut.ensures body parts are) m).bony
