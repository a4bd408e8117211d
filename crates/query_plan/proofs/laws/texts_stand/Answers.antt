use Rattle.query_plan.proofs.SlotLemmas.{chunks_may_stand, fronts_begin, texts_stand}
use Rattle.query_plan.proofs.laws.texts_stand.Goals as goal

pub returns-clause-stand : goal.returns-clause-stand
returns-clause-stand c = texts_stand c.parts_are_cut.ensures

pub returns-clause-fronts : goal.returns-clause-fronts
returns-clause-fronts c = fronts_begin c.parts_are_cut.ensures

pub returns-clause-chunks : goal.returns-clause-chunks
returns-clause-chunks c = chunks_may_stand c.parts_are_cut.ensures
