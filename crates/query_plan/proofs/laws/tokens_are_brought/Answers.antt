use Rattle.query_plan.proofs.TokenLemmas.{foreign_stands, tokens_brought, tokens_stand}
use Rattle.query_plan.proofs.laws.tokens_are_brought.Goals as goal

pub returns-clause-stand : goal.returns-clause-stand
returns-clause-stand c = tokens_stand c.parts_are_cut.ensures

pub returns-clause-brought : goal.returns-clause-brought
returns-clause-brought c = tokens_brought c.parts_are_cut.ensures

pub returns-clause-foreign : goal.returns-clause-foreign
returns-clause-foreign c = foreign_stands
