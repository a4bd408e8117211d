use Rattle.std.proofs.Common.{sym, ◌∙◌, [], append-nil}
use Rattle.dict_lock.proofs.shared.unsaved.Goals as goal

pub returns-clause-own : goal.returns-clause-own
returns-clause-own g c = c.put.ensures.own [] (c.take-turn.ensures.entries ∙ sym (append-nil _)) ∙ (append-nil _ ∙ c.take-turn.ensures.own)
