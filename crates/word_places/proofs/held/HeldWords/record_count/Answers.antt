use Rattle.std.proofs.Common.{subst}
use Rattle.word_places.specs.Held.{AreNumbered, HeldNames}
use Rattle.word_places.proofs.held.HeldWords.record_count.Goals as goal

pub returns-clause-numbered : goal.returns-clause-numbered
returns-clause-numbered c = subst (λ (n : HeldNames). AreNumbered 0 n.records) c.self.view_is c.self.invariant.0
