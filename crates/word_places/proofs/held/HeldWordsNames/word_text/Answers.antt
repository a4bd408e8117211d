use Rattle.std.proofs.Common.{◌≤◌, ◌^◌, length, subst, arith}
use Rattle.word_places.specs.Held.{HeldNames, lends}
use Rattle.word_places.proofs.OrderLemmas.{lent_count}
use Rattle.word_places.proofs.held.HeldWordsNames.word_text.Goals as goal

pub returns-clause-few : goal.returns-clause-few
returns-clause-few c = subst (λ (n : HeldNames). length (lends n.records) ≤ 2 ^ 32) c.self.view_is (omega (arith, lent_count 0 c.self.inside.records.items c.self.invariant.0))
