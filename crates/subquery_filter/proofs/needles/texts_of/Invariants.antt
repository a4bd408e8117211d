use Rattle.std.proofs.Common.{◌≡◌, length}
use Rattle.subquery_filter.proofs.MarkLemmas.{TextsBefore}
use Rattle.subquery_filter.proofs.needles.texts_of.Given as goal

abbrev pub invariant-loop-token : goal.invariant-loop-token
invariant-loop-token l = (length l.texts.items ≡ l.token-index) × TextsBefore l.tokens l.token-index l.texts.items
