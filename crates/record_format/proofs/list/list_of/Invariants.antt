use Rattle.std.proofs.Common.{◌≡◌, vec_len, vec_capacity}
use Rattle.record_format.proofs.ListLemmas.{IsReadTo}
use Rattle.record_format.proofs.list.list_of.Given as goal

abbrev pub invariant-loop : goal.invariant-loop
invariant-loop l = IsReadTo l.bytes l.count l.texts.items l.rest × (vec_len l.texts ≡ l.counter) × (vec_capacity l.texts ≡ l.count)
