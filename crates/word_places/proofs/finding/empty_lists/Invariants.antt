use Rattle.std.proofs.Common.{◌≡◌, [], replicate, vec_len, vec_capacity}
use Rattle.word_places.proofs.finding.empty_lists.Given as goal

abbrev pub invariant-loop : goal.invariant-loop
invariant-loop l = record {
  empty : l.lists.items ≡ replicate l.counter [];
  many : vec_len l.lists ≡ l.counter;
  room : vec_capacity l.lists ≡ l.count;
}
