use Rattle.std.proofs.Common.{◌≡◌, length, take, vec_len, vec_capacity}
use Rattle.word_places.proofs.sharing.share_each.Given as goal

abbrev pub invariant-loop-record : goal.invariant-loop-record
invariant-loop-record l = record {
  same : l.list.items ≡ take l.record-index l.records;
  many : vec_len l.list ≡ l.record-index;
  room : vec_capacity l.list ≡ length l.records;
}
