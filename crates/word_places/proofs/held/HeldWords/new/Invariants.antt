use Rattle.std.proofs.Common.{◌≡◌, length, map, take, vec_len, vec_capacity}
use Rattle.word_places.specs.Held.{unread}
use Rattle.word_places.proofs.held.HeldWords.new.Given as goal

abbrev pub invariant-loop-place : goal.invariant-loop-place
invariant-loop-place l = record {
  read : l.records.items ≡ map unread (take l.place-index l.places);
  many : vec_len l.records ≡ l.place-index;
  room : vec_capacity l.records ≡ length l.places;
}
