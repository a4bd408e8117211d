use Rattle.std.proofs.Common.{◌≡◌, ℕ, ◌-◌, List, ◌++◌, All, length, map, vec_len, vec_capacity}
use Rattle.record_format.specs.Lists.{four_bytes}
use Rattle.record_format.proofs.ListLemmas.{IsReadTo}
use Rattle.word_places.specs.Record.{AreBeside, IsTextAt, text_from}
use Rattle.word_places.proofs.record.walked.Given as goal

abbrev pub invariant-loop : goal.invariant-loop
invariant-loop l = record {
  read : IsReadTo (four_bytes l.count ++ l.texts) l.count (map (text_from l.bytes) l.starts.items) l.rest;
  stand : All (IsTextAt l.bytes) l.starts.items;
  beside : AreBeside l.bytes (length l.bytes - length l.rest) l.starts.items;
  front : (front : List ℕ) × (l.bytes ≡ front ++ l.rest);
  many : vec_len l.starts ≡ l.counter;
  room : vec_capacity l.starts ≡ l.count;
}
