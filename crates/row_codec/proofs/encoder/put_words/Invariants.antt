use Rattle.std.proofs.Common.{◌≡◌, ◌+◌, ◌-◌, ◌≤◌, ◌++◌, drop, length, vec_len, vec_capacity}
use Rattle.row_codec.specs.Steps.{words_of}
use Rattle.row_codec.proofs.encoder.put_words.Given as goal

abbrev pub invariant-loop-coded : goal.invariant-loop-coded
invariant-loop-coded l = record {
  made : l.words.items ++ words_of (drop l.coded-index l.codes) l.rest ≡ words_of l.codes l.fn.used;
  room : vec_len l.words + (length l.codes - l.coded-index) ≤ vec_capacity l.words;
}
