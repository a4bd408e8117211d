use Rattle.std.proofs.Common.{◌≡◌, take, length, vec_len, vec_capacity}
use Rattle.name_records.specs.Named.{names_of}
use Rattle.name_records.proofs.registering.texts_of.Given as goal

abbrev pub invariant-loop-file : goal.invariant-loop-file
invariant-loop-file l = record {
  room : vec_capacity l.texts ≡ length l.files;
  count : vec_len l.texts ≡ l.file-index;
  these : l.texts.items ≡ take l.file-index (names_of l.files);
}
