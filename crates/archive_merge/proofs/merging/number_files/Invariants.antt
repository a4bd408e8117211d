use Rattle.std.proofs.Common.{◌≡◌, length, vec_capacity, vec_len}
use Rattle.archive_merge.specs.StepsMerging.{AreFresh}
use Rattle.archive_merge.proofs.merging.number_files.Given as goal

abbrev pub invariant-loop-index : goal.invariant-loop-index
invariant-loop-index l = record {
  room : vec_capacity l.files ≡ vec_capacity l.fn.files;
  count : vec_len l.files ≡ l.index;
  long : length l.files.items ≡ l.index;
  fresh : AreFresh l.first l.files.items;
}
