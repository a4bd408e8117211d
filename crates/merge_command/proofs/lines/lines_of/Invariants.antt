use Rattle.std.proofs.Common.{◌≡◌, map, take, length, vec_len, vec_capacity}
use Rattle.file_outcomes.specs.Taken.{line_of_taken}
use Rattle.merge_command.specs.Came.{lines_by}
use Rattle.merge_command.proofs.lines.lines_of.Given as goal

abbrev pub invariant-loop-place : goal.invariant-loop-place
invariant-loop-place l = record {
  room : vec_capacity l.lines ≡ length l.merged;
  count : vec_len l.lines ≡ l.place;
  these : map line_of_taken l.lines.items ≡ lines_by l.files (take l.place l.merged);
}
