use Rattle.std.proofs.Common.{◌≤◌, length}
use Rattle.row_codec.specs.StepsCut.{AreTokenBytes}
use Rattle.row_codec.proofs.cutting.past_token_bytes.Given as goal

abbrev pub invariant-loop-after : goal.invariant-loop-after
invariant-loop-after l = record {
  bytes : AreTokenBytes l.text l.rest;
  within : length l.rest ≤ length l.text;
}

abbrev pub decreases-loop-after : goal.decreases-loop-after
decreases-loop-after l = length l.rest
