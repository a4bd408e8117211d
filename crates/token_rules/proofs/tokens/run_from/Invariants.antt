use Rattle.std.proofs.Common.{length, ◌-◌, ◌<◌, ◌≤◌, ℕ}
use Rattle.std.specs.Prelude.{IsTrue, slice_index, slice_range}
use Rattle.token_rules.specs.Classes.{HasClasses}
use Rattle.token_rules.specs.Tokens.{is_token_byte}
use Rattle.token_rules.proofs.tokens.run_from.Given as goal

abbrev pub invariant-loop-end : goal.invariant-loop-end
invariant-loop-end l = record {
  ordered : l.start ≤ l.end;
  in_range : l.end ≤ length l.body;
  unbroken : (k : ℕ) → l.start ≤ k → k < l.end → IsTrue (is_token_byte (slice_index l.body k));
  classes : HasClasses (slice_range l.body l.start l.end) l.any l.all;
}

abbrev pub decreases-loop-end : goal.decreases-loop-end
decreases-loop-end l = length l.body - l.end
