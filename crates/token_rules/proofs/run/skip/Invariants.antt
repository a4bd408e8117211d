use Rattle.std.proofs.Common.{length, ◌-◌, ◌≤◌}
use Rattle.token_rules.specs.StepsOfWindows.{Shows}
use Rattle.token_rules.specs.Tokens.{OnlyDelimiters}
use Rattle.token_rules.proofs.run.skip.Given as goal

abbrev pub invariant-loop-at : goal.invariant-loop-at
invariant-loop-at l = record {
  ordered : l.from ≤ l.at;
  in_range : l.at ≤ length l.body;
  skipped : OnlyDelimiters l.body l.from l.at;
  shows : Shows l.body l.window;
}

abbrev pub decreases-loop-at : goal.decreases-loop-at
decreases-loop-at l = length l.body - l.at
