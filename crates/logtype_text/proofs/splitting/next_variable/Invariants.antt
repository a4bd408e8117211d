use Rattle.std.proofs.Common.{◌≡◌, ◌-◌, ◌≤◌, length}
use Rattle.token_rules.specs.Reading.{body_of}
use Rattle.token_rules.specs.Tokens.{IsOutside}
use Rattle.logtype_text.specs.Parts.{IsFree}
use Rattle.logtype_text.proofs.splitting.next_variable.Given as goal

abbrev pub invariant-loop-token : goal.invariant-loop-token
invariant-loop-token l = record {
  same : body_of l.tokens ≡ body_of l.initial.tokens;
  ordered : l.from ≤ l.at;
  in_range : l.at ≤ length (body_of l.initial.tokens);
  outside : IsOutside (body_of l.initial.tokens) l.at;
  free : IsFree (body_of l.initial.tokens) l.from l.at;
}

abbrev pub decreases-loop-token : goal.decreases-loop-token
decreases-loop-token l = length (body_of l.initial.tokens) - l.at
