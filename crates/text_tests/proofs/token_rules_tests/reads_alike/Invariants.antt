use Rattle.std.proofs.Common.{◌≡◌, ◌-◌, ◌≤◌, length}
use Rattle.token_rules.specs.Reading.{body_of}
use Rattle.token_rules.specs.Tokens.{IsOutside}
use Rattle.text_tests.proofs.token_rules_tests.reads_alike.Given as goal

abbrev pub invariant-loop-token : goal.invariant-loop-token
invariant-loop-token l = record { same : body_of l.reader ≡ l.body; in_range : l.from ≤ length l.body; outside : IsOutside l.body l.from }

abbrev pub decreases-loop-token : goal.decreases-loop-token
decreases-loop-token l = length l.body - l.from
