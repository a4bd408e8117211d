use Rattle.std.proofs.Common.{◌≡◌, ◌-◌, ◌≤◌, false, length, take}
use Rattle.std.specs.Prelude.{All}
use Rattle.logtype_text.specs.TypeText.{is_escaped}
use Rattle.logtype_text.proofs.plain.plain_front.Given as goal

abbrev pub invariant-loop-end : goal.invariant-loop-end
invariant-loop-end l = record {
  in_range : l.end ≤ length l.text;
  plain : All (λ b. is_escaped b ≡ false) (take l.end l.text);
}

abbrev pub decreases-loop-end : goal.decreases-loop-end
decreases-loop-end l = length l.text - l.end
