use Rattle.std.proofs.Common.{◌≡◌, ◌-◌, ◌≤◌, length}
use Rattle.token_rules.specs.Reading.{body_of}
use Rattle.token_rules.specs.Tokens.{IsOutside}
use Rattle.logtype_text.proofs.EncodedLemmas.{SoFar}
use Rattle.logtype_text.proofs.encoding.encode_body.Given as goal

abbrev pub invariant-loop-span : goal.invariant-loop-span
invariant-loop-span l = record {
  same : body_of l.tokens ≡ l.body;
  in_range : l.at ≤ length l.body;
  outside : IsOutside l.body l.at;
  stored : SoFar l.body l.at l.text.items l.codes.items l.words.items;
}

abbrev pub decreases-loop-span : goal.decreases-loop-span
decreases-loop-span l = length l.body - l.at
