use Rattle.std.proofs.Common.{◌≡◌, ◌-◌, ◌<◌, ◌≤◌, length, vec_len, vec_capacity}
use Rattle.std.specs.Prelude.{All}
use Rattle.token_rules.specs.Reading.{body_of}
use Rattle.token_rules.specs.Tokens.{IsOutside}
use Rattle.logtype_text.specs.Parts.{AreCodes}
use Rattle.logtype_text.proofs.PartsLemmas.{Before}
use Rattle.logtype_text.proofs.splitting.split_into.Given as goal

abbrev pub invariant-loop-span : goal.invariant-loop-span
invariant-loop-span l = record {
  same : body_of l.tokens ≡ l.body;
  in_range : l.at ≤ length l.body;
  outside : IsOutside l.body l.at;
  room : vec_len l.symbols ≤ l.at;
  reserved : length l.body ≤ vec_capacity l.symbols;
  before : Before l.body l.at l.symbols.items l.spans.items;
  ranges : All (λ p. (p.start < p.end) × (p.end ≤ length l.body)) l.spans.items;
  codes : AreCodes l.body l.spans.items l.codes.items;
}

abbrev pub decreases-loop-span : goal.decreases-loop-span
decreases-loop-span l = length l.body - l.at
