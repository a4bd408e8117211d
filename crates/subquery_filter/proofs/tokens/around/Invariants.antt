use Rattle.std.proofs.Common.{◌≡◌, ◌++◌, ◌∷◌, [], drop}
use Rattle.wild_match.specs.declared.pattern.Item.TheVariants.{Many}
use Rattle.query_plan.specs.Needs.{around}
use Rattle.query_plan.specs.Pieces.{bytes}
use Rattle.subquery_filter.proofs.tokens.around.Given as goal

abbrev pub invariant-loop-byte : goal.invariant-loop-byte
invariant-loop-byte l = l.items.items ++ bytes (drop l.byte-index l.text) (Many ∷ []) ≡ around l.text
