use Rattle.std.proofs.Common.{◌↔◌, ◌+◌, ◌∷◌, length}
use Rattle.wild_match.specs.Matches.{Match}
use Rattle.wild_match.specs.declared.pattern.Item.TheVariants.{Many}
use Rattle.query_plan.proofs.letters.matches_behind.Given as goal

-- what is left decides
abbrev pub invariant-steps : goal.invariant-steps
invariant-steps g l =
    Match (Many ∷ l.fn.items) (g.T.Letters.rest l.fn.start) ↔ Match (Many ∷ l.rest) (g.T.Letters.rest l.text)

abbrev pub decreases-steps : goal.decreases-steps
decreases-steps g l = length l.rest + length (g.T.Letters.rest l.text)
