use Rattle.std.proofs.Common.{◌≡◌, ◌<◌, ℕ, get_or}
use Rattle.wild_match.specs.declared.pattern.Item.{Item}
use Rattle.search_walk.proofs.query.are_same.Given as goal

abbrev pub invariant-loop-place : goal.invariant-loop-place
invariant-loop-place l = (k : ℕ) (d : Item) → k < l.place → get_or l.items k d ≡ get_or l.others k d
