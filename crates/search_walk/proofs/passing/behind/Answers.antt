use Rattle.std.proofs.Common.{rules, sym}
use Rattle.std.proofs.Math.ListN.{drop_of_length-le}
use Rattle.search_walk.proofs.passing.behind.Goals as goal

pub returns-then-gone-types : goal.returns-then-gone-types
returns-then-gone-types c = sym (drop_of_length-le c.args.types.now (search rules))
