use Rattle.std.proofs.Common.{rules, sym}
use Rattle.std.proofs.lemmas.List.{take_all}
use Rattle.search_walk.proofs.passing.first_of.Goals as goal

pub returns-then-count-types : goal.returns-then-count-types
returns-then-count-types c = sym (take_all c.args.count c.args.types.now (search rules))
