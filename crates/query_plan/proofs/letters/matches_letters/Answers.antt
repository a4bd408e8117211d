use Rattle.std.proofs.Common.{rules, IsTrue}
use Rattle.query_plan.proofs.LetterLemmas.{front_decides, many_decides}
use Rattle.query_plan.proofs.letters.matches_letters.Goals as goal

pub returns-in-Some-split_first : goal.returns-in-Some-split_first
returns-in-Some-split_first g c =
    let left = c.in-Some.left in
    many_decides (IsTrue c.matches_behind.result) c.args.items.now (g.T.Letters.rest c.args.start) left.items.now
    c.in-Some-split_first.field-0-0.now c.in-Some-split_first.rest.now (g.T.Letters.rest left.text)
    (search rules) (search rules) (search rules) c.matches_behind.ensures

pub returns-in-None : goal.returns-in-None
returns-in-None g c =
    let left = c.in-Some.left in
    front_decides (IsTrue c.is_over.result) c.args.items.now (g.T.Letters.rest c.args.start) left.items.now (g.T.Letters.rest left.text)
    (search rules) (search rules)
