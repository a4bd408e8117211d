use Rattle.std.proofs.Common.{sym, ◌∙◌, rules}
use Rattle.archive_places.proofs.HeadLemmas.{front_found, one_head}
use Rattle.archive_places.proofs.heads.segment_of.Goals as goal

pub returns-then-not-is_head_of-clause-damaged : goal.returns-then-not-is_head_of-clause-damaged
returns-then-not-is_head_of-clause-damaged c = λ _ p same fits spells.
    let e = c.in_ok-head.ensures in
    c.is_head_of.ensures.no c.if-not-is_head_of.true (front_found c.args.front.now c.in_ok-head.head p (one_head c.in_ok-head.head p.head e.is fits (sym e.spelled ∙ spells)) same)

pub returns-clause-front : goal.returns-clause-front
returns-clause-front c = c.is_head_of.ensures.yes (search rules)
