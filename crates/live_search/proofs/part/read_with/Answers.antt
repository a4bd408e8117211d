use Rattle.std.proofs.Common.{rules}
use Rattle.live_search.proofs.PartLemmas.{bad_columns, bad_head, no_front, part_held}
use Rattle.live_search.proofs.part.read_with.Goals as goal

pub returns-in_default-clause-malformed : goal.returns-in_default-clause-malformed
returns-in_default-clause-malformed g c = λ is. no_front c.args.payload.now c.in_default.ensures.none

pub returns-in_err-head-clause-malformed : goal.returns-in_err-head-clause-malformed
returns-in_err-head-clause-malformed g c = λ is. bad_head c.args.payload.now c.in-Some.front.now c.in-Some.ensures.some (c.in_err-head.ensures.malformed (search (rules, is)))

pub returns-in_err-columns-clause-malformed : goal.returns-in_err-columns-clause-malformed
returns-in_err-columns-clause-malformed g c = λ is.
    bad_columns c.args.payload.now c.in-Some.front.now c.in_ok-head.head c.in_ok-head.ensures.is c.in_ok-head.ensures.spelled c.in-Some.ensures.begins (c.in_err-columns.ensures.malformed (search (rules, is)))

pub returns-clause-parts : goal.returns-clause-parts
returns-clause-parts g c =
    part_held c.args.payload.now c.in-Some.front.now c.in_ok-head.head c.in_ok-columns.columns.rows c.in_ok-head.ensures.is c.in_ok-head.ensures.spelled c.in-Some.ensures.begins c.in_ok-columns.ensures.spelled
