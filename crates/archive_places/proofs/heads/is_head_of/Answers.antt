use Rattle.std.proofs.Common.{rules}
use Rattle.archive_places.proofs.HeadLemmas.{front_flags, front_numbers, front_read}
use Rattle.archive_places.proofs.heads.is_head_of.Goals as goal

pub returns-then-has_numbers-clause-yes : goal.returns-then-has_numbers-clause-yes
returns-then-has_numbers-clause-yes c = λ is.
    front_read c.args.front.now c.args.head.now (c.has_numbers.ensures.0 (search rules)) (c.has_flags.ensures.0 is)

pub returns-then-has_numbers-clause-no : goal.returns-then-has_numbers-clause-no
returns-then-has_numbers-clause-no c = λ is same. absurd (cc (is, c.has_flags.ensures.1 (front_flags c.args.front.now c.args.head.now same)))

pub returns-else-has_numbers-clause-no : goal.returns-else-has_numbers-clause-no
returns-else-has_numbers-clause-no c = λ _ same. absurd (cc (c.if-has_numbers.false, c.has_numbers.ensures.1 (front_numbers c.args.front.now c.args.head.now same)))
