use Rattle.std.proofs.Common.{rules}
use Rattle.archive_core.proofs.NumbersLemmas.{takes_none, wide_here}
use Rattle.archive_core.proofs.numbers.take_word.Goals as goal

pub returns-in_default-clause-taken : goal.returns-in_default-clause-taken
returns-in_default-clause-taken c = takes_none c.args.kind c.args.words.now c.args.out.now.items (search rules)

pub returns-in_default-try_from-clause-wide : goal.returns-in_default-try_from-clause-wide
returns-in_default-try_from-clause-wide c = wide_here c.args.kind c.args.words.now (search rules) (search rules) (search rules)
