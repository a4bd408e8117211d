use Rattle.std.proofs.Common.{rules}
use Rattle.query_plan.proofs.BonesLemmas.{some_inner_at, word_inner}
use Rattle.query_plan.proofs.needed.push_variable.Goals as goal

pub is_var-requires-clause-no_delimiter : goal.is_var-requires-clause-no_delimiter
is_var-requires-clause-no_delimiter c =
    some_inner_at c.as_slice-then-has_own_byte.result.now
    (word_inner c.args.piece.now c.args.behind.now c.as_slice-then-has_own_byte.result.now c.requires (search rules))
