use Rattle.std.proofs.Common.{rules}
use Rattle.query_plan.proofs.BonesLemmas.{some_length, some_inner_at, word_inner}
use Rattle.query_plan.proofs.skeleton.push_bones.Goals as goal

pub is_var-requires-clause-not_empty : goal.is_var-requires-clause-not_empty
is_var-requires-clause-not_empty c =
    some_length c.as_slice.result.now (word_inner c.args.piece.now c.args.behind.now c.as_slice.result.now c.requires (search rules))

pub is_var-requires-clause-no_delimiter : goal.is_var-requires-clause-no_delimiter
is_var-requires-clause-no_delimiter c =
    some_inner_at c.as_slice.result.now (word_inner c.args.piece.now c.args.behind.now c.as_slice.result.now c.requires (search rules))
